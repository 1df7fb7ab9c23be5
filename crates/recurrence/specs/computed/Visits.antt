-- How often each cell is met: the specification, section 15. One statement for all k.
use Rattle.std.specs.Prelude.{◌≡◌, ℕ, ◌+◌, ◌-◌, ◌*◌, ◌%◌, ◌^◌, ◌<◌, ◌≤◌, cond, ◌↔◌, List, [], ◌∷◌, ◌++◌, length, ◌==◌, slice_index}
use Rattle.laws.specs.Lists.{filled, KeptFrom, FilledWith}
use Rattle.laws.specs.Sums.{sum_below}
use Rattle.selection.specs.Answer.{refusal}
use Rattle.selection.specs.computed.Answer.{answer_by}
use Rattle.selection.specs.computed.Outcomes.{made_table}
use Rattle.selection.specs.computed.Refusals.{Rule, too_short, below, same, either_of, number, Wrongs, Refuses, first_refusal}
use Rattle.selection.specs.Table.{Passes}
use Rattle.selection.specs.computed.Table.{table_rules}
use Rattle.selection.specs.declared.Refusal.{Refusal}
use Rattle.recurrence.specs.Recurrence.{cell_at, after}
use Rattle.recurrence.specs.computed.Run.{most_digits, digits_outside}
use Rattle.selection.specs.declared.Estimate.TheVariants.{EightBits}

-- ---- the counts

-- 1 where a is c, else 0
unfoldable pub is_at : ℕ → ℕ → ℕ
is_at a c = cond (a == c) 1 0

-- how many of the n digits of N by D are taken at the cell c
-- § 15.1 The list holds how often each cell is met.
unfoldable pub run_visits : List ℕ → ℕ → ℕ → ℕ → ℕ → ℕ
run_visits t N D n c = sum_below (λ i. is_at (cell_at EightBits (after EightBits t N D i)) c) n

-- the operand of k significant bits, of which those after the leading one make x; the leading one, bit k - 1, is placed at bit 60
-- § 15.1 Every number of k significant bits is an operand once.
abbrev pub operand : ℕ → ℕ → ℕ
operand k x = (2 ^ (k - 1) + x) * 2 ^ (61 - k)

-- of all pairs of operands of k significant bits
unfoldable pub all_visits : List ℕ → ℕ → ℕ → ℕ → ℕ
all_visits t k n c = sum_below (λ x. sum_below (λ y. run_visits t (operand k x) (operand k y) n c) (2 ^ (k - 1))) (2 ^ (k - 1))

-- a digit is taken at the cell c: digit i of the operand x by the operand y, for one x, y and i
pub record Met (t : List ℕ) (k n c : ℕ) : Type 0 where
  pub x : ℕ
  pub y : ℕ
  pub i : ℕ
  pub dividend : x < 2 ^ (k - 1)
  pub divisor : y < 2 ^ (k - 1)
  pub taken : i < n
  pub here : cell_at EightBits (after EightBits t (operand k x) (operand k y) i) ≡ c

-- what is claimed of the visits, for all k, all n and all tables
-- § 15.2 The counts add up to n·4^(k−1), and one is 0 exactly where no run goes.
pub record VisitsClaim (t : List ℕ) (k n : ℕ) : Type 0 where
  -- they add up to n·4^(k−1)
  pub total : sum_below (all_visits t k n) 2048 ≡ n * 4 ^ (k - 1)
  -- a cell has 0 exactly if no such run takes a digit there
  pub zero : (c : ℕ) → (all_visits t k n c ≡ 0) ↔ (Met t k n c → ⊥)
  -- for k up to 6 and n up to 28 no number is above 28,672
  pub most : k ≤ 6 → n ≤ 28 → (c : ℕ) → all_visits t k n c ≤ 28672

-- ---- the call

-- what is refused of the arguments. 2: n is 0 or above 28. 16: k is 0 or above 6. 7: the list is too short
-- § 15.3 Visits are refused under these rules.
unfoldable pub visits_rules : ℕ → ℕ → ℕ → List Rule
visits_rules k n len =
    number 2 (digits_outside most_digits n)
    ∷ number 16 (either_of (same k 0) (below 6 k))
    ∷ number 7 (too_short len 2048)
    ∷ []

-- the outcome: the answer, and what the list then holds; refused, the list v is as it was
pub record VisitsOutcome : Type 0 where
  pub answer : Refusal
  pub visits : List ℕ

abbrev pub visits_refused : List ℕ → Refusal → VisitsOutcome
visits_refused v f = record { answer = f; visits = v }

-- the outcome, where the list held v: after the arguments' refusals the table's, 8, 9, 10
abbrev pub visits_of : List ℕ → ℕ → ℕ → List ℕ → VisitsOutcome
visits_of t k n v = answer_by (visits_refused v) (record { answer = refusal 0 0; visits = filled (all_visits t k n) 2048 v }) (first_refusal (visits_rules k n (length v) ++ table_rules EightBits t))

-- x is the outcome, where the list held v: the first 2,048 numbers are the visits of the cells, and the rest is kept
-- § 15.1 The list holds how often each cell is met.
pub record Visits (t : List ℕ) (k n : ℕ) (v : List ℕ) (x : VisitsOutcome) : Type 0 where
  pub refuses : Refuses (Wrongs (visits_rules k n (length v) ++ table_rules EightBits t)) (λ y. y.answer) (visits_refused v) x
  pub counts : ((m p : ℕ) → Wrongs (visits_rules k n (length v) ++ table_rules EightBits t) m p → ⊥) → FilledWith (all_visits t k n) 2048 v x.visits

-- ---- the demand

-- the number N has k significant bits, the first of them a one at bit 60
pub record Significant (k N : ℕ) : Type 0 where
  pub least : 2 ^ 60 ≤ N
  pub most : N < 2 ^ 61
  pub zeros : N % 2 ^ (61 - k) ≡ 0

-- N is the operand of one x, and of no other
-- § 15.1 Every number of k significant bits is an operand once.
pub record OperandOnce (k N : ℕ) : Type 0 where
  pub x : ℕ
  pub bits : x < 2 ^ (k - 1)
  pub is : operand k x ≡ N
  pub only : (y : ℕ) → operand k y ≡ N → y ≡ x

-- nothing is refused, and the list that held v shows this
pub record VisitsShown (t : List ℕ) (k n : ℕ) (v : List ℕ) (x : VisitsOutcome) : Type 0 where
  pub accepted : x.answer ≡ refusal 0 0
  pub shown : (c : ℕ) → c < 2048 → slice_index x.visits c ≡ all_visits t k n c
  pub kept : KeptFrom 2048 v x.visits
  -- the counts add up to n·4^(k−1)
  pub total : sum_below (λ c. slice_index x.visits c) 2048 ≡ n * 4 ^ (k - 1)
  -- a cell shows 0 exactly if no such run takes a digit there
  pub zero : (c : ℕ) → c < 2048 → (slice_index x.visits c ≡ 0) ↔ (Met t k n c → ⊥)

-- § 15.2 The counts add up to n·4^(k−1), and one is 0 exactly where no run goes.
pub record VisitsDemand : Type 0 where
  -- all numbers of k significant bits with a leading one at bit 60 are operands, each once, and no other number is
  pub operands : (k N : ℕ) → 1 ≤ k → k ≤ 6 → Significant k N ↔ OperandOnce k N
  pub claim : (t : List ℕ) (k n : ℕ) → VisitsClaim t k n
  -- what is accepted, in numbers: a list of exactly 2,048 too
  pub shown : (t : List ℕ) (k n : ℕ) (v : List ℕ) → 1 ≤ n → n ≤ 28 → 1 ≤ k → k ≤ 6 → 2048 ≤ length v → Passes EightBits t → VisitsShown t k n v (visits_of t k n v)

-- an example: with two significant bits the operands are 2^60 and 3·2^59, in the rows 0 and 8, and three digits of each of the four pairs through the made table are twelve
-- § 15.1 Two bits and three digits are counted in numbers.
pub record VisitsExample : Type 0 where
  pub row_0 : (all_visits (made_table EightBits) 2 3 47 ≡ 1) × (all_visits (made_table EightBits) 2 3 63 ≡ 3) × (all_visits (made_table EightBits) 2 3 72 ≡ 1) × (all_visits (made_table EightBits) 2 3 76 ≡ 1)
  pub row_8 : (all_visits (made_table EightBits) 2 3 1071 ≡ 2) × (all_visits (made_table EightBits) 2 3 1087 ≡ 2) × (all_visits (made_table EightBits) 2 3 1096 ≡ 1) × (all_visits (made_table EightBits) 2 3 1100 ≡ 1)
