-- Which divisions a table as it was burned got wrong: the steps through it, its faulty cells as they are. A mark is 0 exactly if each byte that the run reads is a digit and its quotient and remainder are right.
use Rattle.std.specs.Prelude.{◌≡◌, ℕ, zero, suc, ◌+◌, ◌-◌, ◌*◌, ◌/◌, ◌%◌, ◌^◌, ◌<◌, ◌≤◌, Bool, false, cond, ◌||◌, ◌⊎◌, ◌↔◌, List, [], ◌∷◌, length, pos, ◌-ℤ◌, ◌*ℤ◌, ◌≢◌, nat_le, nat_lt, slice_index, Result, Ok, Err}
use Rattle.selection.specs.Answer.{refusal}
use Rattle.selection.specs.computed.Answer.{answer_by}
use Rattle.selection.specs.computed.Bits.{for_bits}
use Rattle.selection.specs.computed.Refusals.{Rule, differ, number, first_refusal, Wrongs, Refuses}
use Rattle.selection.specs.Repair.{FaultyAt}
use Rattle.selection.specs.declared.Estimate.{Estimate}
use Rattle.selection.specs.declared.Refusal.{Refusal}
use Rattle.recurrence.specs.CarrySave.{multiple, lowest_carry}
use Rattle.recurrence.specs.Recurrence.{State, Operands, residue, cell_at, after, digits, value, end_remainder, corrected_quotient, corrected_remainder, result_of}
use Rattle.recurrence.specs.computed.Run.{longest, digits_outside, span_rule}
use Rattle.recurrence.specs.declared.RunResult.{RunResult}
use Rattle.recurrence.specs.declared.recheck.AffectedMark.{AffectedMark}

-- ---- what it means

-- quotient and remainder of N·4^(n−1) by D, the right result of n digits
abbrev pub exact_result : ℕ → ℕ → ℕ → RunResult
exact_result N D n = record { quotient = N * 4 ^ (n - 1) / D; remainder = N * 4 ^ (n - 1) % D; count = n }

-- a result of M by D that shows itself wrong: the remainder is not below D, or the quotient times D is above M
abbrev pub ShowsWrong : ℕ → ℕ → RunResult → Type 0
ShowsWrong M D x = (D ≤ x.remainder) ⊎ (M < x.quotient * D)

-- m is 1 if P holds, else 0
-- § 17.2 A mark is 0 exactly if the run is right, and 1 exactly if it is wrong.
pub record Marks (P : Type 0) (m : ℕ) : Type 0 where
  pub marked : P → m ≡ 1
  pub unmarked : (P → ⊥) → m ≡ 0

-- in a divider with the estimate E
module _ (E : Estimate) where
  -- the byte that step i through the table t reads
  abbrev pub byte_read : List ℕ → ℕ → ℕ → ℕ → ℕ
  byte_read t N D i = slice_index t (cell_at E (after E t N D i))

  -- one of the first n steps reads a byte above 4, which is no digit
  pub record ReadsNoDigit (t : List ℕ) (N D n : ℕ) : Type 0 where
    pub step : ℕ
    pub early : step < n
    pub above : 4 < byte_read t N D step

  -- n steps read digits only, and the result that these form is right
  -- § 17.2 A mark is 0 exactly if the run is right, and 1 exactly if it is wrong.
  pub record RightRun (t : List ℕ) (N D n : ℕ) : Type 0 where
    pub digits : (i : ℕ) → i < n → byte_read t N D i ≤ 4
    pub result : result_of E t N D n ≡ exact_result N D n

  -- a byte that is no digit, or a wrong result
  -- § 17.2 A mark is 0 exactly if the run is right, and 1 exactly if it is wrong.
  abbrev pub WrongRun : List ℕ → ℕ → ℕ → ℕ → Type 0
  WrongRun t N D n = ReadsNoDigit t N D n ⊎ (result_of E t N D n ≢ exact_result N D n)

  -- one of the first n steps reads a faulty cell
  -- § 17.3 With mark 1 a step has read a faulty cell.
  pub record ReadsFaulty (t : List ℕ) (N D n : ℕ) : Type 0 where
    pub step : ℕ
    pub early : step < n
    pub faulty : FaultyAt E t (cell_at E (after E t N D step))

  -- neither the number S that n digits make nor S − 1 is the quotient, so that no sign of the last remainder makes it right
  -- § 17.3 With mark 1 neither S nor S − 1 is the quotient, or a byte above 4 was read.
  pub record NeitherRight (t : List ℕ) (N D n : ℕ) : Type 0 where
    pub number : value (digits E t N D n) ≡ pos (N * 4 ^ (n - 1) / D) → ⊥
    pub less_one : value (digits E t N D n) -ℤ pos 1 ≡ pos (N * 4 ^ (n - 1) / D) → ⊥

  -- what the mark m of n steps claims
  -- § 17.3 With mark 0 the words hold the true remainder.
  pub record RunMarkClaim (t : List ℕ) (N D n m : ℕ) : Type 0 where
    pub right : (m ≡ 0) ↔ RightRun t N D n
    pub wrong : (m ≡ 1) ↔ WrongRun t N D n
    -- 0: before each step and after the last, the two words hold the true remainder, by whose sign a divider corrects
    -- § 17.3 With mark 0 the words hold the true remainder.
    pub words : m ≡ 0 → (i : ℕ) → i ≤ n → residue (after E t N D i) ≡ pos (N * 4 ^ i) -ℤ pos 4 *ℤ (value (digits E t N D i) *ℤ pos D)
    -- and neither number that the digits form is negative
    pub quotient : m ≡ 0 → pos (result_of E t N D n).quotient ≡ corrected_quotient (value (digits E t N D n)) (end_remainder E t N D n)
    pub remainder : m ≡ 0 → pos (result_of E t N D n).remainder ≡ corrected_remainder (end_remainder E t N D n) D
    -- 1: where all bytes read are digits, the result shows itself wrong, and neither choice of the quotient is right
    pub shown : m ≡ 1 → ReadsNoDigit t N D n ⊎ ShowsWrong (N * 4 ^ (n - 1)) D (result_of E t N D n)
    -- § 17.3 With mark 1 neither S nor S − 1 is the quotient, or a byte above 4 was read.
    pub neither : m ≡ 1 → ReadsNoDigit t N D n ⊎ NeitherRight t N D n
    -- and a step has read a faulty cell (a run that reads one may be right all the same)
    -- § 17.3 With mark 1 a step has read a faulty cell.
    pub faulty : m ≡ 1 → ReadsFaulty t N D n

-- ---- the call

-- what is refused of a table of len bytes. 2: n is 0, or above the most that the recurrence gives; 3: D or N outside its span; 8: length not 2,048
-- § 17.6 Affected records are refused under these rules.
unfoldable pub affected_run_rules : ℕ → ℕ → ℕ → ℕ → List Rule
affected_run_rules len N D n =
    number 2 (digits_outside longest n)
    ∷ span_rule N D
    ∷ number 8 (differ len 2048)
    ∷ []

abbrev pub mark_zeros : Refusal → AffectedMark
mark_zeros f = record { refusal = f; affected = 0 }

abbrev pub mark_values : ℕ → AffectedMark
mark_values m = record { refusal = refusal 0 0; affected = m }

abbrev pub mark_numbers : Result ℕ Refusal → AffectedMark
mark_numbers (Ok m) = mark_values m
mark_numbers (Err f) = mark_zeros f

-- none of it: what is accepted
pub record AffectedRunAccepts (len N D n : ℕ) : Type 0 where
  pub operands : Operands N D
  pub some : 1 ≤ n
  pub most : n ≤ longest
  pub size : len ≡ 2048

-- x is the answer for a divider with the estimate E
pub record RunRechecks (E : Estimate) (t : List ℕ) (N D n : ℕ) (x : AffectedMark) : Type 0 where
  pub refuses : Refuses (Wrongs (affected_run_rules (length t) N D n)) (λ y. y.refusal) mark_zeros x
  pub rechecks : AffectedRunAccepts (length t) N D n → Marks (WrongRun E t N D n) x.affected

-- ---- computed

-- what the digit byte d leaves of a remainder, P − qD, and D more, modulo 2^64
abbrev pub left_by : ℕ → State → ℕ
left_by d p = (p.sum + p.carry + multiple d p.divisor + lowest_carry d + p.divisor) % 2 ^ 64

-- what that has to be below
abbrev pub left_end : ℕ → ℕ
left_end D = 2 * D

-- the byte is no digit, or P − qD is not from −D to D − 1
abbrev pub strays : ℕ → State → Bool
strays d p = nat_lt 4 d || nat_le (left_end p.divisor) (left_by d p)

-- whether one of the first n steps strays, of any run: its states and its digit bytes
unfoldable pub strays_below : (ℕ → State) → (ℕ → ℕ) → ℕ → Bool
strays_below p d zero = false
strays_below p d (suc n) = strays_below p d n || strays (d n) (p n)

-- in a divider with the estimate E
module _ (E : Estimate) where
  -- whether one of the first n steps through the table t, as it is, strays
  abbrev pub runs_wrong : List ℕ → ℕ → ℕ → ℕ → Bool
  runs_wrong t N D n = strays_below (after E t N D) (byte_read E t N D) n

  -- 1 if so, else 0
  abbrev pub run_mark : List ℕ → ℕ → ℕ → ℕ → ℕ
  run_mark t N D n = cond (runs_wrong t N D n) 1 0

  -- the call's answer
  abbrev pub affected_run_of : List ℕ → ℕ → ℕ → ℕ → AffectedMark
  affected_run_of t N D n = answer_by mark_zeros (mark_values (run_mark t N D n)) (first_refusal (affected_run_rules (length t) N D n))

-- the call's answer by the number of bits that the divider adds of each word
abbrev pub affected_run_for : ℕ → List ℕ → ℕ → ℕ → ℕ → AffectedMark
affected_run_for bits t N D n = for_bits mark_zeros (λ E. affected_run_of E t N D n) bits
