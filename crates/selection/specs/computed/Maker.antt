-- The maker's calls: what they refuse, and their answers: the specification, section 5.
use Rattle.std.specs.Prelude.{◌≡◌, ℕ, List, [], ◌∷◌, ◌++◌, length, drop, Result, Ok, Err}
use Rattle.selection.specs.Answer.{refusal}
use Rattle.selection.specs.computed.Refusals.{Rule, too_short, below, number, Wrongs, Refuses}
use Rattle.selection.specs.declared.Refusal.{Refusal}
use Rattle.selection.specs.declared.maker.Limits.{Limits}
use Rattle.selection.specs.declared.Estimate.{Estimate}
use Rattle.selection.specs.Maker.{AreLimits, MadeTable}

-- what the call for a row's limits refuses, which takes no column; and the maker, which writes 2,048 bytes from the buffer's start
-- § 18.1 Each condition has a number and a place.
abbrev pub limits_rules : ℕ → List Rule
limits_rules r = number 1 (below 15 r) ∷ []

-- § 18.1 Each condition has a number and a place.
abbrev pub make_rules : ℕ → List Rule
make_rules len = number 7 (too_short len 2048) ∷ []

abbrev pub limits_zeros : Refusal → Limits
limits_zeros f = record { refusal = f; limits = 0 ∷ 0 ∷ 0 ∷ 0 ∷ 0 ∷ 0 ∷ [] }

abbrev pub limits_numbers : Result (List ℕ) Refusal → Limits
limits_numbers (Ok l) = record { refusal = refusal 0 0; limits = l }
limits_numbers (Err f) = limits_zeros f

-- the outcome of the maker: its answer, and what the buffer then holds; refused, the buffer s is as it was
pub record MakeOutcome : Type 0 where
  pub answer : Refusal
  pub buffer : List ℕ

abbrev pub make_refused : List ℕ → Refusal → MakeOutcome
make_refused s f = record { answer = f; buffer = s }

-- in a divider with the estimate E
module _ (E : Estimate) where
  -- a is the answer to the row r: its limits where nothing is refused
  pub record Limited (r : ℕ) (a : Limits) : Type 0 where
    pub refuses : Refuses (Wrongs (limits_rules r)) (λ x. x.refusal) limits_zeros a
    pub limits : ((n p : ℕ) → Wrongs (limits_rules r) n p → ⊥) → AreLimits E r a.limits

  -- x is the maker's outcome, where the buffer held s: the made table and the rest of s, where nothing is refused
  -- § 5.2 The maker writes 2,048 bytes and keeps the rest.
  pub record Makes (s : List ℕ) (x : MakeOutcome) : Type 0 where
    pub refuses : Refuses (Wrongs (make_rules (length s))) (λ y. y.answer) (make_refused s) x
    pub makes : ((n p : ℕ) → Wrongs (make_rules (length s)) n p → ⊥) → (m : List ℕ) × MadeTable E m × (x.buffer ≡ m ++ drop 2048 s)
