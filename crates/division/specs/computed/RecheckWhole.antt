-- Whether a wrong table affected a whole-number division: `Recheck` for one division of whole numbers.
use Rattle.std.specs.Prelude.{◌≡◌, ℕ, ◌+◌, ◌-◌, ◌*◌, ◌/◌, ◌%◌, ◌^◌, ◌<◌, ◌≤◌, ◌⊎◌, ◌↔◌, List, [], ◌∷◌, length}
use Rattle.selection.specs.computed.Answer.{answer_by}
use Rattle.selection.specs.computed.Bits.{for_bits}
use Rattle.selection.specs.computed.Refusals.{Rule, differ, either_of, number, first_refusal, Wrongs, Refuses}
use Rattle.recurrence.specs.computed.Recheck.{byte_read, ReadsNoDigit, WrongRun, Marks, RunMarkClaim, mark_zeros, mark_values, run_mark}
use Rattle.laws.specs.Shifts.{shift_to}
use Rattle.division.specs.computed.Whole.{large_operand, zero_divisor}
use Rattle.division.specs.computed.WholeSteps.{digits_after, whole_through}
use Rattle.recurrence.specs.declared.recheck.AffectedMark.{AffectedMark}
use Rattle.selection.specs.declared.Estimate.{Estimate}

-- the operands of the run that gives the digits of a / b, and their number (`whole_run`)
abbrev pub whole_divisor : ℕ → ℕ
whole_divisor b = b * 2 ^ shift_to 60 b

abbrev pub whole_dividend : ℕ → ℕ → ℕ
whole_dividend a b = let s = shift_to 60 b in a * 2 ^ (s - 2 * digits_after a s)

abbrev pub whole_count : ℕ → ℕ → ℕ
whole_count a b = digits_after a (shift_to 60 b) + 1

-- what is refused. 4: a or b is 2^60 or more; 5: b is 0; 8: length not 2,048
-- § 17.6 Affected records are refused under these rules.
abbrev pub recheck_whole_rules : ℕ → ℕ → ℕ → List Rule
recheck_whole_rules len a b = number 4 (either_of (large_operand a) (large_operand b)) ∷ number 5 (zero_divisor b) ∷ number 8 (differ len 2048) ∷ []

-- none of it: what is accepted
pub record RecheckWholeAccepts (len a b : ℕ) : Type 0 where
  pub dividend : a < 2 ^ 60
  pub divisor : b < 2 ^ 60
  pub some : 0 < b
  pub size : len ≡ 2048

-- in a divider with the estimate E
module _ (E : Estimate) where
  -- its steps through the table t, as it is, read a byte above 4, or give a wrong result
  -- § 17.5 The mark of whole numbers is 1 exactly if Q or R is wrong; no other fits.
  abbrev pub WholeAffected : List ℕ → ℕ → ℕ → Type 0
  WholeAffected t a b = WrongRun E t (whole_dividend a b) (whole_divisor b) (whole_count a b)

  -- x is the answer
  pub record WholeRechecks (t : List ℕ) (a b : ℕ) (x : AffectedMark) : Type 0 where
    pub refuses : Refuses (Wrongs (recheck_whole_rules (length t) a b)) (λ y. y.refusal) mark_zeros x
    pub rechecks : RecheckWholeAccepts (length t) a b → Marks (WholeAffected t a b) x.affected

  -- a / b and a % b, from the digits of the table t
  abbrev pub WholeRight : List ℕ → ℕ → ℕ → Type 0
  WholeRight t a b = whole_through E t a b ≡ record { quotient = a / b; remainder = a % b }

  -- what is claimed of a division whose mark is m, where t is the table as it was burned, whatever its bytes are
  -- § 17.5 The mark of whole numbers is 1 exactly if Q or R is wrong; no other fits.
  pub record WholeClaim (t : List ℕ) (a b m : ℕ) : Type 0 where
    -- 0: exactly if the burned table's own bytes are digits wherever they are read, and these give a / b and a % b
    pub right : (m ≡ 0) ↔ (((i : ℕ) → i < whole_count a b → byte_read E t (whole_dividend a b) (whole_divisor b) i ≤ 4) × WholeRight t a b)
    -- 1: exactly if a byte above 4 is read, or what the digits give is not a / b and a % b
    pub wrong : (m ≡ 1) ↔ (ReadsNoDigit E t (whole_dividend a b) (whole_divisor b) (whole_count a b) ⊎ (WholeRight t a b → ⊥))
    -- the same of its run
    pub run : RunMarkClaim E t (whole_dividend a b) (whole_divisor b) (whole_count a b) m

  -- ---- computed

  abbrev pub whole_mark : List ℕ → ℕ → ℕ → ℕ
  whole_mark t a b = run_mark E t (whole_dividend a b) (whole_divisor b) (whole_count a b)

  -- the answer
  abbrev pub recheck_whole_of : List ℕ → ℕ → ℕ → AffectedMark
  recheck_whole_of t a b = answer_by mark_zeros (mark_values (whole_mark t a b)) (first_refusal (recheck_whole_rules (length t) a b))

-- the same by the number of bits that the divider adds of each word
abbrev pub recheck_whole_for : ℕ → List ℕ → ℕ → ℕ → AffectedMark
recheck_whole_for bits t a b = for_bits mark_zeros (λ E. recheck_whole_of E t a b) bits
