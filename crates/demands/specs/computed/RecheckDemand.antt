-- Which records a wrong table affected, and that all others are right as a divider that steps as this unit does has filed them. What is refused is said in demand 1.
use Rattle.std.specs.Prelude.{◌≡◌, List, [], ◌∷◌, ◌↔◌, ◌⊎◌, ℕ, suc, min, ◌+◌, ◌-◌, ◌*◌, ◌/◌, ◌%◌, ◌^◌, ◌≤◌, ◌<◌, length, get_or, set, pos, nat_abs, ◌-ℤ◌, ◌*ℤ◌}
use Rattle.laws.specs.Counting.{Tally}
use Rattle.selection.specs.Cell.{row, column}
use Rattle.selection.specs.Repair.{FaultyAt}
use Rattle.recurrence.specs.Recurrence.{Operands, residue, cell_at, step_by, after, digits, value, end_remainder, corrected_quotient, corrected_remainder, result_of}
use Rattle.selection.specs.Answer.{refusal}
use Rattle.selection.specs.computed.Outcomes.{made_table}
use Rattle.selection.specs.Table.{Passes}
use Rattle.recurrence.specs.computed.Recheck.{byte_read, ReadsNoDigit, RightRun, WrongRun, RunMarkClaim, RunRechecks, run_mark, affected_run_of, affected_run_for}
use Rattle.division.specs.Format.{FiniteNonzero, sign_of}
use Rattle.division.specs.computed.Format.{binary64_values}
use Rattle.division.specs.computed.Significands.{significand_of}
use Rattle.division.specs.computed.Binary64Steps.{ratio_through, rounded_quotient, binary64_through}
use Rattle.division.specs.computed.WholeSteps.{whole_run, whole_through}
use Rattle.division.specs.computed.Binary64.{binary64_of}
use Rattle.division.specs.computed.Recheck.{run_operand, AffectedOutcome, Rechecked, Rechecks, RecordClaim, RecheckExamples, affected_of, affected_for}
use Rattle.division.specs.Recheck.{OperandOf}
use Rattle.division.specs.computed.RecheckWhole.{whole_dividend, whole_divisor, whole_count, WholeRechecks, WholeClaim, recheck_whole_of}
use Rattle.recurrence.specs.declared.recheck.AffectedMark.{AffectedMark}
use Rattle.ieee.specs.Directions.{Pinned}
use Rattle.selection.specs.declared.Estimate.{Estimate}
use Rattle.selection.specs.declared.Estimate.TheVariants.{EightBits}

-- the made table with a byte above 4 in the cell (0, 72), which 1.0 / 1.0 reads first, and 1.125 / 1.0 not; 17 / 16 reads it, and 16 / 17 not
-- § 17.7 The example and others are shown in numbers.
pub record RecheckCallExample : Type 0 where
  pub samples : affected_of EightBits (set (made_table EightBits) 72 5) (0x3FF0_0000_0000_0000 ∷ 0x3FF2_0000_0000_0000 ∷ 0 ∷ []) (0x3FF0_0000_0000_0000 ∷ 0x3FF0_0000_0000_0000 ∷ 0x3FF0_0000_0000_0000 ∷ []) (9 ∷ 9 ∷ 9 ∷ 9 ∷ [])
      ≡ record { answer = record { refusal = refusal 0 0; count = 1 }; affected = 1 ∷ 0 ∷ 0 ∷ 9 ∷ [] }
  pub whole : (recheck_whole_of EightBits (set (made_table EightBits) 72 5) 17 16).affected ≡ 1
  pub whole_unaffected : (recheck_whole_of EightBits (set (made_table EightBits) 72 5) 16 17).affected ≡ 0

-- 1.04296875 / 1.064453125 through the table made for eight bits, and its run, by the calls for seven bits and for eight
pub record EstimatesTold : Type 0 where
  pub by_seven : (affected_for 7 (made_table EightBits) (0x3FF0_B000_0000_0000 ∷ []) (0x3FF1_0800_0000_0000 ∷ []) (9 ∷ [])).affected ≡ 1 ∷ []
  pub by_eight : (affected_for 8 (made_table EightBits) (0x3FF0_B000_0000_0000 ∷ []) (0x3FF1_0800_0000_0000 ∷ []) (9 ∷ [])).affected ≡ 0 ∷ []
  pub run_by_seven : (affected_run_for 7 (made_table EightBits) 0x10B0_0000_0000_0000 0x1108_0000_0000_0000 28).affected ≡ 1
  pub run_by_eight : (affected_run_for 8 (made_table EightBits) 0x10B0_0000_0000_0000 0x1108_0000_0000_0000 28).affected ≡ 0

-- in a divider with the estimate E
module _ (E : Estimate) where
  -- of a table of 2,048 bytes, whatever they are, operands in their spans and 1 to 31 digits
  pub record RecheckRunTold (t : List ℕ) (N D n : ℕ) : Type 0 where
    pub done : (affected_run_of E t N D n).refusal ≡ refusal 0 0
    pub claim : RunMarkClaim E t N D n (affected_run_of E t N D n).affected
    pub mark : ((affected_run_of E t N D n).affected ≡ 0) ⊎ ((affected_run_of E t N D n).affected ≡ 1)
    -- 0 exactly if each byte that the burned table gives is a digit's and the result that these form is quotient and remainder of N·4^(n−1) by D, and 1 exactly if not
    pub unmarked : ((affected_run_of E t N D n).affected ≡ 0)
        ↔ (((i : ℕ) → i < n → byte_read E t N D i ≤ 4) × (result_of E t N D n ≡ record { quotient = N * 4 ^ (n - 1) / D; remainder = N * 4 ^ (n - 1) % D; count = n }))
    pub marked : ((affected_run_of E t N D n).affected ≡ 1)
        ↔ (ReadsNoDigit E t N D n ⊎ (result_of E t N D n ≡ record { quotient = N * 4 ^ (n - 1) / D; remainder = N * 4 ^ (n - 1) % D; count = n } → ⊥))
    -- where it is 0, the words hold the true remainder before each step and after the last
    pub words : (affected_run_of E t N D n).affected ≡ 0 → (i : ℕ) → i ≤ n → residue (after E t N D i) ≡ pos (N * 4 ^ i) -ℤ pos 4 *ℤ (value (digits E t N D i) *ℤ pos D)
    -- where it is 1 and each byte is a digit's, neither S nor S − 1 is the quotient
    pub neither : (affected_run_of E t N D n).affected ≡ 1 → ((i : ℕ) → i < n → byte_read E t N D i ≤ 4)
        → (value (digits E t N D n) ≡ pos (N * 4 ^ (n - 1) / D) → ⊥) × (value (digits E t N D n) -ℤ pos 1 ≡ pos (N * 4 ^ (n - 1) / D) → ⊥)

  -- of a table of 2,048 bytes, whatever they are, as many sensitivities as currents, and a third list with room for the marks
  pub record RecheckTold (t currents sensitivities given : List ℕ) : Type 0 where
    pub done : (affected_of E t currents sensitivities given).answer.refusal ≡ refusal 0 0
    pub rechecked : Rechecked E t currents sensitivities given (affected_of E t currents sensitivities given)
    pub claim : (j : ℕ) → j < length currents → RecordClaim E t (get_or currents j 0) (get_or sensitivities j 0) (get_or (affected_of E t currents sensitivities given).affected j 0)
    -- in numbers: a mark is 0 or 1, and the count is the number of ones; a sample that its class decides is 0
    pub mark : (j : ℕ) → j < length currents → (get_or (affected_of E t currents sensitivities given).affected j 0 ≡ 0) ⊎ (get_or (affected_of E t currents sensitivities given).affected j 0 ≡ 1)
    pub count : Tally (λ j. get_or (affected_of E t currents sensitivities given).affected j 0 ≡ 1) (length currents) (affected_of E t currents sensitivities given).answer.count
    pub by_class : (j : ℕ) → j < length currents → (FiniteNonzero (get_or currents j 0) → ⊥) ⊎ (FiniteNonzero (get_or sensitivities j 0) → ⊥) → get_or (affected_of E t currents sensitivities given).affected j 0 ≡ 0
    -- of two finite numbers other than zero: 0 exactly if the 28 bytes that the burned table gives are digits and the quotient and remainder that these form are right, and 1 exactly if not
    pub unmarked : (j : ℕ) → j < length currents → FiniteNonzero (get_or currents j 0) → FiniteNonzero (get_or sensitivities j 0)
        → (get_or (affected_of E t currents sensitivities given).affected j 0 ≡ 0) ↔ RightRun E t (run_operand (get_or currents j 0)) (run_operand (get_or sensitivities j 0)) 28
    pub marked : (j : ℕ) → j < length currents → FiniteNonzero (get_or currents j 0) → FiniteNonzero (get_or sensitivities j 0)
        → (get_or (affected_of E t currents sensitivities given).affected j 0 ≡ 1) ↔ WrongRun E t (run_operand (get_or currents j 0)) (run_operand (get_or sensitivities j 0)) 28
    -- where a mark is 1, one of the 28 steps has read a faulty cell
    pub cell : (j : ℕ) → j < length currents → get_or (affected_of E t currents sensitivities given).affected j 0 ≡ 1
        → (i : ℕ) × (i < 28) × FaultyAt E t (cell_at E (after E t (run_operand (get_or currents j 0)) (run_operand (get_or sensitivities j 0)) i))
    -- a record whose mark is 0: what the burned table's own digits form is the answer of the call over the kept table, and the logic's own account of IEEE 754 asks for its pattern
    pub kept : (j : ℕ) → j < length currents → get_or (affected_of E t currents sensitivities given).affected j 0 ≡ 0 → (direction : ℕ) → direction ≤ 3
        → binary64_values (binary64_through E t direction (get_or currents j 0) (get_or sensitivities j 0)) ≡ binary64_of (made_table EightBits) direction (get_or currents j 0) (get_or sensitivities j 0)
    pub pinned : (j : ℕ) → j < length currents → get_or (affected_of E t currents sensitivities given).affected j 0 ≡ 0 → (direction : ℕ) → direction ≤ 3
        → Pinned direction (get_or currents j 0) (get_or sensitivities j 0) (binary64_through E t direction (get_or currents j 0) (get_or sensitivities j 0)).pattern

  -- the same of one division of whole numbers
  pub record RecheckWholeTold (t : List ℕ) (a b : ℕ) : Type 0 where
    pub done : (recheck_whole_of E t a b).refusal ≡ refusal 0 0
    pub claim : WholeClaim E t a b (recheck_whole_of E t a b).affected
    pub mark : ((recheck_whole_of E t a b).affected ≡ 0) ⊎ ((recheck_whole_of E t a b).affected ≡ 1)
    -- 0 exactly if the bytes that the burned table gives are digits and these give a / b and a % b, and 1 exactly if not
    pub unmarked : ((recheck_whole_of E t a b).affected ≡ 0)
        ↔ (((i : ℕ) → i < whole_count a b → byte_read E t (whole_dividend a b) (whole_divisor b) i ≤ 4) × (whole_through E t a b ≡ record { quotient = a / b; remainder = a % b }))
    pub marked : ((recheck_whole_of E t a b).affected ≡ 1)
        ↔ (ReadsNoDigit E t (whole_dividend a b) (whole_divisor b) (whole_count a b) ⊎ (whole_through E t a b ≡ record { quotient = a / b; remainder = a % b } → ⊥))
    -- where it is 1, a step has read a faulty cell
    pub cell : (recheck_whole_of E t a b).affected ≡ 1 → (i : ℕ) × (i < whole_count a b) × FaultyAt E t (cell_at E (after E t (whole_dividend a b) (whole_divisor b) i))
    -- the division's result is that of the run of these operands, and it takes as many digits
    pub formed : whole_run E t a b ≡ result_of E t (whole_dividend a b) (whole_divisor b) (whole_count a b)
    pub digits : (whole_run E t a b).count ≡ whole_count a b

  -- § 17.1 The burned table is taken as it is, whatever its bytes.
  pub record RecheckDemand : Type 0 where
    -- a step reads the byte of its cell, in the divisor's row and the column of the two words, and takes it, whatever the table; the result of a run is formed from its digits
    pub byte : (t : List ℕ) (N D i : ℕ) → byte_read E t N D i ≡ get_or t (128 * row D + column E (after E t N D i).sum (after E t N D i).carry) 0
    pub step : (t : List ℕ) (N D i : ℕ) → after E t N D (suc i) ≡ step_by (byte_read E t N D i) (after E t N D i)
    pub result : (t : List ℕ) (N D n : ℕ) → result_of E t N D n
        ≡ record { quotient = nat_abs (corrected_quotient (value (digits E t N D n)) (end_remainder E t N D n)); remainder = nat_abs (corrected_remainder (end_remainder E t N D n) D); count = n }
    -- the mark of any run of n digits is exact, both ways; a table that passes marks none
    pub run : (t : List ℕ) (N D n : ℕ) → Operands N D → 1 ≤ n → RunMarkClaim E t N D n (run_mark E t N D n)
    pub passes : (t : List ℕ) → Passes E t → (N D n : ℕ) → Operands N D → 1 ≤ n → run_mark E t N D n ≡ 0
    -- its call
    pub run_answer : (t : List ℕ) (N D n : ℕ) → RunRechecks E t N D n (affected_run_of E t N D n)
    pub run_one : (t : List ℕ) (N D n : ℕ) (x : AffectedMark) → RunRechecks E t N D n x → x ≡ affected_run_of E t N D n
    pub run_told : (t : List ℕ) (N D n : ℕ) → length t ≡ 2048 → Operands N D → 1 ≤ n → n ≤ 31 → RecheckRunTold t N D n
    -- the operands of the run of a binary64 quotient
    pub operand : (p : ℕ) → FiniteNonzero p → OperandOf p (run_operand p)
    -- what is rounded of a binary64 quotient: twice the quotient of that run, and 1 more where something is left
    pub formed : (t : List ℕ) (a b : ℕ) → ratio_through E t (significand_of a).sig (significand_of b).sig
        ≡ 2 * (result_of E t (run_operand a) (run_operand b) 28).quotient + min 1 (result_of E t (run_operand a) (run_operand b) 28).remainder
    -- and that is rounded once, whatever the table: an answer is formed from the table's own digits
    pub rounds : (t : List ℕ) (direction a b : ℕ) → FiniteNonzero a → FiniteNonzero b
        → binary64_through E t direction a b ≡ rounded_quotient direction (sign_of a b) (ratio_through E t (significand_of a).sig (significand_of b).sig) ((significand_of a).exp + 1021) (significand_of b).exp
    -- the answer and the third list, where it refuses and where not; and nothing else fits
    pub answer : (t currents sensitivities given : List ℕ) → Rechecks E t currents sensitivities given (affected_of E t currents sensitivities given)
    pub one : (t currents sensitivities given : List ℕ) (x : AffectedOutcome) → Rechecks E t currents sensitivities given x → x ≡ affected_of E t currents sensitivities given
    pub told : (t currents sensitivities given : List ℕ) → length t ≡ 2048 → length currents ≡ length sensitivities → length currents ≤ length given → RecheckTold t currents sensitivities given
    -- whole numbers
    pub whole_answer : (t : List ℕ) (a b : ℕ) → WholeRechecks E t a b (recheck_whole_of E t a b)
    pub whole_one : (t : List ℕ) (a b : ℕ) (x : AffectedMark) → WholeRechecks E t a b x → x ≡ recheck_whole_of E t a b
    pub whole_told : (t : List ℕ) (a b : ℕ) → length t ≡ 2048 → a < 2 ^ 60 → 0 < b → b < 2 ^ 60 → RecheckWholeTold t a b
    pub examples : RecheckExamples
    pub call_example : RecheckCallExample
    pub estimates : EstimatesTold
