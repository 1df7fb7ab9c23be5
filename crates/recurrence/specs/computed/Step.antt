-- One step for a caller: the specification, section 7. The refusals in their order, the answer, and the answers of a caller who feeds each returned pair back.
use Rattle.std.specs.Prelude.{ℕ, zero, suc, ◌+◌, ◌*◌, List, [], ◌∷◌, ◌++◌, pos, ◌*ℤ◌, neg_ℤ}
use Rattle.selection.specs.Answer.{refusal}
use Rattle.selection.specs.computed.Answer.{answer_by}
use Rattle.selection.specs.Cell.{digit}
use Rattle.selection.specs.computed.Table.{table_rules}
use Rattle.selection.specs.computed.Refusals.{Rule, belowℤ, either_of, number, first_refusal}
use Rattle.selection.specs.Word.{signed}
use Rattle.selection.specs.declared.Refusal.{Refusal}
use Rattle.recurrence.specs.Recurrence.{State, state_from, next_of}
use Rattle.recurrence.specs.computed.Run.{divisor_outside}
use Rattle.recurrence.specs.declared.step.Stepped.{Stepped}
use Rattle.selection.specs.declared.Estimate.TheVariants.{EightBits}

-- what a step with PS = s, PC = k refuses of its arguments. 3: D outside its span, from 2^60 to 2^61 - 1. 14: with P read from both words, 3P is below −8D or above 8D
-- § 7.3 Refusal 14 is for P out of range.
unfoldable pub step_rules : ℕ → ℕ → ℕ → List Rule
step_rules s k D =
    number 3 (divisor_outside D)
    ∷ number 14 (either_of (belowℤ (pos 3 *ℤ signed (s + k)) (neg_ℤ (pos (8 * D)))) (belowℤ (pos (8 * D)) (pos 3 *ℤ signed (s + k))))
    ∷ []

-- number and place of a refusal, and zeros
abbrev pub step_zeros : Refusal → Stepped
step_zeros f = record { refusal = f; digit = pos 0; sum = 0; carry = 0 }

-- the digit that led to a state, its two words, and no refusal
abbrev pub step_values : State → Stepped
step_values p = record { refusal = refusal 0 0; digit = digit p.digit; sum = p.sum; carry = p.carry }

-- the answer: after the arguments' refusals the table's, 8, 9, 10; else the run's step
abbrev pub step_of : ℕ → ℕ → ℕ → List ℕ → Stepped
step_of s k D t = answer_by step_zeros (step_values (next_of EightBits t (state_from s k D))) (first_refusal (step_rules s k D ++ table_rules EightBits t))

-- the answer of call i, counted from 0, to someone who begins at PS = N, PC = 0 and feeds each returned pair back
unfoldable pub fed_back : List ℕ → ℕ → ℕ → ℕ → Stepped
fed_back t N D zero = step_of N 0 D t
fed_back t N D (suc i) = step_of (fed_back t N D i).sum (fed_back t N D i).carry D t
