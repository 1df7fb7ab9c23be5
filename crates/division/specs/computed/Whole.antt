-- Whole-number division as a caller sees it: the specification, sections 8 and 18.
use Rattle.std.specs.Prelude.{ℕ, ◌^◌, List, [], ◌∷◌, ◌++◌, Result, Ok, Err}
use Rattle.selection.specs.Answer.{refusal}
use Rattle.selection.specs.computed.Answer.{answer_by}
use Rattle.selection.specs.computed.Table.{table_rules}
use Rattle.selection.specs.computed.Refusals.{Condition, Rule, at_most, same, either_of, number, first_refusal}
use Rattle.selection.specs.declared.Refusal.{Refusal}
use Rattle.division.specs.computed.WholeSteps.{whole_through}
use Rattle.division.specs.declared.whole.WholeResult.{WholeResult}
use Rattle.division.specs.declared.whole.Whole.{Whole}
use Rattle.selection.specs.declared.Estimate.TheVariants.{EightBits}

-- where the operands of whole-number division end, those of ratios and of a whole root too
abbrev pub operand_end : ℕ
operand_end = 2 ^ 60

-- an operand that is 2^60 or more
abbrev pub large_operand : ℕ → Condition
large_operand a = at_most operand_end a

-- a divisor that is 0
abbrev pub zero_divisor : ℕ → Condition
zero_divisor b = same b 0

-- what is refused of the arguments. 4: a or b is 2^60 or more. 5: b is 0
-- § 18.1 Each condition has a number and a place.
abbrev pub whole_rules : ℕ → ℕ → List Rule
whole_rules a b = number 4 (either_of (large_operand a) (large_operand b)) ∷ number 5 (zero_divisor b) ∷ []

-- number and place of a refusal, and zeros
abbrev pub whole_zeros : Refusal → Whole
whole_zeros f = record { refusal = f; quotient = 0; remainder = 0 }

-- quotient and remainder, and no refusal
abbrev pub whole_values : WholeResult → Whole
whole_values x = record { refusal = refusal 0 0; quotient = x.quotient; remainder = x.remainder }

-- the answer as C sees it
abbrev pub whole_numbers : Result WholeResult Refusal → Whole
whole_numbers (Ok x) = whole_values x
whole_numbers (Err f) = whole_zeros f

-- the answer: then 8, 9, 10, the table's
abbrev pub whole_of : List ℕ → ℕ → ℕ → Whole
whole_of t a b = answer_by whole_zeros (whole_values (whole_through EightBits t a b)) (first_refusal (whole_rules a b ++ table_rules EightBits t))
