-- The numbers of the two answers that hold an enum, and of a call that refuses or not: the specification, section 18. Zeros where a call refuses. A call that refuses nothing gives
-- `Ok`, and one that refuses `Err` with the refusal.
use Rattle.std.specs.Prelude.{ℕ, ◌+◌, ◌*◌, pos, ⊤, Option, Some, None, Result, Ok, Err}
use Rattle.selection.specs.declared.Refusal.{Refusal}
use Rattle.selection.specs.declared.table.Outcome.{Outcome}
use Rattle.selection.specs.declared.table.Outcome.TheVariants as O
use Rattle.selection.specs.declared.table.TableVerdict.{TableVerdict}
use Rattle.selection.specs.declared.Witness.{Witness}
use Rattle.selection.specs.declared.numbers.Cell.{Cell}
use Rattle.selection.specs.declared.numbers.Report.{Report}
use Rattle.selection.specs.Answer.{refusal, report_zeros}

-- a single cell's answer: an allowed digit (1) has no witness, a disallowed one (0) is an ordinary verdict
abbrev pub cell_zeros : Refusal → Cell
cell_zeros f = record { refusal = f; allowed = 0; divisor = 0; remainder = pos 0 }

-- § 18.7 Each case of an enum has its number, place and values.
abbrev pub cell_numbers : Result (Option Witness) Refusal → Cell
cell_numbers (Ok None) = record { refusal = refusal 0 0; allowed = 1; divisor = 0; remainder = pos 0 }
cell_numbers (Ok (Some w)) = record { refusal = refusal 0 0; allowed = 0; divisor = w.divisor; remainder = w.remainder }
cell_numbers (Err f) = cell_zeros f

abbrev pub bad_numbers : ℕ → ℕ → ℕ → Witness → Report
bad_numbers n r c w = record { refusal = refusal 10 (128 * r + c); count = n; row = r; column = c; divisor = w.divisor; remainder = w.remainder }

abbrev pub outcome_numbers : ℕ → Outcome → Report
outcome_numbers n O.Passed = report_zeros (refusal 0 0)
outcome_numbers n (O.Bad b) = bad_numbers n b.row b.column b.witness

-- § 4.1 The check's answer is told in numbers.
-- § 18.7 Each case of an enum has its number, place and values.
abbrev pub report_numbers : Result TableVerdict Refusal → Report
report_numbers (Ok a) = outcome_numbers a.count a.outcome
report_numbers (Err f) = report_zeros f

-- what every other call makes of a report: number and place alone
abbrev pub admission_of : Outcome → Result ⊤ Refusal
admission_of O.Passed = Ok tt
admission_of (O.Bad b) = Err (refusal 10 (128 * b.row + b.column))

-- § 4.4 Calls that divide take a table exactly if it passes.
abbrev pub admission : Result TableVerdict Refusal → Result ⊤ Refusal
admission (Ok a) = admission_of a.outcome
admission (Err f) = Err f

-- what a call that gives a value says of its refusal alone
abbrev pub admission_in : {X : Type 0} → Result X Refusal → Result ⊤ Refusal
admission_in (Ok x) = Ok tt
admission_in (Err f) = Err f

-- the numbers of what a call gives: a refusal, or 0 and 0
abbrev pub refusal_of : Result ⊤ Refusal → Refusal
refusal_of (Ok x) = refusal 0 0
refusal_of (Err f) = f

-- the first refusal of two, in their order
abbrev pub first_of : Result ⊤ Refusal → Result ⊤ Refusal → Result ⊤ Refusal
first_of (Ok x) v = v
first_of (Err f) v = Err f

-- an answer by the first refusal: what is done, or the number, the place and zeros
abbrev pub answer_by : {X : Type 0} → (Refusal → X) → X → Result ⊤ Refusal → X
answer_by zeros done (Ok x) = done
answer_by zeros done (Err f) = zeros f
