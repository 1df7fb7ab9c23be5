-- The calls on tables for a divider by the number of bits that it adds of each remainder word, as a C caller gives it: 7 or 8. Any other number is refused, before all else.
use Rattle.std.specs.Prelude.{ℕ, cond, List, [], ◌∷◌, ◌==◌}
use Rattle.selection.specs.computed.Answer.{answer_by, cell_numbers, cell_zeros, report_numbers}
use Rattle.selection.specs.Answer.{report_zeros}
use Rattle.selection.specs.computed.Refusals.{Rule, below, either_of, number, first_refusal}
use Rattle.selection.specs.computed.Maker.{limits_zeros, MakeOutcome, make_refused}
use Rattle.selection.specs.computed.Repair.{RepairOutcome, repair_refused}
use Rattle.selection.specs.computed.Outcomes.{cell_of, report_of, row_limits_of, make_of, repair_of}
use Rattle.selection.specs.declared.Refusal.{Refusal}
use Rattle.selection.specs.declared.Estimate.{Estimate}
use Rattle.selection.specs.declared.Estimate.TheVariants.{SevenBits, EightBits}
use Rattle.selection.specs.declared.numbers.Cell.{Cell}
use Rattle.selection.specs.declared.numbers.Report.{Report}
use Rattle.selection.specs.declared.maker.Limits.{Limits}

-- 17: neither 7 nor 8
-- § 18.1 Refusal 17 is for a number of bits that is neither 7 nor 8.
abbrev pub bits_rules : ℕ → List Rule
bits_rules bits = number 17 (either_of (below bits 7) (below 8 bits)) ∷ []

abbrev pub estimate_of : ℕ → Estimate
estimate_of bits = cond (bits == 7) SevenBits EightBits

-- and the number of an estimate
abbrev pub bits_of : Estimate → ℕ
bits_of SevenBits = 7
bits_of EightBits = 8

-- the outcome for so many bits, where f is that of each estimate; and `zeros` where their number is refused
-- § 18.1 Refusal 17 is for a number of bits that is neither 7 nor 8.
abbrev pub for_bits : {X : Type 0} → (Refusal → X) → (Estimate → X) → ℕ → X
for_bits zeros f bits = answer_by zeros (f (estimate_of bits)) (first_refusal (bits_rules bits))

-- a single cell, a table, a row's limits
abbrev pub check_cell_for : ℕ → ℕ → ℕ → ℕ → Cell
check_cell_for bits r c b = for_bits cell_zeros (λ E. cell_numbers (cell_of E r c b)) bits

abbrev pub check_table_for : ℕ → List ℕ → Report
check_table_for bits t = for_bits report_zeros (λ E. report_numbers (report_of E t)) bits

abbrev pub row_limits_for : ℕ → ℕ → Limits
row_limits_for bits r = for_bits limits_zeros (λ E. row_limits_of E r) bits

-- the maker and the repair
abbrev pub make_for : ℕ → List ℕ → MakeOutcome
make_for bits s = for_bits (make_refused s) (λ E. make_of E s) bits

abbrev pub repair_for : ℕ → List ℕ → List ℕ → List ℕ → RepairOutcome
repair_for bits t rs cs = for_bits (repair_refused rs cs) (λ E. repair_of E t rs cs) bits
