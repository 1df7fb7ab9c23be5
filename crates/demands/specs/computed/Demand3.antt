-- Demand 3, whole: one claim about the check, the run, whole numbers, binary64 and samples.
use Rattle.std.specs.Prelude.{◌≡◌, List, ◌↔◌, ℕ, ◌+◌, ◌≤◌, length, Result}
use Rattle.selection.specs.Table.{Table, Passes}
use Rattle.selection.specs.computed.Table.{Checked}
use Rattle.selection.specs.Answer.{refusal}
use Rattle.selection.specs.computed.Answer.{cell_numbers, report_numbers}
use Rattle.selection.specs.computed.Cell.{IsCell}
use Rattle.selection.specs.computed.Outcomes.{cell_of}
use Rattle.selection.specs.Demand.{RefusedExactly, CellTold}
use Rattle.selection.specs.declared.Refusal.{Refusal}
use Rattle.selection.specs.declared.table.TableVerdict.{TableVerdict}
use Rattle.recurrence.specs.Recurrence.{Operands, result_of}
use Rattle.recurrence.specs.computed.Run.{run_of}
use Rattle.recurrence.specs.computed.Demand.{RunsRight, RunClaim}
use Rattle.division.specs.computed.Whole.{whole_of}
use Rattle.division.specs.computed.Binary64.{binary64_of}
use Rattle.division.specs.computed.Samples.{samples_of}
use Rattle.selection.specs.declared.Estimate.{Estimate}
use Rattle.selection.specs.declared.Estimate.TheVariants.{EightBits}

-- through two tables the same answers, for every argument, refusals included
-- § 6.9 Through any two tables that pass the answers are the same.
pub record SameThrough (t u : List ℕ) : Type 0 where
  pub run : (N D n : ℕ) (b : List ℕ) (place : ℕ) → (run_of t N D n b place).answer ≡ (run_of u N D n b place).answer
  pub whole : (a b : ℕ) → whole_of t a b ≡ whole_of u a b
  pub binary64 : (direction a b : ℕ) → binary64_of t direction a b ≡ binary64_of u direction a b
  pub samples : (direction : ℕ) (currents sensitivities given : List ℕ) → samples_of t direction currents sensitivities given ≡ samples_of u direction currents sensitivities given

-- § 21.3 Demand 3 holds.
pub record Demand3 : Type 0 where
  -- all n steps of every run of a caller through a table that passes, together
  pub runs : (t : List ℕ) → Passes EightBits t → (N D n : ℕ) (b : List ℕ) (place : ℕ) → Operands N D → 1 ≤ n → n ≤ 28 → place + n ≤ length b → RunClaim t N D n b place
  -- all n steps of a divider with either estimate through a table that passes for it, together, whatever n; and in either divider, through every such table, the same result
  pub steps : (E : Estimate) (t : List ℕ) (N D n : ℕ) → Passes E t → Operands N D → 1 ≤ n → RunsRight E t N D n
  -- § 2.6 Both dividers give the same quotients and remainders.
  pub results : (E F : Estimate) (t u : List ℕ) (N D n : ℕ) → Passes E t → Passes F u → Operands N D → 1 ≤ n → result_of E t N D n ≡ result_of F u N D n
  -- the same answers through any two tables that pass
  pub same : (t u : List ℕ) → Passes EightBits t → Passes EightBits u → SameThrough t u
  -- the check refuses exactly when some point leads out of the range
  pub refused : (E : Estimate) (t : List ℕ) → Table t → (a : Result TableVerdict Refusal) → Checked E t a → RefusedExactly E t (report_numbers a)
  -- every table has one answer, which is no refusal exactly if it passes, and some table does
  pub answered : (E : Estimate) (t : List ℕ) → (a : Result TableVerdict Refusal) × Checked E t a × ((b : Result TableVerdict Refusal) → Checked E t b → b ≡ a)
  pub passed : (E : Estimate) (t : List ℕ) (a : Result TableVerdict Refusal) → Checked E t a → ((report_numbers a).refusal ≡ refusal 0 0) ↔ Passes E t
  -- a single cell tells whether its digit is allowed
  pub cells : (E : Estimate) (r c b : ℕ) → IsCell r c b → CellTold E r c b (cell_numbers (cell_of E r c b))
  -- § 21.3 Some table passes, so that the claim is not empty.
  pub some : (E : Estimate) → (t : List ℕ) × Passes E t
