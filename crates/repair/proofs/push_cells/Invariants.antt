-- `repair::push_cells` meets its contract: after k turns the text has the lines of the first k cells.
use Rattle.laws.proofs.Basics.{◌*◌}
use Rattle.printing.specs.Text.{Adds}
use Rattle.repair.specs.Changes.{cells_upto}
use Rattle.repair.proofs.push_cells.Given as goal

abbrev pub invariant-loop-k : goal.invariant-loop-k
invariant-loop-k l = Adds l.initial.out (cells_upto l.table l.repaired l.k) (84 * l.k) l.out
