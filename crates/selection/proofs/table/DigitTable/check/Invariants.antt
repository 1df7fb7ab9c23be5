use Rattle.laws.proofs.Basics.{◌≡◌, ◌*◌}
use Rattle.laws.specs.Counting.{count_below}
use Rattle.selection.specs.computed.Allowed.{is_bad}
use Rattle.selection.proofs.table.DigitTable.check.Given as goal

abbrev pub invariant-loop-row : goal.invariant-loop-row
invariant-loop-row l = 0 ≡ count_below (is_bad l.estimate l.self.bytes.now) (128 * l.row)
