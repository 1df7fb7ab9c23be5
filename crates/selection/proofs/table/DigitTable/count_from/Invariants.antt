use Rattle.laws.proofs.Basics.{◌≡◌, ◌*◌}
use Rattle.laws.specs.Counting.{count_below}
use Rattle.selection.specs.computed.Allowed.{is_bad}
use Rattle.selection.proofs.table.DigitTable.count_from.Given as goal

abbrev pub invariant-loop-row : goal.invariant-loop-row
invariant-loop-row l = l.total ≡ count_below (is_bad l.estimate l.self.bytes.now) (128 * l.row)
