use Rattle.laws.proofs.Basics.{◌≡◌}
use Rattle.laws.specs.Counting.{count_below}
use Rattle.selection.specs.computed.Allowed.{is_bad_in}
use Rattle.selection.proofs.table.DigitTable.count_row.Given as goal

abbrev pub invariant-loop-column : goal.invariant-loop-column
invariant-loop-column l = l.count ≡ count_below (is_bad_in l.m.estimate l.self.bytes.now l.m.row) l.column
