-- the first bad column so far, or 128, and those that are left
use Rattle.laws.proofs.Basics.{◌≡◌, ◌≤◌, ◌-◌, min}
use Rattle.laws.specs.Search.{first_from}
use Rattle.selection.specs.computed.Allowed.{is_bad_in}
use Rattle.selection.proofs.table.DigitTable.first_in_row.Given as goal

abbrev pub invariant-loop-column : goal.invariant-loop-column
invariant-loop-column l =
    let f = is_bad_in l.m.estimate l.self.bytes.now l.m.row in
    record { most : l.first ≤ 128; is : first_from f 0 128 ≡ min l.first (first_from f l.column (128 - l.column)) }
