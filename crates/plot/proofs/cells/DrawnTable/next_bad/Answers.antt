-- `plot::cells::DrawnTable::next_bad`: the first bad cell starts them.
use Rattle.plot.proofs.BadCells.{bad_some, bad_drawn}
use Rattle.plot.proofs.cells.DrawnTable.next_bad.Goals as goal

pub invariant_of-result : goal.invariant_of-result
invariant_of-result c =
    let first = c.in_ok-from.ensures in
    let bad = rw (c.in_column.ensures.0, c.in_column.ensures.1) at c.bad_end-end.ensures in
    let some = bad_some _ _ c.args.place.row first.1 first.2 bad in
    record { row_bound = c.args.place.row_bound; not_empty = some; end_bound = bad_drawn _ c.args.place.row_bound bad some }
