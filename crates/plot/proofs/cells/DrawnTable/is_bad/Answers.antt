-- `plot::cells::DrawnTable::is_bad`: a digit that is not allowed is a table's byte with a witness against it.
use Rattle.plot.proofs.BadCells.{bad_decides}
use Rattle.plot.proofs.cells.DrawnTable.is_bad.Goals as goal

pub returns : goal.returns
returns c =
    let place = c.args.place in
    bad_decides _ place.row place.column _ place.column_bound (c.args.self.now.table.digits.digits _) (rw c.index.ensures.0 at c.allows.ensures)
