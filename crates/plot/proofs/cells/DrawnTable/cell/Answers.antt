-- `plot::cells::DrawnTable::cell`: a place's row and column are those of its index.
use Rattle.laws.proofs.Basics.{refl, sym}
use Rattle.selection.proofs.Tables.{cell_row, cell_column}
use Rattle.plot.proofs.cells.DrawnTable.cell.Goals as goal

pub returns : goal.returns
returns c =
    let place = c.args.place in
    let row = cell_row place.row place.column place.column_bound in
    let column = cell_column place.row place.column place.column_bound in
    record {
      row = sym row;
      column = sym column;
      byte = rw c.index.ensures.0 refl;
      point = rw (row, column) c.has_point.ensures;
      own = rw (row, column) (rw c.index.ensures.0 at c.allows.ensures);
      allowed = rw (row, column) c.allowed_digits.ensures;
    }
