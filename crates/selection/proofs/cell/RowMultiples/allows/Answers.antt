use Rattle.selection.specs.computed.CellTest.{multiples_of}
use Rattle.selection.proofs.CellTests.{by_sides, allowed_is}
use Rattle.selection.proofs.cell.RowMultiples.allows.Goals as goal

pub returns : goal.returns
returns c =
    let a = c.args in
    let m = multiples_of a.self.estimate a.self.row in
    allowed_is _ _ a.column.index a.byte (by_sides m a.column.index a.byte c.greatest_byte.ensures.0 c.least_byte.ensures.0 c.past.ensures.0 c.past-2.ensures.0 c.has_point.ensures)
