use Rattle.std.proofs.Common.{ap}
use Rattle.selection.specs.computed.Outcomes.{limits_by, limits_of}
use Rattle.selection.proofs.{Rows.{row_is, fields_of}, Making.{limits_answer}}
use Rattle.selection.proofs.cell.RowMultiples.limits.Goals as goal

pub returns : goal.returns
unfolding limits_of
returns c =
    let m = c.self in
    limits_answer _ _ (rw (row_is m.view_is) at m.invariant.small) (ap limits_by (fields_of m.invariant m.view_is))
