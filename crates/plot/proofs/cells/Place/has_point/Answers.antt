-- `plot::cells::Place::has_point`: a witness is a point, and no point keeps both -2 and 2.
use Rattle.laws.proofs.Basics.{refl}
use Rattle.plot.proofs.Points.{point_yes, point_unless}
use Rattle.plot.proofs.cells.Place.has_point.Goals as goal
use Rattle.plot.proofs.cells.Place.has_point.Goals.{then-allows, else-allows}

pub returns : goal.returns
returns c = elim c.if-allows.branch [
  | then-allows w ↦ rw w.result-is (point_unless _ _ w.if-allows.ensures w.allows-then-allows.ensures)
  | else-allows w ↦ rw (w.result-is, w.if-allows.false) (point_yes _ (w.if-allows.ensures.no refl))
]
