-- `plot::cells::Place::edge`: a column that is not drawn is none of 20 to 106.
use Rattle.laws.proofs.Basics.{arith}
use Rattle.plot.proofs.Points.{drawn_no}
use Rattle.plot.proofs.cells.Place.edge.Goals as goal

pub returns-else-contains : goal.returns-else-contains
returns-else-contains c = drawn_no c.args.self.column_bound (λ l m. grind arith)
