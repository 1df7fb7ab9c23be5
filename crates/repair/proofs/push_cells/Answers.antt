-- `repair::push_cells` meets its contract: at the end there are the lines of all cells.
use Rattle.laws.proofs.Basics.{◌≡◌, arith}
use Rattle.repair.proofs.push_cells.Goals as goal

pub returns : goal.returns
returns c = let e : c.loop-k.k ≡ 2048 = omega arith in rw e at c.loop-k.invariant
