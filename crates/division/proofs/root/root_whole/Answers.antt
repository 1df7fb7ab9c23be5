-- Below 2^60 nothing is refused.
use Rattle.laws.proofs.Basics.{arith}
use Rattle.division.proofs.{Roots.{whole_is}, RootCalls.{root_clear}}
use Rattle.division.proofs.root.root_whole.Goals as goal

pub returns : goal.returns
returns c = rw (root_clear c.args.a (omega arith)) (whole_is c.args.a c.root_digits-state.result (omega arith) c.root_digits-state.ensures)
