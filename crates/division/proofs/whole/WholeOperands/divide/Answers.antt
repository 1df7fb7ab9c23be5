use Rattle.division.proofs.DivisionCalls.{run_is}
use Rattle.division.proofs.whole.WholeOperands.divide.Goals as goal

pub returns : goal.returns
returns g c = run_is _ _ _ c.run-run.result c.run-run.ensures c.result_through-ran.ensures.result
