use Rattle.demands.proofs.OfBits.{affects_run_for}
use Rattle.callers.proofs.affects_run.Goals as goal

pub returns : goal.returns
returns c = affects_run_for c.quendaric_affected_run.ensures
