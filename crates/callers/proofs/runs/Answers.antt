use Rattle.demands.proofs.OfRuns.{runs}
use Rattle.callers.proofs.runs.Goals as goal

pub returns : goal.returns
returns c = runs c.quendaric_run.ensures
