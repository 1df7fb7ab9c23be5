use Rattle.demands.proofs.OfRuns.{steps_once}
use Rattle.callers.proofs.steps_once.Goals as goal

pub returns : goal.returns
returns c = steps_once c.quendaric_step.ensures
