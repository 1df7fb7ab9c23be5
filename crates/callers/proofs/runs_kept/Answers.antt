use Rattle.demands.proofs.OfRuns.{runs_kept}
use Rattle.callers.proofs.runs_kept.Goals as goal

pub returns : goal.returns
returns c = runs_kept c.quendaric_run_kept.ensures
