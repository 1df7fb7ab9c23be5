use Rattle.demands.proofs.OfRuns.{counts_visits}
use Rattle.callers.proofs.counts_visits.Goals as goal

pub returns : goal.returns
returns c = counts_visits c.quendaric_count_visits.ensures
