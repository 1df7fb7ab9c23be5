use Rattle.demands.proofs.OfDivision.{divides_samples}
use Rattle.callers.proofs.divides_samples.Goals as goal

pub returns : goal.returns
returns c = divides_samples c.quendaric_divide_samples.ensures
