use Rattle.demands.proofs.OfDivision.{divides_whole}
use Rattle.callers.proofs.divides_whole.Goals as goal

pub returns : goal.returns
returns c = divides_whole c.quendaric_divide_whole.ensures
