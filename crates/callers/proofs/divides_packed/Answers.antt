use Rattle.demands.proofs.OfDivision.{divides_packed}
use Rattle.callers.proofs.divides_packed.Goals as goal

pub returns : goal.returns
returns c = divides_packed c.quendaric_divide_packed.ensures
