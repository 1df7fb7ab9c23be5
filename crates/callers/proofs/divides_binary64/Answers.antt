use Rattle.demands.proofs.OfDivision.{divides_binary64}
use Rattle.callers.proofs.divides_binary64.Goals as goal

pub returns : goal.returns
returns c = divides_binary64 c.quendaric_divide_binary64.ensures
