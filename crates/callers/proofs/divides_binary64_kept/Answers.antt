use Rattle.demands.proofs.OfDivision.{divides_binary64_kept}
use Rattle.callers.proofs.divides_binary64_kept.Goals as goal

pub returns : goal.returns
returns c = divides_binary64_kept c.quendaric_divide_binary64_kept.ensures
