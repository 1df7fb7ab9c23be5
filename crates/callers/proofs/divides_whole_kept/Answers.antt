use Rattle.demands.proofs.OfDivision.{divides_whole_kept}
use Rattle.callers.proofs.divides_whole_kept.Goals as goal

pub returns : goal.returns
returns c = divides_whole_kept c.quendaric_divide_whole_kept.ensures
