use Rattle.demands.proofs.OfDivision.{roots_whole}
use Rattle.callers.proofs.roots_whole.Goals as goal

pub returns : goal.returns
returns c = roots_whole c.quendaric_root_whole.ensures
