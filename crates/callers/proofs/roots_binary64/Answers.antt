use Rattle.demands.proofs.OfDivision.{roots_binary64}
use Rattle.callers.proofs.roots_binary64.Goals as goal

pub returns : goal.returns
returns c = roots_binary64 c.quendaric_root_binary64.ensures
