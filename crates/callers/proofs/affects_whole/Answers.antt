use Rattle.demands.proofs.OfBits.{affects_whole_for}
use Rattle.callers.proofs.affects_whole.Goals as goal

pub returns : goal.returns
returns c = affects_whole_for c.quendaric_affected_whole.ensures
