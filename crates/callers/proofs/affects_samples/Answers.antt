use Rattle.demands.proofs.OfBits.{affects_samples_for}
use Rattle.callers.proofs.affects_samples.Goals as goal

pub returns : goal.returns
returns c = affects_samples_for c.quendaric_affected_samples.ensures
