use Rattle.demands.proofs.OfVersion.{names_version}
use Rattle.callers.proofs.names_version.Goals as goal

pub returns : goal.returns
returns c = names_version c.quendaric_version_3_6_0.ensures
