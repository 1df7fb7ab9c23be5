use Rattle.demands.proofs.OfBits.{tells_limits_for}
use Rattle.callers.proofs.tells_limits_for.Goals as goal

pub returns : goal.returns
returns c = tells_limits_for c.quendaric_row_limits_for.ensures
