use Rattle.demands.proofs.OfSelection.{tells_limits}
use Rattle.callers.proofs.tells_limits.Goals as goal

pub returns : goal.returns
returns c = tells_limits _ c.quendaric_row_limits.ensures
