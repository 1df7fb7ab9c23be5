use Rattle.demands.proofs.OfBits.{repairs_table_for}
use Rattle.callers.proofs.repairs_table_for.Goals as goal

pub returns : goal.returns
returns c = repairs_table_for c.quendaric_repair_table_for.ensures
