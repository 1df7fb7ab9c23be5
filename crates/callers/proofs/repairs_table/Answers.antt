use Rattle.demands.proofs.OfSelection.{repairs_table}
use Rattle.callers.proofs.repairs_table.Goals as goal

pub returns : goal.returns
returns c = repairs_table _ c.quendaric_repair_table.ensures
