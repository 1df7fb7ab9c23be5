use Rattle.demands.proofs.OfSelection.{makes_table}
use Rattle.callers.proofs.makes_table.Goals as goal

pub returns : goal.returns
returns c = makes_table _ c.quendaric_make_table.ensures
