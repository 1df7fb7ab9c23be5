use Rattle.demands.proofs.OfSelection.{checks_table}
use Rattle.callers.proofs.checks_table.Goals as goal

pub returns : goal.returns
returns c = checks_table _ c.quendaric_check_table.ensures
