use Rattle.demands.proofs.OfSelection.{checks_cell}
use Rattle.callers.proofs.checks_cell.Goals as goal

pub returns : goal.returns
returns c = checks_cell _ c.quendaric_check_cell.ensures
