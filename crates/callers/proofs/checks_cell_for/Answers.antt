use Rattle.demands.proofs.OfBits.{checks_cell_for}
use Rattle.callers.proofs.checks_cell_for.Goals as goal

pub returns : goal.returns
returns c = checks_cell_for c.quendaric_check_cell_for.ensures
