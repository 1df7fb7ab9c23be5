use Rattle.demands.proofs.OfBits.{checks_table_for}
use Rattle.callers.proofs.checks_table_for.Goals as goal

pub returns : goal.returns
returns c = checks_table_for c.quendaric_check_table_for.ensures
