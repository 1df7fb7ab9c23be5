use Rattle.demands.proofs.OfBits.{makes_table_for}
use Rattle.callers.proofs.makes_table_for.Goals as goal

pub returns : goal.returns
returns c = makes_table_for c.quendaric_make_table_for.ensures
