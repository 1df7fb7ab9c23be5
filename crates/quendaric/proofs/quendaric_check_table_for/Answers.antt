-- `quendaric_check_table_for` meets its contract: it is the check's answer for the number of bits that is asked for.
use Rattle.quendaric.proofs.quendaric_check_table_for.Goals as goal

pub returns : goal.returns
returns c = c.check_table_for.ensures
