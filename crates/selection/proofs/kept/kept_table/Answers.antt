use Rattle.selection.proofs.KeptTable.{kept_is}
use Rattle.selection.proofs.kept.kept_table.Goals as goal

pub returns : goal.returns
returns c = kept_is
