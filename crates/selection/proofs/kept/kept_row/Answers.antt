use Rattle.laws.proofs.Basics.{ap, ◌∙◌, List, ℕ}
use Rattle.selection.specs.Cell as Cell
use Rattle.selection.specs.computed.Table.{row_bytes}
use Rattle.selection.proofs.KeptTable.{kept_is}
use Rattle.selection.proofs.kept.kept_row.Goals as goal

pub returns : goal.returns
returns c = c.row_of.ensures ∙ ap (λ (t : List ℕ). row_bytes t (Cell.row c.args.divisor)) kept_is
