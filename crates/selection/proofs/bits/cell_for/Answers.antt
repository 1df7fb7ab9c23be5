use Rattle.std.proofs.Common.{sym, ◌∙◌, Err}
use Rattle.selection.specs.computed.Outcomes.{cell_of}
use Rattle.selection.proofs.ForBits.{bits_taken}
use Rattle.selection.proofs.bits.cell_for.Goals as goal

pub returns : goal.returns
returns c = c.check_cell.ensures ∙ bits_taken c.args.bits Err (λ E. cell_of E c.args.row c.args.column c.args.byte) (sym c.in_ok-try_from.was ∙ c.try_from.ensures)
