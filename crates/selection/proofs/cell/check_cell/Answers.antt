use Rattle.std.proofs.Common.{ap, sym, ◌∙◌, Ok}
use Rattle.selection.proofs.BiasedPoints.{cell_known}
use Rattle.selection.proofs.cell.check_cell.Goals as goal

pub returns : goal.returns
returns c = ap Ok (rw c.new-m.ensures at c.test_cell.ensures) ∙ sym (cell_known c.args.estimate (record { row = c.if-row-gt15.false; column = c.if-column-gt127.false; byte = c.if-byte-gt4.false }))
