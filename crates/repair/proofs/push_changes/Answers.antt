-- `repair::push_changes` meets its contract: the line of names, the lines of the cells, and the number of changes with the divider's bits.
use Rattle.printing.proofs.Texts.{adds_then}
use Rattle.repair.proofs.push_changes.Goals as goal

pub returns : goal.returns
returns c =
    let bits = rw c.from.ensures at c.push_number-2.ensures in
    adds_then c.push.ensures (adds_then c.push_cells.ensures (adds_then c.push-2.ensures (adds_then c.push_number.ensures bits)))
