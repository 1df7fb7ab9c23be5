use Rattle.laws.proofs.Basics.{not, ap, ◌∙◌}
use Rattle.selection.proofs.{Rows.{row_is}, Allowed.{bad_in_row}}
use Rattle.selection.proofs.table.DigitTable.is_bad.Goals as goal

pub returns : goal.returns
returns c =
    let a = c.args in
    ap not (rw (row_is c.m.view_is) at c.allows.ensures.0) ∙ bad_in_row a.m.estimate a.self.now.bytes.now a.m.row a.column.index c.args.column.bound
