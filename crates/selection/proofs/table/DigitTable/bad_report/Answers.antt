use Rattle.selection.proofs.{Rows.{row_is}, Reports.{report_in, bad_some}}
use Rattle.selection.proofs.table.DigitTable.bad_report.Goals as goal

pub unwrap-witness-requires : goal.unwrap-witness-requires
unwrap-witness-requires c = bad_some _ c.args.self.now.bytes.now _ c.first_in_row-column.ensures c.requires (rw (row_is c.m.view_is) at c.test_cell.ensures)

pub returns : goal.returns
returns c =
    let row = row_is c.m.view_is in
    rw (row, c.from.ensures) (report_in _ _ c.args.self.now.bytes.now _ c.first_in_row-column.ensures c.requires (rw row at c.test_cell.ensures) c.unwrap-witness.ensures)
