use Rattle.std.proofs.Common.{ap, ◌∙◌, Ok, Err}
use Rattle.std.proofs.lemmas.Result.{err_from_is_err_and}
use Rattle.selection.specs.computed.{Answer.{answer_by}, Outcomes.{table_report, report_of}}
use Rattle.selection.proofs.Reports.{report_table}
use Rattle.selection.proofs.table.check_table.Goals as goal

pub returns-in_err-new : goal.returns-in_err-new
unfolding report_of
returns-in_err-new c =
    let p = err_from_is_err_and c.from_residual.result c.from_residual.ensures.1 in
    rw (p.1, p.2) (ap (answer_by Err (Ok (table_report c.args.estimate c.args.table.now))) c.in_err-new.ensures.refused)

pub returns : goal.returns
returns c = rw c.in_ok-new.ensures.lent at (ap Ok c.check.ensures ∙ report_table _ c.in_ok-new.field-0.digits)
