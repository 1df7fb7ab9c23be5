use Rattle.std.proofs.Common.{ap, sym, ◌∙◌}
use Rattle.std.proofs.lemmas.Result.{err_from_is_err_and}
use Rattle.selection.specs.declared.Estimate.TheVariants.{EightBits}
use Rattle.selection.specs.computed.Answer.{admission}
use Rattle.selection.proofs.Reports.{admission_rules, report_means, report_refuses}
use Rattle.selection.proofs.passing.passing.Goals as goal

pub returns-in_err-check_table-clause-refused : goal.returns-in_err-check_table-clause-refused
returns-in_err-check_table-clause-refused c =
    let p = err_from_is_err_and c.from_residual.result c.from_residual.ensures.1 in
    rw (p.1, p.2) (ap admission (sym c.in_err-check_table.was ∙ c.check_table.ensures) ∙ admission_rules EightBits c.args.table.now)

pub invariant_of-result : goal.invariant_of-result
invariant_of-result c = record { passes = (report_means EightBits c.args.table.now (sym c.in_ok-check_table.was ∙ c.check_table.ensures) c.in-Passed.is).0 }

pub returns-in-Passed-clause-refused : goal.returns-in-Passed-clause-refused
returns-in-Passed-clause-refused c = report_refuses EightBits c.args.table.now (sym c.in_ok-check_table.was ∙ c.check_table.ensures) c.in-Passed.is

pub returns-in-Bad-clause-refused : goal.returns-in-Bad-clause-refused
returns-in-Bad-clause-refused c = rw (c.at.ensures, c.place.ensures) (report_refuses EightBits c.args.table.now (sym c.in_ok-check_table.was ∙ c.check_table.ensures) c.in-Bad.is)
