-- `run_lent` meets its contract: the arguments' refusal, then the table's, else the run.
use Rattle.std.proofs.Common.{ap, refl}
use Rattle.std.proofs.lemmas.Result.{err_from_is_err_and}
use Rattle.selection.specs.{computed.Answer.{admission_in}, declared.Estimate.TheVariants.{EightBits}}
use Rattle.selection.proofs.TableRefusals.{first_refused, first_lent}
use Rattle.recurrence.proofs.run_lent.Goals as goal

pub returns-in_err-division : goal.returns-in_err-division
returns-in_err-division c =
    let p = err_from_is_err_and c.from_residual.result c.from_residual.ensures.1 in
    rw (p.1, p.2, first_refused EightBits _ _ c.arguments.ensures.refused (ap admission_in c.in_err-division.was)) refl

pub returns-in_err-table : goal.returns-in_err-table
returns-in_err-table c =
    let p = err_from_is_err_and c.from_residual-in_err-table.result c.from_residual-in_err-table.ensures.1 in
    rw (p.1, p.2, first_lent EightBits _ _ c.arguments.ensures.refused (ap admission_in c.in_ok-division.was) c.passing.ensures.refused c.in_err-table.was) refl

pub returns : goal.returns
returns c =
    rw (first_lent EightBits _ _ c.arguments.ensures.refused (ap admission_in c.in_ok-division.was) c.passing.ensures.refused c.in_ok-table.was, ← c.in_ok-table.ensures.lent, ← c.in_ok-division.ensures.taken.0, ← c.in_ok-division.ensures.taken.1)
    c.run_part.ensures
