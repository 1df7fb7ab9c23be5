-- `run_through_kept` meets its contract: only the arguments can be refused.
use Rattle.std.proofs.Common.{ap, refl}
use Rattle.std.proofs.lemmas.Result.{err_from_is_err_and}
use Rattle.selection.specs.{computed.Answer.{admission_in}, declared.Estimate.TheVariants.{EightBits}}
use Rattle.selection.proofs.TableRefusals.{first_kept}
use Rattle.recurrence.proofs.run_through_kept.Goals as goal

pub returns-in_err-division : goal.returns-in_err-division
returns-in_err-division c =
    let p = err_from_is_err_and c.from_residual.result c.from_residual.ensures.1 in
    rw (p.1, p.2, first_kept EightBits _ c.arguments.ensures.refused (ap admission_in c.in_err-division.was)) refl

pub returns : goal.returns
returns c =
    rw (first_kept EightBits _ c.arguments.ensures.refused (ap admission_in c.in_ok-division.was), ← c.in_ok-division.ensures.taken.0, ← c.in_ok-division.ensures.taken.1)
    c.run_part.ensures
