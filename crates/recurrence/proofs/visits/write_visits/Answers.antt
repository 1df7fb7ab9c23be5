-- `write_visits` meets its contract: the arguments' refusal, then the table's, else the visits.
use Rattle.laws.proofs.Basics.{refl}
use Rattle.std.proofs.lemmas.Result.{err_from_is_err_and}
use Rattle.selection.specs.declared.Estimate.TheVariants.{EightBits}
use Rattle.selection.proofs.TableRefusals.{first_refused, first_lent}
use Rattle.recurrence.proofs.visits.write_visits.Goals as goal

pub returns-in_err-refusal_of : goal.returns-in_err-refusal_of
returns-in_err-refusal_of c =
    let p = err_from_is_err_and c.from_residual.result c.from_residual.ensures.1 in
    rw (p.1, p.2, first_refused EightBits _ _ c.refusal_of.ensures.refused c.in_err-refusal_of.was) refl

pub returns-in_err-table : goal.returns-in_err-table
returns-in_err-table c =
    let p = err_from_is_err_and c.from_residual-in_err-table.result c.from_residual-in_err-table.ensures.1 in
    rw (p.1, p.2, first_lent EightBits _ _ c.refusal_of.ensures.refused c.in_ok-refusal_of.was c.passing.ensures.refused c.in_err-table.was) refl

pub returns : goal.returns
returns c =
    rw (first_lent EightBits _ _ c.refusal_of.ensures.refused c.in_ok-refusal_of.was c.passing.ensures.refused c.in_ok-table.was, c.visit_all.ensures, c.in_ok-table.ensures.lent) refl
