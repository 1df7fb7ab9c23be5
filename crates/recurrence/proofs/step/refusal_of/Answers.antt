-- `step::refusal_of` meets its contract: 14 where the remainder is too far from zero.
use Rattle.laws.proofs.Basics.{arith}
use Rattle.recurrence.proofs.StepRange.{by_far, by_near}
use Rattle.recurrence.proofs.step.refusal_of.Goals as goal

pub returns-then-divisor-unsigned_abs-clause-refused : goal.returns-then-divisor-unsigned_abs-clause-refused
returns-then-divisor-unsigned_abs-clause-refused c =
    let a = c.args in
    rw c.into-then-divisor-unsigned_abs.ensures (by_far a.sum a.carry a.divisor (omega arith) (omega arith) c.cast_signed-remainder.ensures c.unsigned_abs.ensures.value c.if-divisor-unsigned_abs.true)

pub returns-clause-refused : goal.returns-clause-refused
returns-clause-refused c = let a = c.args in by_near a.sum a.carry a.divisor (omega arith) (omega arith) c.cast_signed-remainder.ensures c.unsigned_abs.ensures.value c.if-divisor-unsigned_abs.false
