-- `visit_all` meets its contract: the runs of the first x dividends are counted, and then those of one more by the first y divisors.
use Rattle.recurrence.specs.computed.Visits.{operand, run_visits}
use Rattle.recurrence.proofs.Visiting.{Turned, dividend_visits}
use Rattle.recurrence.proofs.visits.visit_all.Given as goal

abbrev pub invariant-loop-x : goal.invariant-loop-x
invariant-loop-x l = Turned (dividend_visits l.table.bytes.now l.bits l.digits) l.initial.visits l.visits l.x

abbrev pub invariant-loop-y : goal.invariant-loop-y
invariant-loop-y l = Turned (λ y. run_visits l.table.bytes.now (operand l.bits l.x) (operand l.bits y) l.digits) l.initial.visits l.visits l.y
