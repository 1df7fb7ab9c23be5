-- `visit_run` meets its contract: after k turns the cells of the first k digits are counted.
use Rattle.recurrence.proofs.Visiting.{Visited}
use Rattle.recurrence.proofs.visits.visit_run.Given as goal

abbrev pub invariant-loop : goal.invariant-loop
invariant-loop l = Visited l.fn.table.bytes.now l.fn.division.dividend l.fn.division.divisor l.initial.visits l.visits l.state l.counter
