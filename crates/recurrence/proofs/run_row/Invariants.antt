-- `run_row` meets its contract: after k turns the first k bytes are the run's digits.
use Rattle.recurrence.proofs.Loop.{Reached}
use Rattle.recurrence.proofs.run_row.Given as goal

abbrev pub invariant-loop-digit : goal.invariant-loop-digit
invariant-loop-digit g l = Reached (g.T.Rows.table l.table) l.division.dividend l.division.divisor l.initial.out l.out l.state l.digit-index
