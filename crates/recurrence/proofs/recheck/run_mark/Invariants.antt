-- `run_mark` meets its contract: a turn whose step does not stray makes the run's next step.
use Rattle.recurrence.proofs.RecheckRow.{Followed}
use Rattle.recurrence.proofs.recheck.run_mark.Given as goal

abbrev pub invariant-loop : goal.invariant-loop
invariant-loop l = Followed l.fn.estimate l.fn.table.bytes.now l.fn.dividend l.divisor l.state l.counter
