-- `result_row` meets its contract: after k turns the division stands where k steps lead.
use Rattle.recurrence.proofs.OneWord.{Stands}
use Rattle.recurrence.proofs.one_word.result_row.Given as goal

abbrev pub invariant-loop : goal.invariant-loop
invariant-loop l = Stands l.fn.division l.progress l.counter
