-- `four_results` meets its contract: each of the four stands where it would alone.
use Rattle.recurrence.proofs.OneWord.{FourStand}
use Rattle.recurrence.proofs.one_word.four_results.Given as goal

abbrev pub invariant-loop : goal.invariant-loop
invariant-loop l = FourStand l.fn.divisions l.progress l.counter 0

abbrev pub invariant-loop-j : goal.invariant-loop-j
invariant-loop-j l = FourStand l.fn.divisions l.progress l.counter l.j
