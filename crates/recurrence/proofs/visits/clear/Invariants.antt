-- `clear` meets its contract: after k turns the first k counts are zeros, and the rest is as it was.
use Rattle.laws.proofs.Basics.{◌≡◌, ℕ}
use Rattle.laws.specs.Lists.{filled}
use Rattle.recurrence.proofs.visits.clear.Given as goal

abbrev pub invariant-loop-count : goal.invariant-loop-count
invariant-loop-count l = l.count-items ≡ filled (λ (c : ℕ). 0) l.count-index l.initial.count-items
