-- `comparison_of` meets its contract: the whole parts or the remainders tell, or the next two ratios compare alike, over a smaller sum of their divisors.
use Rattle.laws.proofs.Basics.{◌≡◌, ◌+◌, ◌*◌}
use Rattle.division.specs.computed.Ratios.{Ratios, comparison_of}
use Rattle.division.proofs.ratio.comparison_of.Given as goal

abbrev pub invariant-loop-x : goal.invariant-loop-x
invariant-loop-x l = Ratios l.n l.m l.p l.q × (comparison_of (l.n * l.q) (l.p * l.m) ≡ comparison_of (l.a * l.d) (l.c * l.b))

abbrev pub decreases-loop-x : goal.decreases-loop-x
decreases-loop-x l = l.m + l.q
