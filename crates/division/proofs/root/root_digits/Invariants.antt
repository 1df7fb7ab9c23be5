-- After so many turns, as many digits are taken.
use Rattle.laws.proofs.Basics.{◌-◌, ◌*◌, ◌^◌}
use Rattle.division.specs.computed.RootSteps.{DigitsTaken}
use Rattle.division.proofs.root.root_digits.Given as goal

abbrev pub invariant-loop : goal.invariant-loop
invariant-loop l = DigitsTaken (2 ^ l.first * l.radicand) (l.first - l.counter) l.state
