-- `number_of` meets its contract: a byte counts 165 at most, so that after i bytes the number stays two below 2·100^i.
use Rattle.laws.proofs.Basics.{◌≡◌, ◌+◌, ◌*◌, ◌^◌, ◌≤◌}
use Rattle.division.specs.Packed.{number_to}
use Rattle.division.proofs.packed.number_of.Given as goal

abbrev pub invariant-loop-b : goal.invariant-loop-b
invariant-loop-b l = record { is : l.number ≡ number_to l.b-items l.b-index; small : l.number + 2 ≤ 2 * 100 ^ l.b-index }
