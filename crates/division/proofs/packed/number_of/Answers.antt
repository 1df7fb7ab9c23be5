-- `number_of` meets its contract: two digits a byte, and no product overflows, also where a half byte is above 9.
use Rattle.laws.proofs.Basics.{refl, add-one, arith}
use Rattle.std.proofs.Common.{pow-suc}
use Rattle.division.specs.Packed.{number_to}
use Rattle.division.proofs.packed.number_of.Goals as goal

pub loop-b-init : goal.loop-b-init
unfolding number_to
loop-b-init c = record { is = refl; small = omega arith }

pub loop-b-preserved : goal.loop-b-preserved
unfolding number_to
loop-b-preserved c = let i = c.loop-b.b-index in record { is = rw (c.loop-b.invariant.is, c.two_digits.ensures.0, add-one i); small = rw (add-one i, pow-suc 100 i) (omega arith) }
