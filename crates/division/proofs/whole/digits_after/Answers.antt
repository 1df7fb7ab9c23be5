-- There are four zeros at least above a number below 2^60.
use Rattle.laws.proofs.Basics.{◌≡◌, refl, arith}
use Rattle.division.specs.computed.WholeSteps.{digits_after}
use Rattle.division.proofs.WholeThrough.{room_above, after_bounds}
use Rattle.division.proofs.whole.digits_after.Goals as goal

pub overflow_sub-room : goal.overflow_sub-room
overflow_sub-room c = omega (arith, (room_above c.args.a c.requires.0).0)

pub returns : goal.returns
returns c =
    let b = after_bounds c.args.a c.args.s c.requires.0 c.requires.1 in
    let e : c.div_ceil.result ≡ digits_after c.args.a c.args.s = omega arith in
    rw e (record { is = refl; few = b.0; within = b.1; dividend = b.2 })
