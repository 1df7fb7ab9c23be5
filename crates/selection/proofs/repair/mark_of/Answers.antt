use Rattle.laws.proofs.Basics.{◌≡◌, refl, Bool, true, false, cond, lt-ltb, le-ltb}
use Rattle.std.specs.Int.{from_bool}
use Rattle.selection.proofs.repair.mark_of.Goals as goal
use Rattle.selection.proofs.repair.mark_of.Goals.{then-byte-gt4, else-byte-gt4}

number : (b : Bool) → from_bool b ≡ cond b 1 0
number true = refl
number false = refl

pub returns : goal.returns
returns c =
    elim c.if-byte-gt4.branch [
      | then-byte-gt4 w ↦ rw (c.from.ensures, w.from-is, lt-ltb _ _ w.if-byte-gt4.true)
      | else-byte-gt4 w ↦ rw (c.from.ensures, w.from-is, number _, le-ltb _ _ w.if-byte-gt4.false, w.allows.ensures.0)
    ]
