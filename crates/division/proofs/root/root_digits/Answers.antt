-- A digit a turn.
use Rattle.laws.proofs.Basics.{refl}
use Rattle.std.proofs.Math.Nat.{sub-zero}
use Rattle.division.proofs.RootDigits.{none_taken}
use Rattle.division.proofs.root.root_digits.Goals as goal

pub loop-init : goal.loop-init
loop-init c = rw (sub-zero c.args.first) (none_taken c.args.radicand c.args.first _ c.requires.0 c.requires.1 refl)
