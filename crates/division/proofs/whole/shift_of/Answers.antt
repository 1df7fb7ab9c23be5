-- The leading zeros put the leading one at bit 60.
use Rattle.laws.proofs.{Basics.{refl, lit<}, Powers.{lifted}}
use Rattle.division.proofs.whole.shift_of.Goals as goal

pub overflow_sub-result : goal.overflow_sub-result
overflow_sub-result c = (lifted 60 c.args.b (lit< tt) c.requires.0 c.requires.1).0

pub returns : goal.returns
returns c = let l = lifted 60 c.args.b (lit< tt) c.requires.0 c.requires.1 in record { is = refl; small = l.1; least = l.2; most = l.3 }
