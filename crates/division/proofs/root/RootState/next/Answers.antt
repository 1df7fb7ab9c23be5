-- The trial is taken off exactly where it fits.
use Rattle.laws.proofs.Basics.{refl, arith}
use Rattle.division.proofs.RootDigits.{one_more}
use Rattle.division.proofs.root.RootState.next.Goals as goal

pub returns : goal.returns
returns c m k t = one_more m k _ _ _ _ _ t refl (omega arith) (omega arith) c.select_unpredictable.ensures c.select_unpredictable-2.ensures
