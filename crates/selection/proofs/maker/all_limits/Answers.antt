use Rattle.laws.proofs.{Basics.{arith, length-set}, Lists.{set_more}}
use Rattle.selection.specs.Maker.{AreLimits}
use Rattle.selection.proofs.maker.all_limits.Goals as goal

pub loop-row-preserved : goal.loop-row-preserved
loop-row-preserved c = let l = c.loop-row in record { size = simp length-set l.invariant.size; limits = set_more (AreLimits _) l.limits-items l.row _ _ (omega arith) l.invariant.limits (rw c.new.ensures at c.limits.ensures.1) }
