-- The kept table passes, so only the arguments can be refused.
use Rattle.laws.proofs.Basics.{refl, ap}
use Rattle.selection.{proofs.TableRefusals.{first_kept}, specs.declared.Estimate.TheVariants.{EightBits}}
use Rattle.division.specs.computed.Whole.{whole_rules, whole_values}
use Rattle.division.proofs.whole.divided_kept.Goals as goal

pub returns : goal.returns
returns c =
    let x = c.in_ok-operands.ensures in
    rw (first_kept EightBits (whole_rules c.args.a c.args.b) x.refused refl, ← x.taken.0, ← x.taken.1) (ap whole_values c.divide.ensures)
