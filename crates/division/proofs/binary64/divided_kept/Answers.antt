-- The kept table passes, so only the direction can be refused.
use Rattle.laws.proofs.Basics.{refl, sym, ap}
use Rattle.selection.{proofs.TableRefusals.{first_kept}, specs.declared.Estimate.TheVariants.{EightBits}}
use Rattle.division.specs.computed.{Directions.{direction_number}, Format.{direction_rules, binary64_values}}
use Rattle.division.proofs.DivisionCalls.{direction_taken}
use Rattle.division.proofs.binary64.divided_kept.Goals as goal

pub returns : goal.returns
returns c =
    let d = c.in_ok-direction.direction in
    rw (← c.in_ok-direction.ensures, first_kept EightBits (direction_rules (direction_number d)) (sym (direction_taken d)) refl) (ap binary64_values c.divide.ensures)
