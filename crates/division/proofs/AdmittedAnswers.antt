-- What the calls answer where nothing is refused: through every table that passes, the same.
use Rattle.laws.proofs.Basics.{◌≡◌, ap, List, ℕ, ◌/◌, ◌%◌, ◌^◌, ◌≤◌, ◌<◌}
use Rattle.selection.{specs.Answer.{refusal}, specs.Table.{Passes}, proofs.TableRefusals.{passed_last}, specs.declared.Estimate.TheVariants.{EightBits}}
use Rattle.division.specs.computed.{Whole.{whole_rules, whole_values, whole_of}, Rounding.{quotient_of}, Format.{direction_rules, binary64_values}, Binary64.{binary64_of}, RootSteps.{root_of}}
use Rattle.division.specs.computed.RootCalls.{root_binary64_of}
use Rattle.division.proofs.{DivisionCalls.{whole_clear, direction_clear}, WholeThrough.{whole_divides}, Binary64Through.{binary64_through_law}}

module _ (t : List ℕ) (p : Passes EightBits t) where
  pub whole_answer : (a b : ℕ) → a < 2 ^ 60 → 0 < b → b < 2 ^ 60 → whole_of t a b ≡ record { refusal = refusal 0 0; quotient = a / b; remainder = a % b }
  whole_answer a b ha pb hb = rw (passed_last EightBits p (whole_rules a b), whole_clear a b ha pb hb) (ap whole_values (whole_divides EightBits t a b p ha pb hb))

  pub binary64_answer : (direction a b : ℕ) → direction ≤ 3 → binary64_of t direction a b ≡ binary64_values (quotient_of direction a b)
  binary64_answer direction a b h = rw (passed_last EightBits p (direction_rules direction), direction_clear direction h) (ap binary64_values (binary64_through_law EightBits t direction a b p))

-- roots use no table
pub root_answer : (direction p : ℕ) → direction ≤ 3 → root_binary64_of direction p ≡ binary64_values (root_of direction p)
root_answer direction p h = rw (direction_clear direction h)
