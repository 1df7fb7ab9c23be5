-- Bigger stays bigger, of the answers through every table that passes.
use Rattle.laws.proofs.Basics.{List, ℕ, ◌≤◌, T}
use lib.{Ieee.{le}, Ieee.Scale.{finite}, Ieee.Positive.{positive}}
use Rattle.selection.specs.{Table.{Passes}, declared.Estimate.TheVariants.{EightBits}}
use Rattle.division.proofs.IeeeLaws.{ieee_through}
use Rattle.ieee.specs.LanguageQuotient.{value_of}
use Rattle.ieee.specs.computed.Ieee754.{answer_value}
use Rattle.ieee.proofs.BiggerStays.{bigger_stays}

module _ (t : List ℕ) (p : Passes EightBits t) where
  pub bigger : (direction a b d : ℕ) → direction ≤ 3 → T (finite (value_of a)) → T (finite (value_of b)) → T (positive (value_of d)) → T (le (value_of a) (value_of b))
      → T (le (answer_value t direction a d) (answer_value t direction b d))
  bigger direction a b d l = bigger_stays direction a b d (ieee_through t p direction a d l) (ieee_through t p direction b d l)
