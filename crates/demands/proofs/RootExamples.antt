-- The worked roots, computed.
use Rattle.laws.proofs.Basics.{refl}
use Rattle.division.specs.computed.Rounding.{finite_rounded}
use Rattle.demands.specs.computed.RootExamples.{RootExamples}

-- § 12.2 Roots are shown in numbers.
pub root_examples : RootExamples
unfolding finite_rounded
root_examples = record {
  four = (refl, refl, refl, refl);
  least = (refl, refl, refl, refl);
  nearest = refl;
  toward_zero = refl;
  upward = refl;
  downward = refl;
  nearest_lower = refl;
  upward_farther = refl;
  minus_one = (refl, refl, refl, refl);
  minus_least = (refl, refl, refl, refl);
  minus_infinity = (refl, refl, refl, refl);
  signalling = (refl, refl, refl, refl);
  minus_signalling = (refl, refl, refl, refl);
  quiet = (refl, refl, refl, refl);
  minus_zero = (refl, refl, refl, refl);
  infinity = (refl, refl, refl, refl);
}
