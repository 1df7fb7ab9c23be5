-- The answer in direction 3 is at most that in direction 0, which is at most that in direction 2; and direction 1 has the answer of 2 or 3, flags too.
use Rattle.laws.proofs.Basics.{◌≡◌, refl, true, false, cond, ℕ, ◌<◌, T}
use lib.{Ieee.{le}, Ieee.Scale.{finite}, Ieee.Positive.{num}}
use Rattle.division.{specs.declared.format.Binary64Result.{Binary64Result}, specs.Format.{sign_of, FiniteNonzero}, specs.Ieee.{Ieee}, proofs.IeeeOne.{ieee_one}}
use Rattle.ieee.specs.{LanguageQuotient.{value_of}, Directions.{quotient_sign}}
use Rattle.ieee.proofs.{LanguageQuotient.{number_of}, Operands.{quotient_rounded}, Directions.{one_alike, within, farthest}}

pub directions_ordered : (a b : ℕ) {x y z : Binary64Result} → Ieee 3 a b x → Ieee 0 a b y → Ieee 2 a b z → T (finite (value_of a)) → 0 < num (value_of b)
    → T (le (value_of x.pattern) (value_of y.pattern)) × T (le (value_of y.pattern) (value_of z.pattern))
directions_ordered a b i j l h k =
    let v = quotient_rounded 0 a b j h k in
    (farthest a b h k false v _ (within a b h k false (quotient_rounded 3 a b i h k)), farthest a b h k true v _ (within a b h k true (quotient_rounded 2 a b l h k)))

-- not-a-numbers, infinities and zeros have one answer in all directions
pub toward_zero : (a b : ℕ) {x y : Binary64Result} → Ieee 1 a b x → Ieee (cond (quotient_sign (value_of a) (value_of b)) 2 3) a b y → x ≡ y
toward_zero a b {x} u = ieee_one (cond (quotient_sign (value_of a) (value_of b)) 2 3) a b (record {
  nan = u.nan;
  nan_flag = u.nan_flag;
  invalid = u.invalid;
  by_zero = u.by_zero;
  infinite = u.infinite;
  zero = u.zero;
  quotient = λ h k. rw (sign_is h k) (one_alike (sign_of a b) (u.quotient h k));
})
  where
    sign_is : FiniteNonzero a → FiniteNonzero b → quotient_sign (value_of a) (value_of b) ≡ sign_of a b
    sign_is h k = let i = (number_of a h).0 in let j = (number_of b k).0 in rw (i.is, j.is) refl
