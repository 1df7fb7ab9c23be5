-- What IEEE 754 says of a square root in each direction, over the values that the logic (lib.Ieee) reads from patterns: down is the greatest value of the format that is at most the exact root,
-- up the least that is at least it, and the nearest lies nearer to it than every other. The language has no root; squares are compared, as fractions of whole numbers.
use Rattle.std.specs.Prelude.{◌≡◌, true, false, ℕ, zero, suc, ◌+◌, ◌*◌, ◌^◌, ◌<◌, T, Float}
use Rattle.std.specs.Float.{nan, inf, fin}
use Rattle.std.specs.Float.Ieee.{le}
use Rattle.std.specs.Float.Ieee.Scale.{finite}
use Rattle.std.specs.Float.Ieee.Positive.{num, den}
use Rattle.ieee.specs.LanguageQuotient.{value_of}
use Rattle.ieee.specs.Directions.{at_most, sign_in}

-- z ≤ √x, and √x ≤ z, exactly, for a finite x that is not below zero: z·z with the sign of z against x, each taken as often as makes it whole; an infinity lies beyond all
abbrev pub AtMostRoot : Float → Float → Type 0
AtMostRoot nan x = ⊥
AtMostRoot (inf s) x = T s
AtMostRoot (fin s m e) x = T (at_most s (num (fin s m e) * num (fin s m e) * den x) false (num x * (den (fin s m e) * den (fin s m e))))

abbrev pub AtLeastRoot : Float → Float → Type 0
AtLeastRoot nan x = ⊥
AtLeastRoot (inf true) x = ⊥
AtLeastRoot (inf false) x = Unit {0}
AtLeastRoot (fin s m e) x = T (at_most false (num x * (den (fin s m e) * den (fin s m e))) s (num (fin s m e) * num (fin s m e) * den x))

-- z is √x exactly
abbrev pub IsRoot : Float → Float → Type 0
IsRoot z x = AtMostRoot z x × AtLeastRoot z x

-- of two finite values that are not below zero: z is less than w; and z + w is less than 2·√x, and greater
abbrev pub LessThan : Float → Float → Type 0
LessThan z w = num z * den w < num w * den z

abbrev pub both_over : Float → Float → ℕ
both_over z w = num z * den w + num w * den z

abbrev pub both_under : Float → Float → ℕ
both_under z w = den z * den w

abbrev pub MiddleBelowRoot : Float → Float → Float → Type 0
MiddleBelowRoot z w x = both_over z w * both_over z w * den x < 4 * (num x * (both_under z w * both_under z w))

abbrev pub MiddleAboveRoot : Float → Float → Float → Type 0
MiddleAboveRoot z w x = 4 * (num x * (both_under z w * both_under z w)) < both_over z w * both_over z w * den x

-- of the patterns a and p: p is √a rounded down, up, and to nearest, among all patterns. No root lies halfway between two values, so that no tie is left
pub record RootDown (a p : ℕ) : Type 0 where
  pub under : AtMostRoot (value_of p) (value_of a)
  pub greatest : (q : ℕ) → AtMostRoot (value_of q) (value_of a) → T (le (value_of q) (value_of p))

pub record RootUp (a p : ℕ) : Type 0 where
  pub over : AtLeastRoot (value_of p) (value_of a)
  pub least : (q : ℕ) → AtLeastRoot (value_of q) (value_of a) → T (le (value_of p) (value_of q))

-- every other finite value that is not below zero lies farther: the middle between it and p is beyond the root
pub record RootNearest (a p : ℕ) : Type 0 where
  pub number : T (finite (value_of p))
  pub lower : (q : ℕ) → T (finite (value_of q)) → sign_in (value_of q) ≡ false → LessThan (value_of q) (value_of p) → MiddleBelowRoot (value_of q) (value_of p) (value_of a)
  pub upper : (q : ℕ) → T (finite (value_of q)) → sign_in (value_of q) ≡ false → LessThan (value_of p) (value_of q) → MiddleAboveRoot (value_of p) (value_of q) (value_of a)

-- in the direction, which is up to 3; toward zero is down
abbrev pub RootIn : ℕ → ℕ → ℕ → Type 0
RootIn zero a p = RootNearest a p
RootIn (suc zero) a p = RootDown a p
RootIn (suc (suc zero)) a p = RootUp a p
RootIn (suc (suc (suc d))) a p = RootDown a p

-- p is the 64-bit pattern of √a rounded in the direction, and it has no sign
pub record DirectedRoot (direction a p : ℕ) : Type 0 where
  pub word : p < 2 ^ 64
  pub rounded : RootIn direction a p
  pub sign : sign_in (value_of p) ≡ false

-- what the logic's account asks of p as the pattern of √a in a direction, for all operands: a zero and plus infinity give themselves, and what has no root the quiet not-a-number
-- § 12.2 In every direction the root's pattern is that of the logic's own IEEE 754.
pub record PinnedRoot (direction a p : ℕ) : Type 0 where
  pub not_a_number : value_of a ≡ nan → p ≡ 0x7FF8_0000_0000_0000
  pub minus_infinity : value_of a ≡ inf true → p ≡ 0x7FF8_0000_0000_0000
  pub below_zero : sign_in (value_of a) ≡ true → 0 < num (value_of a) → p ≡ 0x7FF8_0000_0000_0000
  pub zero : T (finite (value_of a)) → num (value_of a) ≡ 0 → p ≡ a
  pub infinity : value_of a ≡ inf false → p ≡ a
  pub directed : sign_in (value_of a) ≡ false → 0 < num (value_of a) → DirectedRoot direction a p
