-- What IEEE 754 says of the directions, over the values that the logic (lib.Ieee) reads from patterns: down is the greatest value of the format that is at most the exact quotient,
-- up the least that is at least it, and toward zero is the one of the two that the sign asks for.
use Rattle.std.specs.Prelude.{◌≡◌, Bool, true, false, ◌||◌, ◌⊎◌, ℕ, zero, suc, ◌+◌, ◌*◌, ◌%◌, ◌^◌, ◌<◌, T, Float}
use Rattle.std.specs.Float.{nan, inf, fin}
use Rattle.std.specs.Float.Ieee.{up, down, below, level, le, unlike}
use Rattle.std.specs.Float.Ieee.Scale.{finite}
use Rattle.std.specs.Float.Ieee.Positive.{num, den}
use Rattle.ieee.specs.LanguageQuotient.{value_of, language_quotient}

-- ±a ≤ ±b, as the logic compares; true is a negative sign
abbrev pub at_most : Bool → ℕ → Bool → ℕ → Bool
at_most s a t b = below s a t b || level s a t b

-- the sign of a value; a not-a-number has none
abbrev pub sign_in : Float → Bool
sign_in nan = false
sign_in (inf s) = s
sign_in (fin s m e) = s

-- the sign of a quotient
abbrev pub quotient_sign : Float → Float → Bool
quotient_sign x y = unlike (sign_in x) (sign_in y)

-- z ≤ x / y, and x / y ≤ z, exactly, for finite x and y, y not zero: z·|y| against x with the quotient's sign, each taken as often as makes it whole; an infinity lies beyond all
abbrev pub AtMostQuotient : Float → Float → Float → Type 0
AtMostQuotient nan x y = ⊥
AtMostQuotient (inf s) x y = T s
AtMostQuotient (fin s m e) x y = T (at_most s (m * up e * (num y * den x)) (quotient_sign x y) (num x * (den y * down e)))

abbrev pub AtLeastQuotient : Float → Float → Float → Type 0
AtLeastQuotient nan x y = ⊥
AtLeastQuotient (inf true) x y = ⊥
AtLeastQuotient (inf false) x y = Unit {0}
AtLeastQuotient (fin s m e) x y = T (at_most (quotient_sign x y) (num x * (den y * down e)) s (m * up e * (num y * den x)))

-- z is x / y exactly
abbrev pub IsQuotient : Float → Float → Float → Type 0
IsQuotient z x y = AtMostQuotient z x y × AtLeastQuotient z x y

-- of the patterns a and b: p is a / b rounded down, and up, among all patterns
pub record RoundedDown (a b p : ℕ) : Type 0 where
  pub under : AtMostQuotient (value_of p) (value_of a) (value_of b)
  pub greatest : (q : ℕ) → AtMostQuotient (value_of q) (value_of a) (value_of b) → T (le (value_of q) (value_of p))

pub record RoundedUp (a b p : ℕ) : Type 0 where
  pub over : AtLeastQuotient (value_of p) (value_of a) (value_of b)
  pub least : (q : ℕ) → AtLeastQuotient (value_of q) (value_of a) (value_of b) → T (le (value_of p) (value_of q))

abbrev pub RoundedToZero : Bool → ℕ → ℕ → ℕ → Type 0
RoundedToZero true a b p = RoundedUp a b p
RoundedToZero false a b p = RoundedDown a b p

-- in the direction, which is up to 3
abbrev pub RoundedIn : ℕ → ℕ → ℕ → ℕ → Type 0
RoundedIn zero a b p = p ≡ language_quotient a b
RoundedIn (suc zero) a b p = RoundedToZero (quotient_sign (value_of a) (value_of b)) a b p
RoundedIn (suc (suc zero)) a b p = RoundedUp a b p
RoundedIn (suc (suc (suc d))) a b p = RoundedDown a b p

-- p is the 64-bit pattern of a / b rounded in the direction, and it has the quotient's sign, a zero too
pub record Directed (direction a b p : ℕ) : Type 0 where
  pub word : p < 2 ^ 64
  pub rounded : RoundedIn direction a b p
  pub sign : sign_in (value_of p) ≡ quotient_sign (value_of a) (value_of b)

-- a is finite, and b is finite and no zero: `num` is 0 for zeros, infinities and not-a-numbers
pub record FiniteOver (a b : ℕ) : Type 0 where
  pub dividend : T (finite (value_of a))
  pub divisor : 0 < num (value_of b)

-- what the logic's account asks of p as the pattern of a / b in a direction, for all operands: of zeros, infinities and not-a-numbers the language's own quotient
-- § 9.6 In every direction the pattern is that of the logic's own IEEE 754.
pub record Pinned (direction a b p : ℕ) : Type 0 where
  pub special : (num (value_of a) ≡ 0) ⊎ (num (value_of b) ≡ 0) → p ≡ language_quotient a b
  pub directed : FiniteOver a b → Directed direction a b p

-- ---- signs

-- a 64-bit pattern with its sign bit inverted
abbrev pub negated : ℕ → ℕ
negated p = (p + 2 ^ 63) % 2 ^ 64

-- the directions, up and down exchanged
abbrev pub mirrored : ℕ → ℕ
mirrored zero = 0
mirrored (suc zero) = 1
mirrored (suc (suc zero)) = 3
mirrored (suc (suc (suc d))) = 2
