-- Computed definitions: what the functions return, tied to the meaning in Ieee by the law `ieee`. The last, `quotient_of`, is the answer through every table that passes
-- (`binary64_through_law`), and the others are its parts. None need be believed; `ieee_one` shows that no other answer has that meaning.
use Rattle.std.specs.Prelude.{ℕ, zero, suc, ◌+◌, ◌*◌, ◌%◌, ◌^◌, Bool, true, false, cond, ◌&&◌, ◌||◌, ◌==◌, nat_le, nat_lt, Option, Some, None}
use Rattle.division.specs.declared.rounding.Mode.{Mode}
use Rattle.division.specs.declared.rounding.Mode.TheVariants.{Nearest, Toward, Away}
use Rattle.division.specs.declared.format.Binary64Result.{Binary64Result}
use Rattle.division.specs.declared.format.Class.{Class}
use Rattle.division.specs.declared.format.Class.TheVariants.{Zero, Subnormal, Normal, Infinite, Nan}
use Rattle.division.specs.Rounding.{mode_of}
use Rattle.division.specs.Rounded.{overflow_of}
use Rattle.division.specs.Format.{sign_bit, magnitude, class_of, signalling, sign_of, infinity, quiet_nan, inexact_flag, underflow_flag, overflow_flag, division_by_zero_flag, invalid_flag}
use Rattle.division.specs.Ieee.{quotient_scale, quotient_place}

-- ---- rounding, once for every operation that rounds

-- An exact magnitude x ≥ 0 in some unit is given by k, the whole units in it, and by its tail:
-- 0 nothing is left, 1 less than half a unit, 2 half a unit, 3 more than half a unit.

-- nearest, ties to even
abbrev pub nearest : ℕ → ℕ → ℕ
nearest k tail = cond (nat_lt tail 2) k (cond (tail == 2) (k + k % 2) (k + 1))

abbrev pub rounded_to : Mode → ℕ → ℕ → ℕ
rounded_to Nearest k tail = nearest k tail
rounded_to Toward k tail = k
rounded_to Away k tail = cond (tail == 0) k (k + 1)

-- the tail beyond k units, for a magnitude at m where half a unit taken j times lies at f j
abbrev pub tail_at : (ℕ → ℕ) → ℕ → ℕ → ℕ
tail_at f m k = cond (m == f (2 * k)) 0 (cond (nat_lt m (f (2 * k + 1))) 1 (cond (m == f (2 * k + 1)) 2 3))

-- the flags of a result that does not overflow: 1 inexact; 2 underflow, if the exact magnitude is below 2^-1022 too
abbrev pub flags_of : ℕ → ℕ → ℕ → ℕ
flags_of e k tail = cond (tail == 0) 0 (cond (e == 0 && nat_lt k (2 ^ 52)) (inexact_flag + underflow_flag) inexact_flag)

-- K units of 2^(e - 1074), assembled: the pattern of K * 2^(e - 1074), or overflow from 2^1024 on
abbrev pub assembled : Mode → Bool → ℕ → ℕ → ℕ → ℕ → Binary64Result
assembled mode s e k tail K =
    cond (nat_le (2 ^ 2098) (K * 2 ^ e))
    (record { pattern = sign_bit s + overflow_of mode; flags = inexact_flag + overflow_flag })
    (record { pattern = sign_bit s + (e * 2 ^ 52 + K); flags = flags_of e k tail })

-- the answer for the magnitude of k units of 2^(e - 1074) and a tail
abbrev pub rounded_result : Mode → Bool → ℕ → ℕ → ℕ → Binary64Result
rounded_result mode s e k tail = assembled mode s e k tail (rounded_to mode k tail)

-- ---- an exact magnitude at m, on a scale: half a unit of 2^(e - 1074) taken j times lies at `scale e j`

-- its exponent, looked for from d down: the largest at which it has 2^53 half units, or 0
unfoldable pub largest : ℕ → (ℕ → ℕ → ℕ) → ℕ → ℕ
largest zero scale m = 0
largest (suc d) scale m = elim (nat_le (scale (suc d) (2 ^ 53)) m) [ true ↦ suc d | false ↦ largest d scale m ]

-- the greatest number from k on and below k + 2^n that f puts at m or before, bit by bit
unfoldable pub greatest : ℕ → (ℕ → ℕ) → ℕ → ℕ → ℕ
greatest zero f m k = k
greatest (suc n) f m k = elim (nat_le (f (k + 2 ^ n)) m) [ true ↦ greatest n f m (k + 2 ^ n) | false ↦ greatest n f m k ]

abbrev pub units_at : (ℕ → ℕ) → ℕ → ℕ
units_at f m = greatest 53 (λ k. f (2 * k)) m 0

abbrev pub rounded_units : Mode → Bool → (ℕ → ℕ) → ℕ → ℕ → ℕ → Binary64Result
rounded_units mode s f m e k = rounded_result mode s e k (tail_at f m k)

abbrev pub rounded_at : Mode → Bool → (ℕ → ℕ → ℕ) → ℕ → ℕ → Binary64Result
rounded_at mode s scale m e = rounded_units mode s (scale e) m e (units_at (scale e) m)

-- its answer; a magnitude is below 2^2098 units of 2^-1074, so a quotient of two is below 2^2098, and its e = E + 1022 at most 3119
unfoldable pub finite_rounded : ℕ → Bool → (ℕ → ℕ → ℕ) → ℕ → Binary64Result
unfolding largest greatest
finite_rounded direction s scale m = rounded_at (mode_of direction s) s scale m (largest 3119 scale m)

-- the quotient of two magnitudes
abbrev pub finite_quotient : ℕ → Bool → ℕ → ℕ → Binary64Result
finite_quotient direction s a b = finite_rounded direction s (quotient_scale b) (quotient_place a)

-- ---- the classes

abbrev pub is_nan : Class → Bool
is_nan Zero = false
is_nan Subnormal = false
is_nan Normal = false
is_nan Infinite = false
is_nan Nan = true

abbrev pub is_infinite : Class → Bool
is_infinite Zero = false
is_infinite Subnormal = false
is_infinite Normal = false
is_infinite Infinite = true
is_infinite Nan = false

abbrev pub is_zero : Class → Bool
is_zero Zero = true
is_zero Subnormal = false
is_zero Normal = false
is_zero Infinite = false
is_zero Nan = false

-- what a pair of classes leads to
pub data Case : Type 0 where
  NotANumber : Case
  Invalid : Case
  ToInfinity : Case
  ByZero : Case
  ToZero : Case
  Finite : Case

-- the specification's cases, in its order
abbrev pub case_of : Class → Class → Case
case_of x y =
    cond (is_nan x || is_nan y) NotANumber
    (cond ((is_zero x && is_zero y) || (is_infinite x && is_infinite y)) Invalid
    (cond (is_infinite x) ToInfinity
    (cond (is_zero y) ByZero
    (cond (is_zero x || is_infinite y) ToZero
    Finite))))

-- the flags where an operand is a not-a-number
abbrev pub nan_flags : ℕ → ℕ → ℕ
nan_flags a b = cond (signalling a || signalling b) invalid_flag 0

-- the answer to each case but a quotient of finite numbers; f: the flags where an operand is a not-a-number
abbrev pub decided : Bool → ℕ → Case → Option Binary64Result
decided s f NotANumber = Some (record { pattern = quiet_nan; flags = f })
decided s f Invalid = Some (record { pattern = quiet_nan; flags = invalid_flag })
decided s f ToInfinity = Some (record { pattern = sign_bit s + infinity; flags = 0 })
decided s f ByZero = Some (record { pattern = sign_bit s + infinity; flags = division_by_zero_flag })
decided s f ToZero = Some (record { pattern = sign_bit s; flags = 0 })
decided s f Finite = None

abbrev pub by_class : ℕ → ℕ → Option Binary64Result
by_class a b = decided (sign_of a b) (nan_flags a b) (case_of (class_of a) (class_of b))

-- else it is x
abbrev pub or_rounded : Binary64Result → Option Binary64Result → Binary64Result
or_rounded x (Some y) = y
or_rounded x None = x

-- a / b, in a direction
abbrev pub quotient_of : ℕ → ℕ → ℕ → Binary64Result
quotient_of direction a b = or_rounded (finite_quotient direction (sign_of a b) (magnitude a) (magnitude b)) (by_class a b)
