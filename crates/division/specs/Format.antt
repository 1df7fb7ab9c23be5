-- The binary64 format, over whole numbers: the specification, section 9. What rounding to it means is said in specs/Rounded, and what division means in specs/Ieee.
use Rattle.std.specs.Prelude.{◌≡◌, ℕ, ◌+◌, ◌-◌, ◌*◌, ◌/◌, ◌%◌, ◌^◌, Bool, cond, not, ◌&&◌, ◌⊎◌, ◌==◌, nat_le, nat_lt}
use Rattle.std.specs.Bool.{beq}
use Rattle.division.specs.declared.format.Class.{Class}
use Rattle.division.specs.declared.format.Class.TheVariants.{Zero, Subnormal, Normal, Infinite, Nan}

-- the three fields of a pattern
abbrev pub negative : ℕ → Bool
negative p = nat_le (2 ^ 63) p

abbrev pub field : ℕ → ℕ
field p = p / 2 ^ 52 % 2048

abbrev pub fraction : ℕ → ℕ
fraction p = p % 2 ^ 52

-- the magnitude of a finite pattern, in units of 2^-1074; of an infinity or a not-a-number it says nothing
abbrev pub magnitude : ℕ → ℕ
magnitude p = cond (field p == 0) (fraction p) ((2 ^ 52 + fraction p) * 2 ^ (field p - 1))

-- § 9.1 Each pattern has one of five classes; a not-a-number may be signalling.
abbrev pub class_of : ℕ → Class
class_of p =
    cond (field p == 0) (cond (fraction p == 0) Zero Subnormal)
    (cond (nat_lt (field p) 2047) Normal (cond (fraction p == 0) Infinite Nan))

-- a finite number other than zero, and a finite number, by the pattern's class
abbrev pub FiniteNonzero : ℕ → Type 0
FiniteNonzero p = (class_of p ≡ Subnormal) ⊎ (class_of p ≡ Normal)

abbrev pub IsFinite : ℕ → Type 0
IsFinite p = (class_of p ≡ Zero) ⊎ FiniteNonzero p

-- a signalling not-a-number: the top fraction bit is 0, the fraction is not 0
-- § 9.1 Each pattern has one of five classes; a not-a-number may be signalling.
abbrev pub signalling : ℕ → Bool
signalling p = field p == 2047 && (nat_lt 0 (fraction p) && nat_lt (fraction p) (2 ^ 51))

-- the sign's weight; true is a negative sign
abbrev pub sign_bit : Bool → ℕ
sign_bit s = cond s (2 ^ 63) 0

-- the patterns that the specification names, without a sign
abbrev pub infinity : ℕ
infinity = 0x7FF0_0000_0000_0000

abbrev pub largest_finite : ℕ
largest_finite = 0x7FEF_FFFF_FFFF_FFFF

abbrev pub quiet_nan : ℕ
quiet_nan = 0x7FF8_0000_0000_0000

-- the flags
abbrev pub inexact_flag : ℕ
inexact_flag = 1

abbrev pub underflow_flag : ℕ
underflow_flag = 2

abbrev pub overflow_flag : ℕ
overflow_flag = 4

abbrev pub division_by_zero_flag : ℕ
division_by_zero_flag = 8

abbrev pub invalid_flag : ℕ
invalid_flag = 16

-- the sign is the exclusive or of the signs
abbrev pub sign_of : ℕ → ℕ → Bool
sign_of a b = not (beq (negative a) (negative b))
