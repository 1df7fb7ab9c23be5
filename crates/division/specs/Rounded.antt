-- What it means to round an exact magnitude to a binary64 pattern: the specification, section 9. It is stated once for every operation that rounds.
-- An exact magnitude is given by a scale and a number m: half a unit of 2^(e - 1074) taken j times lies at `scale e j`, and the magnitude at m.
-- Here e is E + 1022 for the specification's E, so that e = 0 is E raised to -1022, and a unit of 2^(E - 52) is 2^e units of 2^-1074.
use Rattle.std.specs.Prelude.{◌≡◌, ℕ, ◌+◌, ◌*◌, ◌^◌, ◌<◌, ◌≤◌, Bool, cond, ◌==◌, nat_lt}
use Rattle.division.specs.Rounding.{points_to_zero, Rounds}
use Rattle.division.specs.Format.{sign_bit, negative, field, magnitude, infinity, largest_finite, inexact_flag, underflow_flag, overflow_flag}
use Rattle.division.specs.declared.format.Binary64Result.{Binary64Result}
use Rattle.division.specs.declared.rounding.Mode.{Mode}

-- E is the largest whole number with 2^E at most the exact magnitude, or -1022 if that is larger: 2^E is 2^53 half units of 2^(E - 52), and 2^(E + 1) is 2^54
-- § 9.6 E is the greatest whole number with 2^E ≤ abs(a/b), at least −1022.
pub record IsExponent (scale : ℕ → ℕ → ℕ) (m e : ℕ) : Type 0 where
  pub reached : 0 < e → scale e (2 ^ 53) ≤ m
  pub beyond : m < scale e (2 ^ 54)

-- what overflow gives: infinity, or the largest finite number where the mode is toward zero
-- § 9.7 From 2^1024 on the answer is infinity or the largest finite number, with flags 5.
abbrev pub overflow_of : Mode → ℕ
overflow_of mode = cond (points_to_zero mode) largest_finite infinity

-- the flags of a result of K units that stays finite: inexact (1) when it isn't exactly the magnitude; underflow (2) too when that is below 2^-1022, which is 2^53 half units at e = 0
-- § 9.8 Inexact and underflow are judged by the exact quotient.
abbrev pub flags_of_result : (ℕ → ℕ → ℕ) → ℕ → ℕ → ℕ → ℕ
flags_of_result scale m e K = cond (scale e (2 * K) == m) 0 (cond (nat_lt m (scale 0 (2 ^ 53))) (inexact_flag + underflow_flag) inexact_flag)

-- x is the exact magnitude with the sign s: rounded once, to a multiple K of 2^(E - 52). What a direction means for that sign is the mode (`mode_of`)
-- § 9.6 The exact magnitude is rounded once.
pub record Rounded (mode : Mode) (s : Bool) (scale : ℕ → ℕ → ℕ) (m : ℕ) (x : Binary64Result) : Type 0 where
  pub e : ℕ
  pub K : ℕ
  pub exponent : IsExponent scale m e
  pub rounded : Rounds mode (scale e) m K
  -- 2^1024 or more: overflow (4) and inexact (1)
  pub over : 2 ^ 2098 ≤ K * 2 ^ e → x ≡ record { pattern = sign_bit s + overflow_of mode; flags = inexact_flag + overflow_flag }
  -- else the 64-bit pattern of that multiple with the sign s
  pub word : K * 2 ^ e < 2 ^ 2098 → x.pattern < 2 ^ 64
  pub value : K * 2 ^ e < 2 ^ 2098 → magnitude x.pattern ≡ K * 2 ^ e
  pub sign : K * 2 ^ e < 2 ^ 2098 → negative x.pattern ≡ s
  pub finite : K * 2 ^ e < 2 ^ 2098 → field x.pattern < 2047
  pub flags : K * 2 ^ e < 2 ^ 2098 → x.flags ≡ flags_of_result scale m e K
