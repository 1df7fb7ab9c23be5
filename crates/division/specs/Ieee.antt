-- What binary64 division means, for every pair of operands: the specification, section 9.
use Rattle.std.specs.Prelude.{◌≡◌, ℕ, ◌+◌, ◌*◌, ◌^◌, Bool, cond, ◌||◌, ◌⊎◌}
use Rattle.division.specs.Format.{sign_bit, magnitude, class_of, FiniteNonzero, IsFinite, signalling, sign_of, infinity, quiet_nan, division_by_zero_flag, invalid_flag}
use Rattle.division.specs.Rounding.{mode_of}
use Rattle.division.specs.Rounded.{Rounded}
use Rattle.division.specs.declared.format.Binary64Result.{Binary64Result}
use Rattle.division.specs.declared.format.Class.TheVariants.{Zero, Infinite, Nan}

-- Half a unit of 2^(E - 52), which is 2^(e - 1075) for e = E + 1022, taken j times, against a/b for two magnitudes: both multiplied through by b and by 2^1075, so that j half units
-- lie at j·(b·2^e) and a/b at 2·(a·2^1074)
abbrev pub quotient_scale : ℕ → ℕ → ℕ → ℕ
quotient_scale b e j = j * (b * 2 ^ e)

abbrev pub quotient_place : ℕ → ℕ
quotient_place a = 2 * (a * 2 ^ 1074)

-- x is a/b for two magnitudes above 0, in units of 2^-1074, with the sign s, rounded once
-- § 9.6 The exact magnitude is rounded once.
abbrev pub RoundedQuotient : ℕ → Bool → ℕ → ℕ → Binary64Result → Type 0
RoundedQuotient direction s a b = Rounded (mode_of direction s) s (quotient_scale b) (quotient_place a)

-- x is a / b
-- § 9.5 Every case has its sign, pattern and flags.
pub record Ieee (direction a b : ℕ) (x : Binary64Result) : Type 0 where
  pub nan : (class_of a ≡ Nan) ⊎ (class_of b ≡ Nan) → x.pattern ≡ quiet_nan
  pub nan_flag : (class_of a ≡ Nan) ⊎ (class_of b ≡ Nan) → x.flags ≡ cond (signalling a || signalling b) invalid_flag 0
  pub invalid : ((class_of a ≡ Zero) × (class_of b ≡ Zero)) ⊎ ((class_of a ≡ Infinite) × (class_of b ≡ Infinite)) → x ≡ record { pattern = quiet_nan; flags = invalid_flag }
  pub by_zero : FiniteNonzero a → class_of b ≡ Zero → x ≡ record { pattern = sign_bit (sign_of a b) + infinity; flags = division_by_zero_flag }
  pub infinite : class_of a ≡ Infinite → IsFinite b → x ≡ record { pattern = sign_bit (sign_of a b) + infinity; flags = 0 }
  pub zero : ((class_of a ≡ Zero) × FiniteNonzero b) ⊎ (IsFinite a × (class_of b ≡ Infinite)) → x ≡ record { pattern = sign_bit (sign_of a b); flags = 0 }
  pub quotient : FiniteNonzero a → FiniteNonzero b → RoundedQuotient direction (sign_of a b) (magnitude a) (magnitude b) x
