-- What the binary64 root means, for every operand: the specification, section 12.
use Rattle.std.specs.Prelude.{◌≡◌, ℕ, ◌+◌, ◌*◌, ◌^◌, ◌≤◌, true, false, cond, ◌⊎◌, ◌≢◌}
use Rattle.division.specs.Format.{negative, magnitude, class_of, signalling, quiet_nan, invalid_flag, FiniteNonzero}
use Rattle.division.specs.Rounding.{mode_of}
use Rattle.division.specs.Rounded.{IsExponent, Rounded}
use Rattle.division.specs.declared.format.Binary64Result.{Binary64Result}
use Rattle.division.specs.declared.format.Class.TheVariants.{Zero, Normal, Infinite, Nan}

-- Half a unit of 2^(E - 52), which is 2^(e - 1075) for e = E + 1022, taken j times, against the root of a magnitude a: both squared, and multiplied through by 2^2150, so that
-- j half units lie at j·j·4^e and the root at 4·(a·2^1074)
abbrev pub root_scale : ℕ → ℕ → ℕ
root_scale e j = j * j * 4 ^ e

abbrev pub root_place : ℕ → ℕ
root_place a = 4 * (a * 2 ^ 1074)

-- x is the root of a magnitude above 0, in units of 2^-1074, rounded once
-- § 12.2 The binary64 root is rounded once, and special operands have their answers.
abbrev pub RoundedRoot : ℕ → ℕ → Binary64Result → Type 0
RoundedRoot direction a = Rounded (mode_of direction false) false root_scale (root_place a)

-- x is the root of p
-- § 12.2 The binary64 root is rounded once, and special operands have their answers.
pub record IeeeRoot (direction p : ℕ) (x : Binary64Result) : Type 0 where
  pub nan : class_of p ≡ Nan → x ≡ record { pattern = quiet_nan; flags = cond (signalling p) invalid_flag 0 }
  pub below_zero : negative p ≡ true → FiniteNonzero p ⊎ (class_of p ≡ Infinite) → x ≡ record { pattern = quiet_nan; flags = invalid_flag }
  pub itself : (class_of p ≡ Zero) ⊎ ((negative p ≡ false) × (class_of p ≡ Infinite)) → x ≡ record { pattern = p; flags = 0 }
  pub root : negative p ≡ false → FiniteNonzero p → RoundedRoot direction (magnitude p) x

-- what never happens to the root x of a finite number p above 0: it is not subnormal and does not overflow, it sets no flag but inexact (1), and no root lies halfway between two multiples
-- § 12.2 A root of a number above zero is normal, and inexact is its only flag.
pub record RootPlain (p : ℕ) (x : Binary64Result) : Type 0 where
  pub normal : class_of x.pattern ≡ Normal
  pub flags : x.flags ≤ 1
  pub no_tie : (e j : ℕ) → IsExponent root_scale (root_place (magnitude p)) e → root_scale e (2 * j + 1) ≢ root_place (magnitude p)
