-- Roots, step by step. No step need be believed: `whole_root_law` and `ieee_root` show what the answers mean.
use Rattle.std.specs.Prelude.{◌≡◌, ℕ, ◌+◌, ◌*◌, ◌^◌, ◌<◌, ◌≤◌, false, cond, Option, Some, None}
use Rattle.division.specs.Format.{negative, magnitude, class_of, signalling, quiet_nan, invalid_flag}
use Rattle.division.specs.computed.Rounding.{greatest, finite_rounded, or_rounded}
use Rattle.division.specs.Roots.{root_scale, root_place}
use Rattle.division.specs.declared.format.Binary64Result.{Binary64Result}
use Rattle.division.specs.declared.format.Class.{Class}
use Rattle.division.specs.declared.format.Class.TheVariants.{Zero, Subnormal, Normal, Infinite, Nan}
use Rattle.division.specs.declared.root.RootState.{RootState}

-- the digits of the root of m are taken down to the weight 2^k: the root so far is a multiple of it, and less than one more of it is left
pub record DigitsTaken (m k : ℕ) (x : RootState) : Type 0 where
  pub weight : x.unit ≡ 2 ^ k
  pub digits : ℕ
  pub placed : x.twice ≡ digits * (2 * x.unit)
  pub value : x.twice * x.twice + 4 * (x.unit * x.rest) ≡ 4 * m
  pub left : x.rest < x.twice + x.unit
  pub room : x.twice + 2 * x.unit ≤ 2 ^ 63

-- the whole root of a below 2^60 has 30 bits
unfoldable pub whole_root : ℕ → ℕ
unfolding greatest
whole_root a = greatest 30 (λ s. s * s) a 0

-- ---- binary64

-- the root of a magnitude
abbrev pub finite_root : ℕ → ℕ → Binary64Result
finite_root direction a = finite_rounded direction false root_scale (root_place a)

-- invalid with a negative sign, else x
abbrev pub unless_negative : ℕ → Option Binary64Result → Option Binary64Result
unless_negative p x = cond (negative p) (Some (record { pattern = quiet_nan; flags = invalid_flag })) x

-- what its class and its sign alone decide
abbrev pub root_of_class : ℕ → Class → Option Binary64Result
root_of_class p Zero = Some (record { pattern = p; flags = 0 })
root_of_class p Subnormal = unless_negative p None
root_of_class p Normal = unless_negative p None
root_of_class p Infinite = unless_negative p (Some (record { pattern = p; flags = 0 }))
root_of_class p Nan = Some (record { pattern = quiet_nan; flags = cond (signalling p) invalid_flag 0 })

abbrev pub root_by_class : ℕ → Option Binary64Result
root_by_class p = root_of_class p (class_of p)

-- the root of p, in a direction
abbrev pub root_of : ℕ → ℕ → Binary64Result
root_of direction p = or_rounded (finite_root direction (magnitude p)) (root_by_class p)
