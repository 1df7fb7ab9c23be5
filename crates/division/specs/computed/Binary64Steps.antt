-- Binary64 division through a table, step by step: the significands' quotient is the run's, its digits the table's. Through a table that passes no step need be believed: `binary64_through_law`
-- shows that they give `quotient_of`, and `ieee` what that means. Of a burned table they say what a divider does, and the recheck's claims rest on them.
use Rattle.std.specs.Prelude.{◌≡◌, ℕ, ◌+◌, ◌-◌, ◌*◌, ◌/◌, ◌%◌, ◌^◌, ◌<◌, ◌≤◌, min, Bool, cond, List, nat_le}
use Rattle.recurrence.specs.Recurrence.{result_of}
use Rattle.division.specs.declared.format.Patterns.{Patterns}
use Rattle.division.specs.Format.{FiniteNonzero, sign_of}
use Rattle.division.specs.computed.Significands.{significand_of}
use Rattle.division.specs.Rounding.{mode_of}
use Rattle.division.specs.computed.Rounding.{rounded_result, by_class, or_rounded}
use Rattle.division.specs.declared.format.Scaled.{Scaled}
use Rattle.division.specs.declared.format.Binary64Result.{Binary64Result}
use Rattle.division.specs.declared.rounding.Aligned.{Aligned}
use Rattle.selection.specs.declared.Estimate.{Estimate}
use Rattle.selection.specs.declared.Estimate.TheVariants.{EightBits}

-- a quotient with its sticky bit: twice the whole part, and 1 more where something is left
abbrev pub sticky : ℕ → ℕ → ℕ
sticky n u = 2 * (n / u) + min 1 (n % u)

-- that quotient at the exponent which its size gives, or at the least exponent: quarters of a unit, the lowest bit sticky
abbrev pub aligned_of : ℕ → ℕ → ℕ → Aligned
aligned_of w up down =
    cond (nat_le down (up + w / 2 ^ 55))
    (record { exponent = up + w / 2 ^ 55 - down; quarters = sticky w (2 * 2 ^ (w / 2 ^ 55)) })
    (record { exponent = 0; quarters = sticky w (2 * 2 ^ (down - up)) })

-- a sticky quotient w times 2^(up - down), rounded once
unfoldable pub rounded_quotient : ℕ → Bool → ℕ → ℕ → ℕ → Binary64Result
rounded_quotient direction s w up down =
    let at = aligned_of w up down in
    rounded_result (mode_of direction s) s at.exponent (at.quarters / 4) (at.quarters % 4)

-- in a divider with the estimate E
module _ (E : Estimate) where
  -- the quotient of two significands through the table t, 28 digits, with its sticky bit
  unfoldable pub ratio_through : List ℕ → ℕ → ℕ → ℕ
  ratio_through t a b = let r = result_of E t a b 28 in 2 * r.quotient + min 1 r.remainder

  -- the quotient of two significands with their exponents
  abbrev pub scaled_through : List ℕ → ℕ → Bool → Scaled → Scaled → Binary64Result
  scaled_through t direction s x y = rounded_quotient direction s (ratio_through t x.sig y.sig) (x.exp + 1021) y.exp

  -- a / b, its significands' quotient by the digits of the table t
  -- § 9.10 The quotient is that of a run of 28 digits through the table.
  abbrev pub binary64_through : List ℕ → ℕ → ℕ → ℕ → Binary64Result
  binary64_through t direction a b = or_rounded (scaled_through t direction (sign_of a b) (significand_of a) (significand_of b)) (by_class a b)

-- r is a significand to divide for the pattern p: a finite number's own, unless it is a zero
pub record SignificandFor (p r : ℕ) : Type 0 where
  pub low : 2 ^ 60 ≤ r
  pub high : r < 2 ^ 61
  pub is : FiniteNonzero p → r ≡ (significand_of p).sig

-- w is the ratio of such significands for the patterns a and b, divided through the table t
pub record RatioFor (t : List ℕ) (a b w : ℕ) : Type 0 where
  pub is : FiniteNonzero a → FiniteNonzero b → w ≡ ratio_through EightBits t (significand_of a).sig (significand_of b).sig

-- the quotient of the patterns x, where w is the ratio of their significands
abbrev pub ratio_rounded : ℕ → Patterns → ℕ → Binary64Result
ratio_rounded direction x w =
    or_rounded (rounded_quotient direction (sign_of x.dividend x.divisor) w ((significand_of x.dividend).exp + 1021) (significand_of x.divisor).exp) (by_class x.dividend x.divisor)
