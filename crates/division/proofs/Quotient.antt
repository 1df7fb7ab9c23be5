-- The quotient of two magnitudes: the exponent and the rounded part that the definition names are those of any sticky quotient in range.
use Rattle.laws.proofs.Basics.{◌≡◌, refl, ap, ◌∙◌, Bool, ℕ, min, ◌+◌, ◌-◌, ◌*◌, ◌/◌, ◌%◌, ◌^◌, ◌≤◌, ◌<◌, arith}
use Rattle.std.proofs.Common.{mul-le-mul_right, mod-lt, mul-lt-mul_of_pos_right, mul-pos, pow-suc, div-add-mod', zero-mul, pow_pos, pow-add}
use Rattle.division.proofs.Binary64Names.{mode_of, rounded_result, finite_quotient, Normalized, quotient_scale, quotient_place, RoundedQuotient, Scaled, sticky, Aligned}
use Rattle.division.proofs.{Sticky.{sticky_cross, sticky_sticky}, Scales.{Increasing}, Rounded.{finite_rounded_law, finite_is}}

-- x is normalized, and sig * 2^exp is m * 2^60
pub record ScaledTo (m : ℕ) (x : Scaled) : Type 0 where
  pub bits : Normalized x
  pub same : x.sig * 2 ^ x.exp ≡ m * 2 ^ 60

-- at the exponent e, w * 2^(up - down) is cut down by e + down - up bits
pub record AlignedTo (w up down : ℕ) (x : Aligned) : Type 0 where
  pub reach : up ≤ x.exponent + down
  pub value : x.quarters ≡ sticky w (2 * 2 ^ (x.exponent + down - up))
  pub low : 2 ^ 54 * min 1 x.exponent ≤ x.quarters
  pub high : x.quarters < 2 ^ 55
  pub small : x.exponent ≤ 3119

-- the scale of a quotient
pub quotient_increasing : (b : ℕ) → 0 < b → Increasing (quotient_scale b)
quotient_increasing b p = record {
  none = λ e. zero-mul (b * 2 ^ e);
  up = λ e i j g. mul-lt-mul_of_pos_right g (mul-pos p (pow_pos e));
  double = λ e j. rw (pow-suc 2 e) (omega arith);
}

-- the greatest exponent reaches beyond every quotient; x, y and z stand for 2 ^ 2098, 2 ^ 1074 and 2 ^ 3119
reach : (a b x y z : ℕ) → a < x → 0 < y → x * y ≡ 2 ^ 53 * z → 0 < b → 2 * (a * y) < 2 ^ 54 * (b * z)
reach a b x y z l h e p = omega (arith, mul-lt-mul_of_pos_right l h, mul-le-mul_right z p)

-- the quotient of two magnitudes that the definition gives is rounded once; finite magnitudes are below 2^1024, which is 2^2098 units
-- § 9.6 The exact magnitude is rounded once.
pub rounded_quotient : (direction : ℕ) (s : Bool) (a b : ℕ) → a < 2 ^ 2098 → 0 < b → RoundedQuotient direction s a b (finite_quotient direction s a b)
rounded_quotient direction s a b l p =
    finite_rounded_law (quotient_scale b) (quotient_increasing b p) (quotient_place a) direction s (reach a b (2 ^ 2098) (2 ^ 1074) (2 ^ 3119) l (pow_pos 1074) refl p)

-- a sticky quotient's whole part, as a place on the scale of its divisor
whole_part : (n u e v : ℕ) → 0 < u → v ≡ sticky n u → 2 ^ 54 * min 1 e ≤ v → v < 2 ^ 55
    → (n / u * u ≤ n) × (n < (n / u + 1) * u) × (2 ^ 53 * min 1 e ≤ n / u) × (n / u < 2 ^ 54) × (v ≡ 2 * (n / u) + min 1 (n - n / u * u))
whole_part n u e v p q low high = omega (arith, div-add-mod' n u, mod-lt n p)

-- any e and v in range, v the sticky quotient at half units of 2^(e - 1074), give the definition's answer
pub quotient_is : (direction : ℕ) (s : Bool) (a b e v : ℕ) → 0 < b → e ≤ 3119 → v ≡ sticky (quotient_place a) (b * 2 ^ e) → 2 ^ 54 * min 1 e ≤ v → v < 2 ^ 55
    → finite_quotient direction s a b ≡ rounded_result (mode_of direction s) s e (v / 4) (v % 4)
quotient_is direction s a b e v p l q low high =
    let n = quotient_place a in
    let u = b * 2 ^ e in
    let w = whole_part n u e v (mul-pos p (pow_pos e)) q low high in
    finite_is (quotient_scale b) (quotient_increasing b p) n direction s e (n / u) v l w.0 w.1 w.2 w.3 w.4

-- equal ratios, through scaled significands: x and y stand for the powers of their exponents, h for 2 ^ 1021
cross : (a b m n x y h p t : ℕ) → m * x ≡ a * 2 ^ 60 → n * y ≡ b * 2 ^ 60 → p * y ≡ x * (h * t) → m * 2 ^ 54 * (b * p) ≡ 2 * (a * (h * 2 ^ 53)) * (n * t)
cross a b m n x y h p t ea eb ep =
    omega (arith, ap (λ (z : ℕ). z * (h * n * t)) ea, ap (λ (z : ℕ). z * (m * p)) eb, ap (λ (z : ℕ). z * (m * n)) ep)

-- the sticky quotient of the significands, cut down by t bits, is that of the magnitudes at half units of 2^(e - 1074)
pub meets : (a b e t : ℕ) (x y : Scaled) → ScaledTo a x → ScaledTo b y → 0 < b → e + y.exp ≡ x.exp + (1021 + t)
    → sticky (sticky (x.sig * 2 ^ 54) y.sig) (2 * 2 ^ t) ≡ sticky (2 * (a * 2 ^ 1074)) (b * 2 ^ e)
meets a b e t x y sx sy p eq =
    let n : 0 < y.sig = omega (arith, sy.bits.low) in
    let powers : 2 ^ e * 2 ^ y.exp ≡ 2 ^ x.exp * (2 ^ 1021 * 2 ^ t) =
    rw (← pow-add 2 1021 t, ← pow-add 2 x.exp (1021 + t), ← pow-add 2 e y.exp, eq) in
    sticky_sticky (x.sig * 2 ^ 54) y.sig (2 ^ t) n (pow_pos t)
    ∙ sticky_cross (x.sig * 2 ^ 54) (y.sig * 2 ^ t) (2 * (a * 2 ^ 1074)) (b * 2 ^ e) (mul-pos n (pow_pos t)) (mul-pos p (pow_pos e))
    (cross a b x.sig y.sig (2 ^ x.exp) (2 ^ y.exp) (2 ^ 1021) (2 ^ e) (2 ^ t) sx.same sy.same powers)

-- the steps of the code, together
pub aligned_is : (direction : ℕ) (s : Bool) (a b w : ℕ) (x y : Scaled) (at : Aligned) → 0 < b → ScaledTo a x → ScaledTo b y → w ≡ sticky (x.sig * 2 ^ 54) y.sig
    → AlignedTo w (x.exp + 1021) y.exp at → finite_quotient direction s a b ≡ rounded_result (mode_of direction s) s at.exponent (at.quarters / 4) (at.quarters % 4)
aligned_is direction s a b w x y at p sx sy ew sa =
    let t = at.exponent + y.exp - (x.exp + 1021) in
    let eq : at.exponent + y.exp ≡ x.exp + (1021 + t) = omega (arith, sa.reach) in
    let v : at.quarters ≡ sticky (2 * (a * 2 ^ 1074)) (b * 2 ^ at.exponent) = sa.value ∙ ap (λ (n : ℕ). sticky n (2 * 2 ^ t)) ew ∙ meets a b at.exponent t x y sx sy p eq in
    quotient_is direction s a b at.exponent at.quarters p (omega (arith, sa.small)) v sa.low sa.high
