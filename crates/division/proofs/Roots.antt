-- Roots: the digits give the definitions' answers, and the whole root is what it should be.
use Rattle.laws.proofs.{Basics.{◌≡◌, sym, ap, ◌∙◌, false, ℕ, min, zero-le, ◌+◌, ◌-◌, ◌*◌, ◌/◌, ◌%◌, ◌^◌, ◌≤◌, ◌<◌, arith, lit≤}, Comparisons.{not_below, not_most}, Powers.{four_pow, by_digits}}
use Rattle.std.proofs.Common.{lt_of_lt_of_le, lt_of_le_of_lt, le_of_lt, mul-le-mul_right, mul-le-mul, mul-le-mul_left, mul-lt-mul_of_pos_right, pow-suc, zero-mul, pow_pos, pow_mono, pow-add}
use Rattle.selection.specs.Answer.{refusal}
use Rattle.division.proofs.Binary64Names.{mode_of, rounded_result, root_scale, root_place, RoundedRoot, Scaled, DigitsTaken, whole_root, finite_root}
use Rattle.division.proofs.{Scales.{Increasing, greatest_meets, greatest_one}, Rounded.{finite_rounded_law, finite_is}, Sticky.{sticky_bit}, Quotient.{ScaledTo}}
use Rattle.division.specs.{computed.RootCalls.{root_values}, declared.root.Root.{Root}, declared.root.RootState.{RootState}}

-- ---- whole numbers

pub squares : (i j : ℕ) → i < j → i * i < j * j
squares i j h = lt_of_le_of_lt (mul-le-mul_left i (le_of_lt h)) (mul-lt-mul_of_pos_right h (lt_of_le_of_lt zero-le h))

-- § 12.1 The whole root s has s·s ≤ a < (s + 1)·(s + 1); no other fits.
pub whole_root_law : (a : ℕ) → a < 2 ^ 60 → (whole_root a * whole_root a ≤ a) × (a < (whole_root a + 1) * (whole_root a + 1))
unfolding whole_root
whole_root_law a h = greatest_meets (λ s. s * s) squares a 30 0 (omega arith) h

-- there is one
-- § 12.1 The whole root s has s·s ≤ a < (s + 1)·(s + 1); no other fits.
pub whole_root_one : (a s : ℕ) → a < 2 ^ 60 → s * s ≤ a → a < (s + 1) * (s + 1) → s ≡ whole_root a
whole_root_one a s h u v = let w = whole_root_law a h in greatest_one (λ s. s * s) squares a s (whole_root a) u v w.0 w.1

-- the digits of a * 2^60 down to the weight 2^30
digits_whole : (a q r : ℕ) → q * 2 ^ 31 * (q * 2 ^ 31) + 4 * (2 ^ 30 * r) ≡ 4 * (2 ^ 60 * a) → r < q * 2 ^ 31 + 2 ^ 30 → (q * q ≤ a) × (a < (q + 1) * (q + 1)) × (r / 2 ^ 30 ≡ a - q * q)
digits_whole a q r e l = (omega arith, omega arith, omega arith)

pub whole_is : (a : ℕ) (x : RootState) → a < 2 ^ 60 → DigitsTaken (2 ^ 60 * a) 30 x → ◌≡◌ {A = Root} (record { refusal = refusal 0 0; root = x.twice / 2 ^ 31; remainder = x.rest / 2 ^ 30 }) (root_values a (whole_root a))
whole_is a x h d =
    let q = d.digits in
    let u = d.weight in
    let p : x.twice ≡ q * 2 ^ 31 = d.placed ∙ ap (λ (z : ℕ). q * (2 * z)) u in
    let w = digits_whole a q x.rest (rw (u, p) at d.value) (rw (u, p) at d.left) in
    let s : q ≡ whole_root a = whole_root_one a q h w.0 w.1 in
    let z : x.twice / 2 ^ 31 ≡ q = omega arith in
    rw (z, w.2, s)

-- ---- binary64

pub four_pos : (e : ℕ) → 0 < 4 ^ e
four_pos e = rw (four_pow e) (pow_pos (e + e))

-- the scale of a root
pub root_increasing : Increasing root_scale
root_increasing = record {
  none = λ e. zero-mul (4 ^ e);
  up = λ e i j g. mul-lt-mul_of_pos_right (squares i j g) (four_pos e);
  double = λ e j. rw (pow-suc 4 e) (omega arith);
}

-- the greatest exponent reaches beyond every root; x and y stand for 2 ^ 2098 and 2 ^ 1074
reach : (a x y : ℕ) → a < x → 0 < y → 4 * (a * y) < 4 * (x * y)
reach a x y l h = omega (arith, mul-lt-mul_of_pos_right l h)

-- the root that the definition gives is rounded once
pub rounded_root : (direction a : ℕ) → a < 2 ^ 2098 → RoundedRoot direction a (finite_root direction a)
rounded_root direction a l =
    finite_rounded_law root_scale root_increasing (root_place a) direction false
    (lt_of_lt_of_le (reach a (2 ^ 2098) (2 ^ 1074) l (pow_pos 1074)) (lit≤ {m = 4 * (2 ^ 2098 * 2 ^ 1074)} {n = 2 ^ 54 * 2 ^ 54 * 4 ^ 3119} tt))

-- the exponent and the radicand of the code
abbrev pub exponent_of : Scaled → ℕ
exponent_of x = (x.exp + 970) / 2

abbrev pub radicand_of : Scaled → ℕ
radicand_of x = x.sig * 2 ^ (x.exp % 2)

-- y stands for 2 ^ 970
places : (a s p e y o : ℕ) → s * p ≡ a * 2 ^ 60 → o * e ≡ p * y → 4 * (a * (2 ^ 104 * y)) ≡ 2 ^ 46 * (s * o) * e
places a s p e y o h k = omega (arith, ap (λ (z : ℕ). z * y * 2 ^ 46) h, ap (λ (z : ℕ). s * z * 2 ^ 46) k)

module _ (a : ℕ) (x : Scaled) (sx : ScaledTo a x) where
  pub place_is : root_place a ≡ 2 ^ 46 * radicand_of x * 4 ^ exponent_of x
  place_is =
      let o : (x.exp + 970) % 2 ≡ x.exp % 2 = omega arith in
      let k : 2 ^ (x.exp % 2) * 4 ^ exponent_of x ≡ 2 ^ x.exp * 2 ^ 970 = ap (λ (n : ℕ). 2 ^ n * 4 ^ exponent_of x) (sym o) ∙ by_digits (x.exp + 970) ∙ pow-add 2 x.exp 970 in
      places a x.sig (2 ^ x.exp) (4 ^ exponent_of x) (2 ^ 970) (2 ^ (x.exp % 2)) sx.same k

  pub exponent_span : (485 ≤ exponent_of x) × (exponent_of x ≤ 1533)
  exponent_span = (omega arith, omega (arith, sx.bits.small))

  -- the radicand has 61 or 62 bits
  pub radicand_span : (2 ^ 60 ≤ radicand_of x) × (radicand_of x < 2 ^ 62)
  radicand_span = omega (arith, sx.bits, mul-le-mul_left x.sig (pow_pos (x.exp % 2)), mul-le-mul_left x.sig (pow_mono {i = x.exp % 2} {j = 1} (omega arith)))

  -- h is the whole root of the radicand with 46 bits after it, and r what is left
  module _ (h r : ℕ) (sum : h * h + r ≡ 2 ^ 46 * radicand_of x) (left : r ≤ 2 * h) where
    pub half_span : (2 ^ 53 ≤ h) × (h < 2 ^ 54)
    half_span = (
      not_below (λ g. omega (arith, mul-le-mul {n₁ = h + 1} {m₁ = h + 1} {n₂ = 2 ^ 53} {m₂ = 2 ^ 53} (omega arith) (omega arith), radicand_span.0)),
      not_most (λ (g : 2 ^ 54 ≤ h). omega (arith, mul-le-mul {n₁ = 2 ^ 54} {m₁ = 2 ^ 54} {n₂ = h} {m₂ = h} g g, radicand_span.1)),
    )

    -- h with a sticky bit below gives the definition's answer
    pub root_is : (direction v : ℕ) → v ≡ 2 * h + min 1 r → finite_root direction a ≡ rounded_result (mode_of direction false) false (exponent_of x) (v / 4) (v % 4)
    root_is direction v e =
        let c = four_pos (exponent_of x) in
        let low : h * h ≤ 2 ^ 46 * radicand_of x = omega arith in
        let high : 2 ^ 46 * radicand_of x < (h + 1) * (h + 1) = omega arith in
        finite_is root_scale root_increasing (root_place a) direction false (exponent_of x) h v (omega (arith, exponent_span.1)) (rw place_is (mul-le-mul_right (4 ^ exponent_of x) low))
        (rw place_is (mul-lt-mul_of_pos_right high c)) (omega (arith, half_span.0)) half_span.1 (rw (place_is, ← sum) (omega (arith, sticky_bit r (4 ^ exponent_of x) c)))
