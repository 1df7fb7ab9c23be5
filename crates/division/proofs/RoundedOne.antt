-- Of two answers that `Rounded` accepts for one exact magnitude, one is the other, on every scale.
use Rattle.laws.proofs.{Basics.{◌≡◌, sym, ap, ap₂, ◌∙◌, Bool, ⊎_elim, ℕ, suc, ◌+◌, ◌-◌, ◌*◌, ◌^◌, ◌≤◌, ◌<◌, arith, ne_eqb, le-leb, lt-leb, leb-true, leb-false}, Comparisons.{not_below}}
use Rattle.laws.proofs.Division.{le_or_lt}
use Rattle.std.proofs.Common.{eq-zero-or-pos, le_antisymm, mul-le-mul_left, mul-lt-mul_of_pos_right, pow-suc, pow_pos, pow_mono}
use native.Mathlib.Nat.{eq_of_mul-eq-mul_right}
use Rattle.division.proofs.{Binary64Names.{negative, field, fraction, magnitude, flags_of_result, Rounded, Mode, Binary64Result}, Nearest.{rounds_one}, Scales.{Increasing, exponent_one}}

-- a magnitude lies in the span that its exponent field gives
magnitude_above : (p : ℕ) → 0 < field p → 2 ^ 52 * 2 ^ (field p - 1) ≤ magnitude p
magnitude_above p h = rw (ne_eqb (field p) 0 (omega arith)) (omega arith)

pub magnitude_under : (p : ℕ) → magnitude p < 2 ^ 52 * 2 ^ field p
magnitude_under p = ⊎_elim
    (λ (z : field p ≡ 0). rw z (omega arith))
    (λ (g : 0 < field p).
    let e : field p ≡ suc (field p - 1) = omega arith in
    let d : 2 ^ field p ≡ 2 ^ (field p - 1) * 2 = ap (λ (n : ℕ). 2 ^ n) e ∙ pow-suc 2 (field p - 1) in
    rw (ne_eqb (field p) 0 (omega arith)) (omega (arith, d, mul-lt-mul_of_pos_right {m = 2 ^ 52 + fraction p} {n = 2 ^ 53} {k = 2 ^ (field p - 1)} (omega arith) (pow_pos (field p - 1)))))
    (eq-zero-or-pos (field p))

-- so a greater exponent field is a greater magnitude
field_order : (p q : ℕ) → field p < field q → magnitude p < magnitude q
field_order p q h =
    omega (arith, magnitude_under p, magnitude_above q (omega arith), mul-le-mul_left (2 ^ 52) (pow_mono {i = field p} {j = field q - 1} (omega arith)))

-- a magnitude has one exponent field and one fraction
field_one : (p q : ℕ) → magnitude p ≡ magnitude q → field p ≡ field q
field_one p q e = le_antisymm (not_below (λ g. omega (arith, field_order q p g))) (not_below (λ g. omega (arith, field_order p q g)))

fraction_one : (p q : ℕ) → magnitude p ≡ magnitude q → field p ≡ field q → fraction p ≡ fraction q
fraction_one p q e f = ⊎_elim
    (λ (z : field q ≡ 0). rw (f, z) at e)
    (λ (g : 0 < field q).
    let d = rw (f, ne_eqb (field q) 0 (omega arith)) at e in
    omega (arith, eq_of_mul-eq-mul_right (2 ^ (field q - 1)) (pow_pos (field q - 1)) (2 ^ 52 + fraction p) (2 ^ 52 + fraction q) d))
    (eq-zero-or-pos (field q))

-- a 64-bit pattern is determined by its magnitude and its sign
pub pattern_one : (p q : ℕ) → p < 2 ^ 64 → q < 2 ^ 64 → magnitude p ≡ magnitude q → negative p ≡ negative q → p ≡ q
pattern_one p q hp hq e s =
    let f = field_one p q e in
    let r = fraction_one p q e f in
    ⊎_elim
    (λ (g : 2 ^ 63 ≤ p). omega (arith, leb-true (2 ^ 63) q (sym s ∙ le-leb (2 ^ 63) p g)))
    (λ (g : p < 2 ^ 63). omega (arith, leb-false (2 ^ 63) q (sym s ∙ lt-leb (2 ^ 63) p g)))
    (le_or_lt (2 ^ 63) p)

module _ (mode : Mode) (s : Bool) (scale : ℕ → ℕ → ℕ) (inc : Increasing scale) (m : ℕ) {x y : Binary64Result} (u : Rounded mode s scale m x) (v : Rounded mode s scale m y) where
  exponents : u.e ≡ v.e
  exponents = exponent_one scale inc m u.e v.e u.exponent v.exponent

  multiples : u.K ≡ v.K
  multiples = rounds_one (scale v.e) (inc.up v.e) mode m u.K v.K (rw exponents at u.rounded) v.rounded

  -- § 12.3 Rounding has one answer, for quotient and root together.
  pub rounded_one : x ≡ y
  rounded_one = ⊎_elim
      (λ (h : 2 ^ 2098 ≤ u.K * 2 ^ u.e). u.over h ∙ sym (v.over (rw (multiples, exponents) at h)))
      (λ (h : u.K * 2 ^ u.e < 2 ^ 2098).
      let k = rw (multiples, exponents) at h in
      let p = pattern_one x.pattern y.pattern (u.word h) (v.word k) (u.value h ∙ ap₂ (λ (m n : ℕ). m * 2 ^ n) multiples exponents ∙ sym (v.value k)) (u.sign h ∙ sym (v.sign k)) in
      let f = u.flags h ∙ ap₂ (flags_of_result scale m) exponents multiples ∙ sym (v.flags k) in
      λ i. record { pattern = p i; flags = f i })
      (le_or_lt (2 ^ 2098) (u.K * 2 ^ u.e))
