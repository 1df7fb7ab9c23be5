-- The logic's rounding of a fraction of two magnitudes, written as a pattern, is the specification's in direction 0.
use Rattle.laws.proofs.Basics.{◌≡◌, refl, sym, ap, ap₂, subst, ◌∙◌, Bool, not, ⊎_elim, ℕ, ◌+◌, ◌-◌, ◌*◌, ◌/◌, ◌%◌, ◌^◌, ◌≤◌, ◌<◌, compare, Ordering, Ordering·lt, Ordering·eq, Ordering·gt, arith, T, is_le, compare_is_eq, eqb, leb-true, leb-false, eqb-true, eqb-false, eq-eqb, ne_eqb, lt-ltb, le-ltb}
use Rattle.laws.proofs.{Division.{le_or_lt}, Tests.{cond_in}}
use native.Mathlib.Nat.{div-add-mod', mod-lt, mul-div_cancel, mul-pos, lt_of_lt_of_le, le-div_iff_mul-le, div-lt_iff_lt-mul}
use lib.{Pow.{pow_pos, pow_mono, pow-add}, Ieee.{Float, binary64, size, units, round, to_bits, is_nan}, Ieee.Bits.{to_bits-of_bits}, Ieee.Digits.{size-lt, size_reaches}, Ieee.Fits.{down_pos, round_is}}
use lib.Ieee.Exact.{units_val}
use lib.Ieee as Logic
use Rattle.division.specs.{declared.format.Binary64Result.{Binary64Result}, Format.{sign_bit, infinity}, declared.rounding.Mode.TheVariants.{Nearest}, Rounding.{ToNearest}}
use Rattle.division.{specs.Rounded.{IsExponent, Rounded}, specs.Ieee.{quotient_scale, quotient_place, RoundedQuotient}, specs.computed.Rounding.{nearest, tail_at}, proofs.Nearest.{rounds_one, rounds}}
use Rattle.division.proofs.{Scales.{exponent_one}, Quotient.{quotient_increasing}}
use Rattle.ieee.proofs.LanguageReading.{Number, number, finite}

-- ---- the same exponent, and the same rounding

-- the logic drops digits until 53 are left; n stands for the dividend's units, b for the divisor, and p for the power of the digits dropped
reached_of : (b n p : ℕ) → 2 ^ 52 * p * b ≤ n → 2 ^ 53 * (b * p) ≤ 2 * n
reached_of b n p h = omega arith

beyond_of : (b n p : ℕ) → n < 2 ^ 53 * p * b → 2 * n < 2 ^ 54 * (b * p)
beyond_of b n p h = omega arith

dropped_meets : (a b : ℕ) → 0 < b → IsExponent (quotient_scale b) (quotient_place a) (size (a * 2 ^ 1074 / b) - 53)
dropped_meets a b p =
    let w = a * 2 ^ 1074 / b in
    let k = size w - 53 in
    let l = lt_of_lt_of_le (size-lt w) (pow_mono {i = size w} {j = 53 + k} (omega arith)) in
    record {
      reached = λ g. reached_of b (a * 2 ^ 1074) (2 ^ k) (rw (pow-add 2 52 k) at ((le-div_iff_mul-le {k = b} {x = 2 ^ (52 + k)} {y = a * 2 ^ 1074} p).0 (size_reaches w (52 + k) (omega arith))));
      beyond = beyond_of b (a * 2 ^ 1074) (2 ^ k) (rw (pow-add 2 53 k) at ((div-lt_iff_lt-mul {k = b} {x = a * 2 ^ 1074} {y = 2 ^ (53 + k)} p).0 l));
    }

-- n / u with its remainder: whole units, and the tail beyond them
module _ (n u : ℕ) (p : 0 < u) where
  units_under : 2 * (n / u) * u ≤ 2 * n
  units_under = omega (arith, div-add-mod' n u)

  units_over : 2 * n < (2 * (n / u) + 2) * u
  units_over = omega (arith, div-add-mod' n u, mod-lt n p)

  same_nearest : Logic.nearest (n / u) (compare (n % u * 2) u) ≡ nearest (n / u) (tail_at (λ j. j * u) (2 * n) (n / u))
  same_nearest = go (compare (n % u * 2) u) refl
    where
      go : (o : Ordering) → compare (n % u * 2) u ≡ o → Logic.nearest (n / u) o ≡ nearest (n / u) (tail_at (λ j. j * u) (2 * n) (n / u))
      go Ordering·lt e =
          rw (lt-ltb (2 * n) ((2 * (n / u) + 1) * u) (omega (arith, div-add-mod' n u, leb-true (n % u * 2) u (ap is_le e), eqb-false (n % u * 2) u (ap compare_is_eq e))))
          (cond_in (λ (z : ℕ). n / u ≡ nearest (n / u) z) (eqb (2 * n) (2 * (n / u) * u)) refl refl)
      go Ordering·eq e =
          let d = div-add-mod' n u in
          let l = eqb-true (n % u * 2) u (ap compare_is_eq e) in
          rw (ne_eqb (2 * n) (2 * (n / u) * u) (omega arith), le-ltb (2 * n) ((2 * (n / u) + 1) * u) (omega arith), eq-eqb (2 * n) ((2 * (n / u) + 1) * u) (omega arith))
      go Ordering·gt e =
          let d = div-add-mod' n u in
          let l = leb-false (n % u * 2) u (ap is_le e) in
          rw (ne_eqb (2 * n) (2 * (n / u) * u) (omega arith), le-ltb (2 * n) ((2 * (n / u) + 1) * u) (omega arith), ne_eqb (2 * n) ((2 * (n / u) + 1) * u) (omega arith)) (omega arith)

-- ---- the same pattern

-- what the logic writes for n units of 2^-1074
abbrev written : ℕ → ℕ
written n = (size n - 53) * 2 ^ 52 + n / 2 ^ (size n - 53)

number_bits : {s : Bool} {n : ℕ} {x : Float} → Number s n x → to_bits binary64 x ≡ sign_bit s + written n
unfolding to_bits
number_bits {n = n} p = rw (p.is, p.value, mul-div_cancel n (down_pos p.e)) (omega arith)

over_bits : (s : Bool) (e K : ℕ) → 2 ^ 2098 ≤ K * 2 ^ e → to_bits binary64 (units binary64 s K e) ≡ sign_bit s + infinity
unfolding units to_bits
over_bits s e K g = rw (le-ltb _ _ g)

not_nan : {s : Bool} {n : ℕ} {x : Float} → Number s n x → T (not (is_nan x))
unfolding is_nan
not_nan p = rw p.is tt

-- the pattern of K units of 2^(e - 1074) is what the logic writes for them
rounded_bits : {s : Bool} {scale : ℕ → ℕ → ℕ} {m : ℕ} {x : Binary64Result} (u : Rounded Nearest s scale m x) → x.pattern ≡ to_bits binary64 (units binary64 s u.K u.e)
rounded_bits {s} {x = x} u = ⊎_elim
    (λ (g : 2 ^ 2098 ≤ u.K * 2 ^ u.e). ap (λ (y : Binary64Result). y.pattern) (u.over g) ∙ sym (over_bits s u.e u.K g))
    (λ (g : u.K * 2 ^ u.e < 2 ^ 2098).
    let n = finite x.pattern (u.finite g) in
    sym (to_bits-of_bits binary64 x.pattern (u.word g) (not_nan n)) ∙ number_bits n
    ∙ ap₂ (λ (t : Bool) (n : ℕ). sign_bit t + written n) (u.sign g) (u.value g)
    ∙ sym (number_bits (number (units binary64 s u.K u.e) s (u.K * 2 ^ u.e) (units_val binary64 s u.K u.e g))))
    (le_or_lt (2 ^ 2098) (u.K * 2 ^ u.e))

pub quotient_bits : (s : Bool) (a b : ℕ) {x : Binary64Result} → 0 < b → RoundedQuotient 0 s a b x → x.pattern ≡ to_bits binary64 (round binary64 s a b)
quotient_bits s a b {x} p u =
    let n = a * 2 ^ 1074 in
    let e = size (n / b) - 53 in
    let v = b * 2 ^ e in
    let k = n / v in
    let g : 0 < v = mul-pos p (pow_pos e) in
    let inc = quotient_increasing b p in
    let is = dropped_meets a b p in
    let low = units_under n v g in
    let high = units_over n v g in
    let E = exponent_one (quotient_scale b) inc (quotient_place a) u.e e u.exponent is in
    let K = rounds_one (quotient_scale b e) (inc.up e) Nearest (quotient_place a) u.K _ (subst (λ (i : ℕ). ToNearest (quotient_scale b i) (quotient_place a) u.K) E u.rounded) (rounds (quotient_scale b e) (inc.up e) (quotient_place a) k low high Nearest) in
    rounded_bits u ∙ ap₂ (λ (K i : ℕ). to_bits binary64 (units binary64 s K i)) K E ∙ sym (ap (to_bits binary64) (round_is binary64 s a b ∙ ap (λ (K : ℕ). units binary64 s K e) (same_nearest n v g)))
