-- The binary64 root means what the specification says, for every pattern, and nothing else means it; a root is never subnormal, never overflows and never ties.
use Rattle.laws.proofs.{Basics.{◌≡◌, refl, sym, ap, subst, ◌∙◌, Bool, true, false, inl, inr, ⊎_elim, ℕ, min, ◌+◌, ◌-◌, ◌*◌, ◌/◌, ◌%◌, ◌^◌, ◌≤◌, ◌<◌, arith, eqb, lt-ltb, ne_eqb}, Tests.{cond_in}}
use Rattle.std.proofs.Common.{le_trans, le_of_eq, mul-le-mul_right, mul-lt-mul_of_pos_right}
use native.Mathlib.Nat.{eq_of_mul-eq-mul_right}
use Rattle.division.proofs.Binary64Names.{negative, field, magnitude, class_of, FiniteNonzero, mode_of, IsExponent, greatest, rounded_to, rounded_result, or_rounded, significand_of, root_scale, root_place, RoundedRoot, IeeeRoot, RootPlain, Class, Zero, Subnormal, Normal, Infinite, Nan, Mode, Binary64Result, finite_root, root_of_class, root_of}
use Rattle.division.proofs.{RoundedResults.{rounded_near, result_fits}, Scales.{exponent_one, greatest_meets}, RoundedOne.{rounded_one}, Classes.{nonzero_operand, by_kind}}
use Rattle.division.proofs.{IeeeLaws.{magnitude_below}, Quotient.{ScaledTo}, Binary64Through.{significand_right}}
use Rattle.division.proofs.Roots.{squares, four_pos, root_increasing, rounded_root, exponent_of, radicand_of, place_is, radicand_span, exponent_span, half_span, root_is}

-- the answer of a class
answer_of : (direction p : ℕ) (k : Class) {x : Binary64Result} → class_of p ≡ k → or_rounded (finite_root direction (magnitude p)) (root_of_class p k) ≡ x → root_of direction p ≡ x
answer_of direction p k e f = ap (λ (k : Class). or_rounded (finite_root direction (magnitude p)) (root_of_class p k)) e ∙ f

-- § 12.2 The binary64 root is rounded once, and special operands have their answers.
pub ieee_root : (direction p : ℕ) → IeeeRoot direction p (root_of direction p)
ieee_root direction p = record {
  nan = λ e. answer_of direction p Nan e refl;
  below_zero = λ s. ⊎_elim
      (⊎_elim (λ e. answer_of direction p Subnormal e (rw s)) (λ e. answer_of direction p Normal e (rw s)))
      (λ e. answer_of direction p Infinite e (rw s));
  itself = ⊎_elim
      (λ e. answer_of direction p Zero e refl)
      (λ e. answer_of direction p Infinite e.1 (rw e.0));
  root = λ s h.
      subst (RoundedRoot direction (magnitude p)) (sym (⊎_elim (λ e. answer_of direction p Subnormal e (rw s)) (λ e. answer_of direction p Normal e (rw s)) h))
      (rounded_root direction (magnitude p) (magnitude_below p (nonzero_operand p h).1));
}

-- one answer for each pattern
-- § 12.2 No other root fits.
pub ieee_root_one : (direction p : ℕ) {x y : Binary64Result} → IeeeRoot direction p x → IeeeRoot direction p y → x ≡ y
ieee_root_one direction p {x} {y} u v = go (negative p) refl
  where
    go : (s : Bool) → negative p ≡ s → x ≡ y
    go true e = by_kind p (λ f. u.itself (inl f) ∙ sym (v.itself (inl f))) (λ h. u.below_zero e (inl h) ∙ sym (v.below_zero e (inl h))) (λ f. u.below_zero e (inr f) ∙ sym (v.below_zero e (inr f))) (λ f. u.nan f ∙ sym (v.nan f))
    go false e = by_kind p
        (λ f. u.itself (inl f) ∙ sym (v.itself (inl f)))
        (λ h. rounded_one _ false root_scale root_increasing (root_place (magnitude p)) (u.root e h) (v.root e h))
        (λ f. u.itself (inr (e, f)) ∙ sym (v.itself (inr (e, f))))
        (λ f. u.nan f ∙ sym (v.nan f))

-- ---- what never happens to the root of a number above 0

-- what a normal exponent and 53-bit units give
normal_result : (mode : Mode) (e k tail : ℕ) → 485 ≤ e → e ≤ 1533 → 2 ^ 52 ≤ k → k < 2 ^ 53
    → (class_of (rounded_result mode false e k tail).pattern ≡ Normal) × ((rounded_result mode false e k tail).flags ≤ 1)
normal_result mode e k tail l h a b =
    let n = rounded_near mode k tail in
    let p = 0 + (e * 2 ^ 52 + rounded_to mode k tail) in
    rw (result_fits mode false e k tail b (omega arith) (omega arith)) (
      rw (ne_eqb (field p) 0 (omega arith), lt-ltb (field p) 2047 (omega arith)),
      rw (ne_eqb e 0 (omega arith)) (cond_in (λ (z : ℕ). z ≤ 1) (eqb tail 0) (omega arith) (omega arith)),
    )

-- an odd number's square is no multiple of 2^46
odd_square : (j m c : ℕ) → 0 < c → (2 * j + 1) * (2 * j + 1) * c ≡ 2 ^ 46 * m * c → ⊥
odd_square j m c p e = omega (arith, eq_of_mul-eq-mul_right c p ((2 * j + 1) * (2 * j + 1)) (2 ^ 46 * m) e)

module _ (p : ℕ) (h : FiniteNonzero p) where
  scaled : ScaledTo (magnitude p) (significand_of p)
  scaled = significand_right p h

  -- the root's exponent, which is neither low nor high
  root_exponent : IsExponent root_scale (root_place (magnitude p)) (exponent_of (significand_of p))
  root_exponent =
      let x = significand_of p in
      let s = radicand_span (magnitude p) x scaled in
      let n : 2 ^ 53 * 2 ^ 53 ≤ 2 ^ 46 * radicand_of x = omega (arith, s.0) in
      let m : 2 ^ 46 * radicand_of x < 2 ^ 54 * 2 ^ 54 = omega (arith, s.1) in
      rw (place_is (magnitude p) x scaled) (record { reached = λ p. mul-le-mul_right (4 ^ exponent_of x) n; beyond = mul-lt-mul_of_pos_right m (four_pos (exponent_of x)) })

  -- § 12.2 A root of a number above zero is normal, and inexact is its only flag.
  pub root_plain : (direction : ℕ) {x : Binary64Result} → RoundedRoot direction (magnitude p) x → RootPlain p x
  root_plain direction {x} r =
      let a = magnitude p in
      let y = significand_of p in
      let n = 2 ^ 46 * radicand_of y in
      let g = greatest_meets (λ s. s * s) squares n 54 0 (omega arith) (omega (arith, (radicand_span a y scaled).1)) in
      let s = greatest 54 (λ s. s * s) n 0 in
      let sum : s * s + (n - s * s) ≡ n = omega (arith, g.0) in
      let left : n - s * s ≤ 2 * s = omega (arith, g.1) in
      let v = 2 * s + min 1 (n - s * s) in
      let e = rounded_one _ false root_scale root_increasing (root_place a) r (rounded_root direction a (magnitude_below p (nonzero_operand p h).1))
      ∙ root_is a y scaled s (n - s * s) sum left direction v refl in
      let span = half_span a y scaled s (n - s * s) sum left in
      let E = exponent_span a y scaled in
      let k = normal_result (mode_of direction false) (exponent_of y) (v / 4) (v % 4) E.0 E.1 (omega arith) (omega arith) in
      record {
        normal = ap (λ (z : Binary64Result). class_of z.pattern) e ∙ k.0;
        flags = le_trans (le_of_eq (ap (λ (z : Binary64Result). z.flags) e)) k.1;
        no_tie = λ d j is t.
            let f = exponent_one root_scale root_increasing (root_place a) d (exponent_of y) is root_exponent in
            odd_square j (radicand_of y) (4 ^ exponent_of y) (four_pos (exponent_of y)) (ap (λ (z : ℕ). root_scale z (2 * j + 1)) (sym f) ∙ t ∙ place_is a y scaled);
      }
