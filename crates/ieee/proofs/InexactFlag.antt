-- In every direction there is no flag exactly where the answer is the exact quotient.
use Rattle.laws.proofs.{Basics.{◌≡◌, refl, sym, ap, ◌∙◌, Bool, true, false, cond, ⊎_elim, ◌↔◌, ℕ, ◌+◌, ◌*◌, ◌^◌, ◌≤◌, ◌<◌, arith, T, ltb, lt-leb, eqb-true}, Division.{le_or_lt}}
use native.Mathlib.Nat.{le_of_eq, not-le_of_lt}
use lib.{Ieee.{Float, nan, inf, fin}, Ieee.Scale.{finite}, Ieee.Positive.{num}}
use Rattle.division.specs.{declared.format.Binary64Result.{Binary64Result}, Format.{magnitude, sign_of, inexact_flag, underflow_flag, overflow_flag}, Rounding.{mode_of}}
use Rattle.division.{specs.Ieee.{quotient_scale, quotient_place, RoundedQuotient, Ieee}, proofs.QuotientReading.{quotient_exact}}
use Rattle.ieee.specs.{LanguageQuotient.{value_of}, Directions.{IsQuotient}}
use Rattle.ieee.proofs.{Operands.{Is, quotient_rounded}, AnswerUnits.{is_sign, answered, rounded_stands, rounded_word}, QuotientOrder.{sign_seen, exact_units}, ExactQuotients.{exact_quotient}}

pub no_flag : (t z : Bool) → ◌≡◌ {A = ℕ} (cond t 0 (cond z (inexact_flag + underflow_flag) inexact_flag)) 0 → t ≡ true
no_flag true z e = refl
no_flag false true e = absurd (omega arith)
no_flag false false e = absurd (omega arith)

swap : (i j k : ℕ) → i * (k * j) ≡ i * j * k
swap i j k = omega arith

module _ (d : ℕ) (s : Bool) (a b : ℕ) {x : Binary64Result} (u : RoundedQuotient d s a b x) where
  abbrev n : ℕ
  n = answered (mode_of d s) (u.K * 2 ^ u.e)

  flag_exact : x.flags ≡ 0 → (n * b ≡ a * 2 ^ 1074) × (n < 2 ^ 2098)
  flag_exact f = ⊎_elim
      (λ (g : 2 ^ 2098 ≤ u.K * 2 ^ u.e). absurd (some_flag (ap (λ (y : Binary64Result). y.flags) (sym (u.over g)) ∙ f)))
      (λ (g : u.K * 2 ^ u.e < 2 ^ 2098).
      let t = (quotient_exact a b u.e u.K).0 (eqb-true _ _ (no_flag _ (ltb (quotient_place a) (quotient_scale b 0 (2 ^ 53))) (sym (u.flags g) ∙ f))) in
      rw (lt-leb _ _ g) (sym (swap u.K (2 ^ u.e) b) ∙ t, g))
      (le_or_lt (2 ^ 2098) (u.K * 2 ^ u.e))
    where
      some_flag : inexact_flag + overflow_flag ≡ 0 → ⊥
      some_flag e = omega arith

is_finite : (x : Float) (s : Bool) (n : ℕ) → Is x s n → n < 2 ^ 2098 → T (finite x)
is_finite nan s n h l = h
is_finite (inf t) s n h l = absurd (not-le_of_lt l (le_of_eq (sym h.1)))
is_finite (fin t m e) s n h l = tt

pub silent : (direction a b : ℕ) {x : Binary64Result} → Ieee direction a b x → T (finite (value_of a)) → 0 < num (value_of b)
    → (x.flags ≡ 0) ↔ IsQuotient (value_of x.pattern) (value_of a) (value_of b)
silent direction a b {x} i h k =
    let s = sign_of a b in
    let X = value_of x.pattern in
    let u = quotient_rounded direction a b i h k in
    let w = rounded_stands u in (
      λ f. let e = flag_exact direction s (magnitude a) (magnitude b) u f in (exact_units a b h k _ X w (is_finite X s _ w e.1)).1 e.0,
      λ y. ap (λ (r : Binary64Result). r.flags) (exact_quotient direction a b x.pattern i h k (rounded_word u) y (is_sign X s _ w ∙ sym (sign_seen a b h k))),
    )
