-- A quotient that is a value of the format is the answer in every direction, with no flag. So a / 1 is a, and a / a is 1.
use Rattle.laws.proofs.Basics.{◌≡◌, refl, sym, ap, ap₂, subst, ◌∙◌, Bool, true, false, not, Bool·beq, inr, ⊎_elim, ℕ, ◌+◌, ◌*◌, ◌%◌, ◌^◌, ◌≤◌, ◌<◌, arith, T, ne_eqb, le-ltb, leb-true, leb-false}
use Rattle.laws.proofs.Division.{le_or_lt}
use native.Mathlib.Nat.{eq-zero-or-pos, mul_comm}
use lib.{Ieee.{Float, nan, of_bits, is_nan}, Ieee.Scale.{finite}, Ieee.Positive.{num}}
use Rattle.division.specs.declared.format.{Binary64Result.{Binary64Result}, Class.TheVariants.{Infinite}}
use Rattle.division.specs.{Format.{negative, field, fraction, magnitude, class_of, sign_bit, sign_of, infinity}, Rounding.{mode_of}, Ieee.{quotient_scale, quotient_place, Ieee}}
use Rattle.division.proofs.{Quotient.{quotient_increasing}, RoundedOne.{rounded_one}}
use Rattle.ieee.specs.{LanguageQuotient.{value_of, one}, Directions.{sign_in, quotient_sign, IsQuotient}}
use Rattle.ieee.proofs.LanguageReading as Reading
use Rattle.ieee.proofs.{Operands.{Is, seen, seen_some, finite_stands, exact_rounded, quotient_rounded}, AnswerUnits.{is_sign}, QuotientOrder.{both_finite, sign_seen, exact_units}}

abbrev unflagged : ℕ → Binary64Result
unflagged p = record { pattern = p; flags = 0 }

own_pattern : (q : ℕ) → q < 2 ^ 64 → sign_bit (negative q) + q % 2 ^ 63 ≡ q
own_pattern q w = go (negative q) refl
  where
    go : (s : Bool) → negative q ≡ s → sign_bit s + q % 2 ^ 63 ≡ q
    go true e = omega (arith, leb-true (2 ^ 63) q e)
    go false e = omega (arith, leb-false (2 ^ 63) q e)

-- a finite pattern q that is a / b is the answer
module _ (direction a b q : ℕ) {x : Binary64Result} (u : Ieee direction a b x) (h : T (finite (value_of a))) (k : 0 < num (value_of b)) (w : q < 2 ^ 64) where
  units_answer : field q < 2047 → magnitude q * magnitude b ≡ magnitude a * 2 ^ 1074 → negative q ≡ sign_of a b → x ≡ unflagged q
  units_answer f m s =
      let n = (seen_some b k).1 in
      rounded_one _ (sign_of a b) (quotient_scale (magnitude b)) (quotient_increasing (magnitude b) n) (quotient_place (magnitude a)) (quotient_rounded direction a b u h k)
      (rw m at (exact_rounded (mode_of direction (sign_of a b)) (sign_of a b) (magnitude b) q n f)) ∙ ap unflagged (ap (λ (t : Bool). sign_bit t + q % 2 ^ 63) (sym s) ∙ own_pattern q w)

  pub exact_quotient : IsQuotient (value_of q) (value_of a) (value_of b) → sign_in (value_of q) ≡ quotient_sign (value_of a) (value_of b) → x ≡ record { pattern = q; flags = 0 }
  exact_quotient y s =
      let g = both_finite (value_of q) (value_of a) (value_of b) y in
      let f = (seen q g).below in
      let i = finite_stands q f in
      let t = sym (is_sign (value_of q) (negative q) (magnitude q) i) ∙ s ∙ sign_seen a b h k in
      units_answer f ((exact_units a b h k (magnitude q) (value_of q) (subst (λ (t : Bool). Is (value_of q) t (magnitude q)) t i) g).0 y) t

-- ---- 1
one_finite : T (finite (value_of one)) × (0 < num (value_of one))
unfolding of_bits
one_finite = (tt, omega arith)

same_sign : (s : Bool) → false ≡ not (Bool·beq s s)
same_sign true = refl
same_sign false = refl

pub kept_sign : (s : Bool) → not (Bool·beq s false) ≡ s
kept_sign true = refl
kept_sign false = refl

pub over_one : (direction a : ℕ) {x : Binary64Result} → Ieee direction a one x → a < 2 ^ 64 → T (not (is_nan (value_of a))) → x ≡ record { pattern = a; flags = 0 }
unfolding is_nan
over_one direction a {x} u w h = ⊎_elim
    (λ (f : 2047 ≤ field a). ⊎_elim
    (λ (g : fraction a ≡ 0).
    let k : class_of a ≡ Infinite = rw (ne_eqb (field a) 0 (omega arith), le-ltb (field a) 2047 f, g) in
    let i : infinity ≡ a % 2 ^ 63 = omega arith in
    u.infinite k (inr (inr refl)) ∙ ap unflagged (ap₂ (λ (s : Bool) (n : ℕ). sign_bit s + n) (kept_sign (negative a)) i ∙ own_pattern a w))
    (λ (g : 0 < fraction a).
    let k : value_of a ≡ nan = Reading.infinite a f ∙ rw (ne_eqb (fraction a) 0 (omega arith)) in
    absurd (subst (λ (y : Float). T (not (is_nan y))) k h))
    (eq-zero-or-pos (fraction a)))
    (λ (f : field a < 2047).
    let n = Reading.finite a f in
    units_answer direction a one a u (rw n.is tt) one_finite.1 w f refl (sym (kept_sign (negative a))))
    (le_or_lt 2047 (field a))

pub over_itself : (direction a : ℕ) {x : Binary64Result} → Ieee direction a a x → 0 < num (value_of a) → x ≡ record { pattern = one; flags = 0 }
over_itself direction a u h =
    let n = (seen_some a h).0.number in
    units_answer direction a a one u (rw n.is tt) h (omega arith) (omega arith) (mul_comm (2 ^ 1074) (magnitude a)) (same_sign (negative a))
