-- Bigger stays bigger: over one divisor above zero and in one direction, a greater dividend never has a smaller answer. The order is the logic's, so zeros of either
-- sign are equal.
use Rattle.laws.proofs.Basics.{◌≡◌, refl, ap, subst, ◌∙◌, Bool, true, false, not, Bool·beq, ℕ, ◌*◌, ◌^◌, ◌≤◌, ◌<◌, zero-le, arith, T, ltb→lt}
use native.Mathlib.Nat.{add-le-add, mul-pos, mul-le-mul_left, mul-le-mul_right}
use lib.{IntN.{ℤ}, Ieee.{Float, nan, inf, fin, le}, Ieee.Fits.{up_pos}, Ieee.Scale.{finite}, Ieee.Positive.{num, positive}}
use Rattle.division.specs.{declared.format.Binary64Result.{Binary64Result}, Format.{negative, magnitude, sign_of}, Rounding.{mode_of}, Ieee.{quotient_scale, quotient_place, RoundedQuotient, Ieee}}
use Rattle.division.proofs.Quotient.{quotient_increasing}
use Rattle.ieee.specs.LanguageQuotient.{value_of}
use Rattle.ieee.proofs.{LanguageOrder.{SignedLe}, Operands.{seen, seen_some, finite_le, quotient_rounded}, ExactQuotients.{kept_sign}, AnswerUnits.{is_le, answered, rounded_stands, units_mono}}
use Rattle.ieee.proofs.Directions.{no_more}

-- a divisor above zero
positive_num : (x : Float) → T (positive x) → 0 < num x
positive_num nan h = absurd h
positive_num (inf s) h = absurd h
positive_num (fin true m e) h = absurd h
positive_num (fin false m e) h = mul-pos (ltb→lt 0 m h) (up_pos e)

positive_sign : (p : ℕ) → T (positive (value_of p)) → negative p ≡ false
positive_sign p h = let n = (seen_some p (positive_num (value_of p) h)).0.number in plus (negative p) n.m n.e (subst (λ (x : Float). T (positive x)) n.is h)
  where
    plus : (s : Bool) (m : ℕ) (e : ℤ) → T (positive (fin s m e)) → s ≡ false
    plus true m e t = absurd t
    plus false m e t = refl

-- ±a and ±b over d, rounded
module _ (direction d : ℕ) (h : 0 < d) where
  units : (s : Bool) (a b : ℕ) {x y : Binary64Result} → a ≤ b → (u : RoundedQuotient direction s a d x) (v : RoundedQuotient direction s b d y)
      → answered (mode_of direction s) (u.K * 2 ^ u.e) ≤ answered (mode_of direction s) (v.K * 2 ^ v.e)
  units s a b l u v = units_mono (quotient_scale d) (quotient_increasing d h) (quotient_place a) (quotient_place b) (mul-le-mul_left 2 (mul-le-mul_right (2 ^ 1074) l)) u v

  none : (s : Bool) (a : ℕ) {x : Binary64Result} → a ≡ 0 → (u : RoundedQuotient direction s a d x) → answered (mode_of direction s) (u.K * 2 ^ u.e) ≤ 0
  none s a e u = no_more a d h u 0 (omega arith) (rw e zero-le)

  signs_mono : (s t : Bool) (a b : ℕ) {x y : Binary64Result} (u : RoundedQuotient direction s a d x) (v : RoundedQuotient direction t b d y) → SignedLe s a t b
      → SignedLe s (answered (mode_of direction s) (u.K * 2 ^ u.e)) t (answered (mode_of direction t) (v.K * 2 ^ v.e))
  signs_mono false false a b u v l = units false a b l u v
  signs_mono false true a b u v l = add-le-add (none false a (omega arith) u) (none true b (omega arith) v)
  signs_mono true false a b u v l = zero-le
  signs_mono true true a b u v l = units true b a l v u

-- § 9.9 Quotients keep the order of their dividends.
pub bigger_stays : (direction a b d : ℕ) {x y : Binary64Result} → Ieee direction a d x → Ieee direction b d y
    → T (finite (value_of a)) → T (finite (value_of b)) → T (positive (value_of d)) → T (le (value_of a) (value_of b)) → T (le (value_of x.pattern) (value_of y.pattern))
bigger_stays direction a b d {x} {y} i j ha hb hd l =
    let n = positive_num (value_of d) hd in
    let u = subst (λ (s : Bool). RoundedQuotient direction s (magnitude a) (magnitude d) x) (sign a) (quotient_rounded direction a d i ha n) in
    let v = subst (λ (s : Bool). RoundedQuotient direction s (magnitude b) (magnitude d) y) (sign b) (quotient_rounded direction b d j hb n) in
    let k = finite_le a b (seen a ha).below (seen b hb).below l in
    is_le _ _ (negative a) (negative b) _ _ (rounded_stands u) (rounded_stands v) (signs_mono direction (magnitude d) (seen_some d n).1 (negative a) (negative b) (magnitude a) (magnitude b) u v k)
  where
    sign : (a : ℕ) → sign_of a d ≡ negative a
    sign a = ap (λ (s : Bool). not (Bool·beq (negative a) s)) (positive_sign d hd) ∙ kept_sign (negative a)
