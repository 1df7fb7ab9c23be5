-- Roots keep the order of their operands: the law of every scale, at a root's.
use Rattle.laws.proofs.{Basics.{◌≡◌, refl, ap, subst, ◌∙◌, Bool, true, false, not, cond, ◌⊎◌, inl, inr, ⊎_elim, ℕ, ◌^◌, ◌≤◌, ◌<◌, arith, T, eqb, ne_eqb, le-ltb}, Division.{le_or_lt}}
use native.Mathlib.Nat.{le_refl, mul-le-mul_left, mul-le-mul_right}
use lib.{Ieee.{Float, nan, inf, fin, le}, Ieee.Scale.{finite}}
use Rattle.division.specs.{declared.format.Binary64Result.{Binary64Result}, declared.format.Class.TheVariants.{Infinite}, Format.{negative, field, fraction, magnitude, class_of}}
use Rattle.division.{specs.Roots.{root_scale, root_place, RoundedRoot, IeeeRoot}, proofs.Roots.{root_increasing}, proofs.AdmittedAnswers.{root_answer}, proofs.IeeeRoots.{ieee_root}}
use Rattle.ieee.specs.{LanguageQuotient.{value_of}, computed.RootOrder.{RootOrder}}
use Rattle.ieee.proofs.LanguageReading as Reading
use Rattle.ieee.proofs.{LanguageOrder.{SignedLe}, Operands.{class_of_law, Is, finite_stands, finite_value, finite_le}, AnswerUnits.{is_le, infinity_before, rounded_stands, units_mono}}

-- ---- signs: ±m is not below zero, and ±n not below it
not_below_zero : (s t : Bool) (m n : ℕ) → SignedLe false 0 s m → SignedLe s m t n → SignedLe false 0 t n × (m ≤ n)
not_below_zero false false m n h k = (omega arith, k)
not_below_zero false true m n h k = (omega arith, omega arith)
not_below_zero true false m n h k = (omega arith, omega arith)
not_below_zero true true m n h k = (omega arith, omega arith)

plus_sign : (s : Bool) (m : ℕ) → SignedLe false 0 s m → 0 < m → s ≡ false
plus_sign false m h k = refl
plus_sign true m h k = absurd (omega arith)

zero_under : (s : Bool) (k : ℕ) → SignedLe s 0 false k
zero_under false k = omega arith
zero_under true k = omega arith

zeros_level : (s t : Bool) → SignedLe s 0 t 0
zeros_level false false = le_refl 0
zeros_level false true = le_refl 0
zeros_level true false = le_refl 0
zeros_level true true = le_refl 0

-- ---- an operand that is at least a value above minus infinity is finite or plus infinity
record PlusInfinity (p : ℕ) : Type 0 where
  value : value_of p ≡ inf false
  sign : negative p ≡ false
  class : class_of p ≡ Infinite

abbrev above_minus_infinity : Float → Bool
above_minus_infinity nan = false
above_minus_infinity (inf s) = not s
above_minus_infinity (fin s m e) = true

none_at_least : (x : Float) (z : Bool) → T (above_minus_infinity x) → T (le x (cond z (inf true) nan)) → ⊥
unfolding le
none_at_least nan z f t = f
none_at_least (inf true) z f t = f
none_at_least (inf false) true f t = t
none_at_least (inf false) false f t = t
none_at_least (fin s m e) true f t = t
none_at_least (fin s m e) false f t = t

at_least : (x : Float) (p : ℕ) → T (above_minus_infinity x) → T (le x (value_of p)) → (field p < 2047) ⊎ PlusInfinity p
at_least x p f h = ⊎_elim
    (λ (g : 2047 ≤ field p). inr (beyond g (eqb (fraction p) 0) (negative p) refl refl (subst (λ (y : Float). T (le x y)) (Reading.infinite p g) h)))
    (λ (g : field p < 2047). inl g)
    (le_or_lt 2047 (field p))
  where
    beyond : 2047 ≤ field p → (z s : Bool) → eqb (fraction p) 0 ≡ z → negative p ≡ s → T (le x (cond z (inf s) nan)) → PlusInfinity p
    beyond g true false z s t = record {
      value = Reading.infinite p g ∙ rw (z, s);
      sign = s;
      class = rw (ne_eqb (field p) 0 (omega arith), le-ltb (field p) 2047 g, z);
    }
    beyond g true true z s t = absurd (none_at_least x true f t)
    beyond g false u z s t = absurd (none_at_least x false f t)

-- a finite value is not at least plus infinity
finite_below : (x : Float) → T (finite x) → T (le (inf false) x) → ⊥
unfolding le
finite_below nan f t = f
finite_below (inf s) f t = f
finite_below (fin s m e) f t = t

finite_above : (x : Float) → T (finite x) → T (above_minus_infinity x)
finite_above nan f = f
finite_above (inf s) f = absurd f
finite_above (fin s m e) f = tt

-- ---- the root of a finite number that is not below zero: a zero's own, or rounded
abbrev FiniteRoot : ℕ → ℕ → Binary64Result → Type 0
FiniteRoot direction p x = ((magnitude p ≡ 0) × Is (value_of x.pattern) (negative p) 0) ⊎ ((0 < magnitude p) × RoundedRoot direction (magnitude p) x)

module _ (direction : ℕ) where
  finite_root : (p : ℕ) {x : Binary64Result} → IeeeRoot direction p x → field p < 2047 → SignedLe false 0 (negative p) (magnitude p) → FiniteRoot direction p x
  finite_root p u f h = ⊎_elim
      (λ c. inl (c.1, rw (u.itself (inl c.0)) (subst (Is (value_of p) (negative p)) c.1 (finite_stands p f))))
      (λ c. inr (c.1, u.root (plus_sign (negative p) (magnitude p) h c.1) c.0))
      (class_of_law p f)

  -- it is at most plus infinity
  under_infinity : (p : ℕ) {x : Binary64Result} → FiniteRoot direction p x → T (le (value_of x.pattern) (inf false))
  under_infinity p {x} = ⊎_elim
      (λ z. infinity_before true false (negative p) 0 (value_of x.pattern) z.1 tt)
      (λ r. infinity_before true false false _ (value_of x.pattern) (rounded_stands r.1) tt)

  between : (p q : ℕ) {x y : Binary64Result} → magnitude p ≤ magnitude q → FiniteRoot direction p x → FiniteRoot direction q y → T (le (value_of x.pattern) (value_of y.pattern))
  between p q h u v = ⊎_elim
      (λ z. ⊎_elim
      (λ w. is_le _ _ (negative p) (negative q) 0 0 z.1 w.1 (zeros_level (negative p) (negative q)))
      (λ w. is_le _ _ (negative p) false 0 _ z.1 (rounded_stands w.1) (zero_under (negative p) _))
      v)
      (λ z. ⊎_elim
      (λ w. absurd (omega (arith, z.0, w.0)))
      (λ w. is_le _ _ false false _ _ (rounded_stands z.1) (rounded_stands w.1)
      (units_mono root_scale root_increasing (root_place (magnitude p)) (root_place (magnitude q)) (mul-le-mul_left 4 (mul-le-mul_right (2 ^ 1074) h)) z.1 w.1))
      v)
      u

  -- plus infinity is its own root
  own : (p : ℕ) {x : Binary64Result} → IeeeRoot direction p x → PlusInfinity p → x.pattern ≡ p
  own p u i = ap (λ (x : Binary64Result). x.pattern) (u.itself (inr (i.sign, i.class)))

  roots_bigger : (a b : ℕ) {x y : Binary64Result} → IeeeRoot direction a x → IeeeRoot direction b y → T (le (value_of 0) (value_of a)) → T (le (value_of a) (value_of b))
      → T (le (value_of x.pattern) (value_of y.pattern))
  roots_bigger a b {x} {y} u v k l = ⊎_elim
      (λ (f : field a < 2047).
      let s = finite_le 0 a (omega arith) f k in
      let r = finite_root a u f s in
      ⊎_elim
      (λ (g : field b < 2047). let w = not_below_zero (negative a) (negative b) (magnitude a) (magnitude b) s (finite_le a b f g l) in between a b w.1 r (finite_root b v g w.0))
      (λ (i : PlusInfinity b). rw (own b v i, i.value) (under_infinity a r))
      (at_least (value_of a) b (finite_above (value_of a) (finite_value a f)) l))
      (λ (i : PlusInfinity a). let m = subst (λ (z : Float). T (le z (value_of b))) i.value l in ⊎_elim
      (λ (g : field b < 2047). absurd (finite_below (value_of b) (finite_value b g) m))
      (λ (j : PlusInfinity b). rw (own a u i, own b v j) l)
      (at_least (inf false) b tt m))
      (at_least (value_of 0) a (finite_above (value_of 0) (finite_value 0 (omega arith))) k)

-- § 12.2 The greater operand never has the smaller root.
pub root_ordered : RootOrder
root_ordered = record { bigger = λ direction a b h. rw (root_answer direction a h, root_answer direction b h) (roots_bigger direction a b (ieee_root direction a) (ieee_root direction b)) }
