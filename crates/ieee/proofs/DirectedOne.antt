-- One pattern has what the logic's account asks: nothing of it is left to chance.
use Rattle.laws.proofs.Basics.{◌≡◌, refl, sym, ap, subst, ◌∙◌, Bool, true, false, not, inl, inr, ⊎_elim, ℕ, zero, suc, ◌^◌, ◌<◌, T}
use native.Mathlib.Nat.{eq-zero-or-pos}
use lib.{Pow.{pow_pos}, Ieee.{Float, nan, inf, fin, binary64, to_bits, is_nan, le}, Ieee.Bits.{to_bits-of_bits}, Ieee.Scale.{finite}, Ieee.Positive.{num}}
use Rattle.division.{specs.Format.{negative, magnitude}, proofs.RoundedOne.{pattern_one}}
use Rattle.ieee.specs.{LanguageQuotient.{value_of}, Directions.{sign_in, quotient_sign, RoundedToZero, RoundedIn, Directed, FiniteOver, Pinned}}
use Rattle.ieee.proofs.{LanguageOrder.{signed_both, le_signed}, Operands.{num_finite, seen, finite_stands}, AnswerUnits.{is_sign}}

-- a pattern is that of its value, where this is a number or an infinity
pub same_pattern : (p q : ℕ) → p < 2 ^ 64 → q < 2 ^ 64 → T (not (is_nan (value_of p))) → value_of p ≡ value_of q → p ≡ q
same_pattern p q h k n e = sym (to_bits-of_bits binary64 p h n) ∙ ap (to_bits binary64) e ∙ to_bits-of_bits binary64 q k (subst (λ (x : Float). T (not (is_nan x))) e n)

-- two patterns with one sign, neither of them greater, are one
module _ (p q : ℕ) (h : p < 2 ^ 64) (k : q < 2 ^ 64) (l : T (le (value_of p) (value_of q))) (r : T (le (value_of q) (value_of p))) (s : sign_in (value_of p) ≡ sign_in (value_of q)) where
  both_finite : T (finite (value_of p)) → T (finite (value_of q)) → p ≡ q
  both_finite f g =
      let i = finite_stands p (seen p f).below in
      let j = finite_stands q (seen q g).below in
      let e : negative p ≡ negative q = sym (is_sign (value_of p) (negative p) (magnitude p) i) ∙ s ∙ is_sign (value_of q) (negative q) (magnitude q) j in
      let le_units = le_signed (2 ^ 1074) (2 ^ 2098) (pow_pos 1074) (pow_pos 2098) in
      let m = le_units (value_of p) (value_of q) (negative p) (negative q) (magnitude p) (magnitude q) i j f g l in
      let n = le_units (value_of q) (value_of p) (negative q) (negative p) (magnitude q) (magnitude p) j i g f r in
      pattern_one p q h k ((signed_both (negative q) (magnitude p) (magnitude q)).1 (rw e at m, rw e at n)) e

  pub level_one : p ≡ q
  unfolding le is_nan
  level_one = go (value_of p) (value_of q) refl refl
    where
      go : (x y : Float) → value_of p ≡ x → value_of q ≡ y → p ≡ q
      go nan y e f = absurd (rw e at l)
      go (inf t) nan e f = absurd (rw f at r)
      go (inf t) (inf t') e f = same_pattern p q h k (rw e tt) (e ∙ ap inf (rw (e, f) at s) ∙ sym f)
      go (inf true) (fin t' n d) e f = absurd (rw (e, f) at r)
      go (inf false) (fin t' n d) e f = absurd (rw (e, f) at l)
      go (fin t m c) nan e f = absurd (rw f at r)
      go (fin t m c) (inf true) e f = absurd (rw (e, f) at l)
      go (fin t m c) (inf false) e f = absurd (rw (e, f) at r)
      go (fin t m c) (fin t' n d) e f = both_finite (rw e tt) (rw f tt)

directed_one : (direction a b p q : ℕ) → Directed direction a b p → Directed direction a b q → p ≡ q
directed_one direction a b p q u v = go direction u.rounded v.rounded
  where
    level : T (le (value_of p) (value_of q)) → T (le (value_of q) (value_of p)) → p ≡ q
    level l r = level_one p q u.word v.word l r (u.sign ∙ sym v.sign)

    zeros : (s : Bool) → RoundedToZero s a b p → RoundedToZero s a b q → p ≡ q
    zeros true i j = level (i.least q j.over) (j.least p i.over)
    zeros false i j = level (j.greatest p i.under) (i.greatest q j.under)

    go : (direction : ℕ) → RoundedIn direction a b p → RoundedIn direction a b q → p ≡ q
    go zero i j = i ∙ sym j
    go (suc zero) i j = zeros (quotient_sign (value_of a) (value_of b)) i j
    go (suc (suc zero)) i j = zeros true i j
    go (suc (suc (suc d))) i j = zeros false i j

pub pinned_one : (direction a b p q : ℕ) → Pinned direction a b p → Pinned direction a b q → p ≡ q
pinned_one direction a b p q u v = ⊎_elim
    (λ (z : num (value_of a) ≡ 0). u.special (inl z) ∙ sym (v.special (inl z)))
    (λ (h : 0 < num (value_of a)). ⊎_elim
    (λ (z : num (value_of b) ≡ 0). u.special (inr z) ∙ sym (v.special (inr z)))
    (λ (k : 0 < num (value_of b)). let f : FiniteOver a b = record { dividend = num_finite (value_of a) h; divisor = k } in directed_one direction a b p q (u.directed f) (v.directed f))
    (eq-zero-or-pos (num (value_of b))))
    (eq-zero-or-pos (num (value_of a)))
