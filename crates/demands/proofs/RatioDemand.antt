-- Ratios are compared rightly.
use Rattle.laws.proofs.{Basics.{◌≡◌, refl, sym, subst, ap, ◌∙◌, ℕ, ◌*◌, ◌%◌, ◌<◌, arith}, Comparisons.{not_below}}
use native.Mathlib.Nat.{mul-le-mul_right, le_of_mul-le-mul_right, mod-lt}
use Rattle.std.specs.{Prelude.{Result, Ok, Err, IsOkAnd}, Ordering.{MatchOrdering}, declared.cmp.Ordering.{Ordering}}
use Rattle.std.specs.declared.cmp.Ordering.TheVariants.{Less, Equal, Greater}
use Rattle.std.proofs.lemmas.Cmp.{ranked, by_ranked}
use Rattle.selection.specs.declared.Refusal.{Refusal}
use Rattle.division.specs.computed.Ratios.{Ratios, Compares, comparison_of, compared_of, comparison_numbers}
use Rattle.division.proofs.{Ratios.{comparison_less, comparison_equal, comparison_greater, round_of, found_in_87}, RatioCalls.{ratios_clear}}
use Rattle.demands.specs.computed.RatioDemand.{ComparesRatios, reversed_comparison, RatioDemand}

-- what an order says of two numbers
abbrev Says : ℕ → ℕ → Ordering → Type 0
Says m n x = MatchOrdering x (m < n) (m ≡ n) (n < m)

-- what holds of each order where it is given holds of the order
by_order : (P : Ordering → Type 0) (m n : ℕ) → (m < n → P Less) → (m ≡ n → P Equal) → (n < m → P Greater) → P (comparison_of m n)
by_order P m n f g h = by_ranked _ _ _ _ (ranked m n _ refl) (λ e l. subst P (sym e) (f l)) (λ e l. subst P (sym e) (g l)) (λ e l. subst P (sym e) (h l))

module _ (a b c d : ℕ) (r : Ratios a b c d) where
  -- no refusal is the answer
  taken : compared_of a b c d ≡ Ok (comparison_of (a * d) (c * b))
  taken = rw (ratios_clear a b c d r) refl

  said : IsOkAnd (compared_of a b c d) (Says (a * d) (c * b))
  said = rw taken (ranked (a * d) (c * b) _ refl)

  compares : Compares a b c d (comparison_of (a * d) (c * b))
  compares =
      let o = ranked (a * d) (c * b) _ refl in
      record {
        less = (λ e. subst (Says (a * d) (c * b)) e o, comparison_less (a * d) (c * b));
        equal = (λ e. subst (Says (a * d) (c * b)) e o, comparison_equal (a * d) (c * b));
        greater = (λ e. subst (Says (a * d) (c * b)) e o, comparison_greater (a * d) (c * b));
      }

  compared : ComparesRatios a b c d (compared_of a b c d)
  compared = rw taken (record { meaning = compares; only = only })
    where
      only : (y : Result Ordering Refusal) → IsOkAnd y (Compares a b c d) → y ≡ Ok (comparison_of (a * d) (c * b))
      only (Ok y) w = ap Ok (by_order (λ x. y ≡ x) (a * d) (c * b) w.less.1 w.equal.1 w.greater.1)
      only (Err f) w = absurd w

-- § 16.1 a/b compares with c/d as a·d with c·b.
pub ratio_demand : RatioDemand
ratio_demand = record {
  compared = compared;
  less = λ a b c d r h. ap comparison_numbers (taken a b c d r ∙ ap Ok (comparison_less (a * d) (c * b) h));
  equal = λ a b c d r h. ap comparison_numbers (taken a b c d r ∙ ap Ok (comparison_equal (a * d) (c * b) h));
  greater = λ a b c d r h. ap comparison_numbers (taken a b c d r ∙ ap Ok (comparison_greater (a * d) (c * b) h));
  examples = (refl, refl, refl);
  largest = refl;
  by_quotients = λ a b c d r h. taken a b c d r ∙ ap Ok ((round_of a b c d r.b_some r.d_some).less h);
  by_remainders = λ a b c d r e h k.
      let rest : Ratios d (c % d) b (a % b) = omega (arith, mod-lt c r.d_some, mod-lt a r.b_some) in
      taken a b c d r ∙ ap Ok (sym ((round_of a b c d r.b_some r.d_some).next e h k)) ∙ sym (taken d (c % d) b (a % b) rest);
  found = λ a b c d r. rw (taken a b c d r) (found_in_87 a b c d r);
  -- the other way round
  reversed = λ a b c d r.
      let other : Ratios c d a b = omega arith in
      rw (taken a b c d r, taken c d a b other)
      (by_order (λ x. Ok (comparison_of (c * b) (a * d)) ≡ reversed_comparison (Ok x)) (a * d) (c * b)
      (λ l. ap Ok (comparison_greater (c * b) (a * d) l))
      (λ e. ap Ok (comparison_equal (c * b) (a * d) (sym e)))
      (λ l. ap Ok (comparison_less (c * b) (a * d) l)));
  -- one after the other: neither step is greater, and so not the whole, times d
  chained = λ a b c d e f r s h k g.
      let w : Ratios a b e f = omega arith in
      let i = not_below (λ l. h (taken a b c d r ∙ ap Ok (comparison_greater (a * d) (c * b) l))) in
      let j = not_below (λ l. k (taken c d e f s ∙ ap Ok (comparison_greater (c * f) (e * d) l))) in
      let z = le_of_mul-le-mul_right {m = a * f} {n = e * b} {k = d} (omega (arith, mul-le-mul_right f i, mul-le-mul_right b j)) r.d_some in
      omega (arith, z, subst (λ v. IsOkAnd v (Says (a * f) (e * b))) g (said a b e f w));
}
