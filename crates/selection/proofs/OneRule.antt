-- What one rule gives: it refuses at its one place, or it is past.
use Rattle.std.specs.Prelude.{Ok, Err}
use Rattle.laws.proofs.{Basics.{◌≡◌, refl, sym, ap, ◌∙◌, Bool, true, false, ◌⊎◌, inl, inr, ⊎_elim, ℕ, ◌≤◌, ◌<◌, arith, lt-ltb, le-ltb}, Comparisons.{not_below}, Tests.{either, Decides}}
use Rattle.laws.{proofs.Search.{first_below}, specs.Search.{First, first_from}}
use Rattle.std.proofs.Common.{le_antisymm}
use Rattle.selection.proofs.ConditionTests.{holds_decides, Fails, fails}
use Rattle.selection.specs.{Answer.{refusal}, computed.Refusals.{holds, Rule, number_at, number_first, number_of, Wrong, given}}

pub first_one : {P : ℕ → Type 0} {i j : ℕ} → First P i → First P j → i ≡ j
first_one x y = le_antisymm (not_below (λ l. x.before _ l y.here)) (not_below (λ l. y.before _ l x.here))

-- a search that ends before the number m has found the first, and one that does not has found none
module _ {P : ℕ → Type 0} (f : ℕ → Bool) (m : ℕ) (d : (j : ℕ) → j < m → Decides (P j) (f j)) where
  pub found : {p : ℕ} → p ≡ first_from f 0 m → p < m → (p < m) × First P p
  found e h = rw e (⊎_elim (λ x. absurd (omega (arith, x.0))) (λ x. x) (first_below f m d))

  pub not_found : m ≤ first_from f 0 m → (j : ℕ) → j < m → P j → ⊥
  not_found h = ⊎_elim (λ x. x.1) (λ x. absurd (omega (arith, x.0))) (first_below f m d)

-- the test of a search tells; the other rules bring theirs
abbrev pub Tells : Rule → Type 0
Tells (number_at k p c) = Unit {0}
Tells (number_first k P f m) = (j : ℕ) → j < m → Decides (P j) (f j)

-- what it says that a rule refuses nothing
abbrev pub Past : Rule → Type 0
Past (number_at k p c) = Fails c
Past (number_first k P f m) = (j : ℕ) → j < m → P j → ⊥

pub past_not : (r : Rule) → Past r → (p : ℕ) → Wrong r p → ⊥
past_not (number_at k p c) a q w = (fails c).1 a w.1
past_not (number_first k P f m) a q w = a q w.0 w.1.here

wrong_one : (r : Rule) (p q : ℕ) → Wrong r p → Wrong r q → p ≡ q
wrong_one (number_at k p c) i j x y = x.0 ∙ sym y.0
wrong_one (number_first k P f m) i j x y = first_one x.1 y.1

pub decided : (r : Rule) → Tells r → ((p : ℕ) × Wrong r p × (given r ≡ Err (refusal (number_of r) p))) ⊎ (Past r × (given r ≡ Ok tt))
decided (number_at k p c) t = ⊎_elim
    (λ (e : holds c ≡ true). inl (p, (refl, (holds_decides c).yes e), rw e refl))
    (λ (e : holds c ≡ false). inr ((fails c).0 ((holds_decides c).no e), rw e refl))
    (either (holds c))
decided (number_first k P f m) t = ⊎_elim
    (λ x. inr (x.1, rw (le-ltb (first_from f 0 m) m (omega (arith, x.0))) refl))
    (λ x. inl (first_from f 0 m, x, rw (lt-ltb (first_from f 0 m) m x.0) refl))
    (first_below f m t)

module _ (r : Rule) (t : Tells r) where
  pub refuses_at : (p : ℕ) → Wrong r p → given r ≡ Err (refusal (number_of r) p)
  refuses_at p w = ⊎_elim (λ x. x.2 ∙ ap (λ (q : ℕ). Err (refusal (number_of r) q)) (wrong_one r x.0 p x.1 w)) (λ x. absurd (past_not r x.0 p w)) (decided r t)

  pub past : ((p : ℕ) → Wrong r p → ⊥) → Past r
  past n = ⊎_elim (λ x. absurd (n x.0 x.1)) (λ x. x.0) (decided r t)

  pub past_admits : Past r → given r ≡ Ok tt
  past_admits a = ⊎_elim (λ x. absurd (past_not r a x.0 x.1)) (λ x. x.1) (decided r t)
