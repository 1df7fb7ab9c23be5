-- A condition's test tells whether it holds; and what it says that it fails.
use Rattle.laws.proofs.Basics.{◌≡◌, refl, sym, subst, Bool, true, false, ◌||◌, ◌↔◌, ◌⊎◌, inl, inr, ⊎_elim, ◌≤◌, ◌<◌, arith, T, eqb, leb-true, leb-false, eqb-true, eqb-false}
use Rattle.laws.proofs.{Comparisons.{not_below, not_most, equal}, Tests.{either, Decides, decides_yes, decides_no, less_decides}}
use Rattle.std.proofs.Common.{◌<ℤ◌, not-le_of_lt}
use Rattle.selection.specs.computed.Refusals.{Condition, below, belowℤ, at_most, same, differ, either_of, Holds, holds}

-- the second test need tell only where the first has failed
pub decides_or : {P Q : Type 0} (x y : Bool) → Decides P x → ((P → ⊥) → Decides Q y) → Decides (P ⊎ Q) (x || y)
decides_or true y d e = decides_yes (inl (d.yes refl))
decides_or false y d e = let n = d.no refl in record { yes = λ g. inr ((e n).yes g); no = λ g. ⊎_elim n ((e n).no g) }

pub holds_decides : (c : Condition) → Decides (Holds c) (holds c)
holds_decides (below a b) = less_decides a b
holds_decides (belowℤ a b) = record { yes = λ e. record { lt = subst T (sym e) tt }; no = λ e h. subst T e h.lt }
holds_decides (at_most a b) = record { yes = leb-true a b; no = λ e. not-le_of_lt (leb-false a b e) }
holds_decides (same a b) = record { yes = eqb-true a b; no = eqb-false a b }
holds_decides (differ a b) = ⊎_elim (λ (e : eqb a b ≡ true). rw e (decides_no (λ n. n (eqb-true a b e)))) (λ (e : eqb a b ≡ false). rw e (decides_yes (eqb-false a b e))) (either (eqb a b))
holds_decides (either_of c d) = decides_or (holds c) (holds d) (holds_decides c) (λ _. holds_decides d)

-- what it says that a condition does not hold: a < b fails where b ≤ a
abbrev pub Fails : Condition → Type 0
Fails (below a b) = b ≤ a
Fails (belowℤ a b) = a <ℤ b → ⊥
Fails (at_most a b) = b < a
Fails (same a b) = a ≡ b → ⊥
Fails (differ a b) = a ≡ b
Fails (either_of c d) = Fails c × Fails d

pub fails : (c : Condition) → (Holds c → ⊥) ↔ Fails c
fails (below a b) = (not_below, λ f h. omega arith)
fails (belowℤ a b) = ((λ n. n), λ f. f)
fails (at_most a b) = (not_most, λ f h. omega arith)
fails (same a b) = ((λ n. n), λ f. f)
fails (differ a b) = (equal a b, λ f h. h f)
fails (either_of c d) = ((λ n. ((fails c).0 (λ h. n (inl h)), (fails d).0 (λ h. n (inr h)))), λ f. ⊎_elim ((fails c).1 f.0) ((fails d).1 f.1))
