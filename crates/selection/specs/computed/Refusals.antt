-- Refusals: conditions, rules and their order, by the specification, section 18. What a call refuses is a list of rules; each call's stands with its answer.
use Rattle.std.specs.Prelude.{◌≡◌, ℕ, suc, ◌<◌, ◌≤◌, Bool, cond, not, ◌||◌, ◌⊎◌, ◌↔◌, List, [], ◌∷◌, ℤ, ◌<ℤ◌, ◌==◌, int_lt, nat_le, nat_lt, ⊤, Result, Ok, Err}
use Rattle.laws.specs.Search.{First, first_from}
use Rattle.selection.specs.Answer.{refusal}
use Rattle.selection.specs.computed.Answer.{first_of}
use Rattle.selection.specs.declared.Refusal.{Refusal}

-- ---- conditions

-- § 18.1 Each condition has a number and a place.
pub data Condition : Type 0 where
  below : ℕ → ℕ → Condition
  belowℤ : ℤ → ℤ → Condition
  at_most : ℕ → ℕ → Condition
  same : ℕ → ℕ → Condition
  differ : ℕ → ℕ → Condition
  either_of : Condition → Condition → Condition

-- what a condition says
abbrev pub Holds : Condition → Type 0
Holds (below a b) = a < b
Holds (belowℤ a b) = a <ℤ b
Holds (at_most a b) = a ≤ b
Holds (same a b) = a ≡ b
Holds (differ a b) = a ≡ b → ⊥
Holds (either_of c d) = Holds c ⊎ Holds d

-- its test
abbrev pub holds : Condition → Bool
holds (below a b) = nat_lt a b
holds (belowℤ a b) = int_lt a b
holds (at_most a b) = nat_le a b
holds (same a b) = a == b
holds (differ a b) = not (a == b)
holds (either_of c d) = holds c || holds d

-- a list of len places is too short for n
abbrev pub too_short : ℕ → ℕ → Condition
too_short len n = below len n

-- ---- rules

-- number k with place p, where c holds; or number k, where P holds of an index below m, as the test f tells: the place is the first
-- § 18.1 Each condition has a number and a place.
pub data Rule : Type 1 where
  number_at : (k p : ℕ) → Condition → Rule
  number_first : (k : ℕ) (P : ℕ → Type 0) (f : ℕ → Bool) (m : ℕ) → Rule

-- the place is 0
abbrev pub number : ℕ → Condition → Rule
number k c = number_at k 0 c

abbrev pub number_of : Rule → ℕ
number_of (number_at k p c) = k
number_of (number_first k P f m) = k

-- its condition, at the place q
abbrev pub Wrong : Rule → ℕ → Type 0
Wrong (number_at k p c) q = (q ≡ p) × Holds c
Wrong (number_first k P f m) q = (q < m) × First P q

-- what a call gives that has come to it
abbrev pub given : Rule → Result ⊤ Refusal
given (number_at k p c) = cond (holds c) (Err (refusal k p)) (Ok tt)
given (number_first k P f m) = let j = first_from f 0 m in cond (nat_lt j m) (Err (refusal k j)) (Ok tt)

-- what a call refuses: the condition of the number n holds, and p is its place
-- § 18.1 Each condition has a number and a place.
abbrev pub Wrongs : List Rule → ℕ → ℕ → Type 0
Wrongs [] n p = ⊥
Wrongs (r ∷ rs) n p = ((n ≡ number_of r) × Wrong r p) ⊎ Wrongs rs n p

-- the first refusal that is given
abbrev pub first_refusal : List Rule → Result ⊤ Refusal
first_refusal [] = Ok tt
first_refusal (r ∷ rs) = first_of (given r) (first_refusal rs)

-- ---- the order of the refusals

abbrev pub order : List ℕ
order = 17 ∷ 1 ∷ 2 ∷ 16 ∷ 3 ∷ 14 ∷ 15 ∷ 4 ∷ 5 ∷ 6 ∷ 11 ∷ 12 ∷ 13 ∷ 7 ∷ 8 ∷ 9 ∷ 10 ∷ []

abbrev pub rank_in : List ℕ → ℕ → ℕ → ℕ
rank_in [] i n = 0
rank_in (m ∷ ms) i n =
    let later = rank_in ms (suc i) n in
    cond (n == m) i later

-- where the number n stands in the order, from 1 on; 0: nowhere
-- § 18.2 There is one order of refusals.
unfoldable pub rank : ℕ → ℕ
rank n = rank_in order 1 n

-- of what C refuses, number n with place p is the first
-- § 18.2 There is one order of refusals.
pub record IsFirstRefusal (C : ℕ → ℕ → Type 0) (n p : ℕ) : Type 0 where
  pub holds : C n p
  pub before : (m q : ℕ) → rank m < rank n → C m q → ⊥

-- f is the refusal (0 and 0: none) of a call that refuses by C: a number and a place exactly if they are the first, and none exactly if no condition holds
-- § 18.4 A refusal is given exactly where its condition holds and none before it.
pub record RefusedBy (C : ℕ → ℕ → Type 0) (f : Refusal) : Type 0 where
  pub exactly : (n p : ℕ) → 0 < n → (f ≡ refusal n p) ↔ IsFirstRefusal C n p
  pub none : (f ≡ refusal 0 0) ↔ ((n p : ℕ) → C n p → ⊥)

-- x is the outcome of a call: its answer, and the lists that it is lent to write. `refused_in x` is the refusal in it, and `refused f` the outcome of the refusal f: zeros besides, and each list as it was
-- § 18.5 All values beside number and place are zeros.
-- § 18.6 No byte of a lent buffer changes where a call refuses.
pub record Refuses {X : Type 0} (C : ℕ → ℕ → Type 0) (refused_in : X → Refusal) (refused : Refusal → X) (x : X) : Type 0 where
  pub by : RefusedBy C (refused_in x)
  pub besides : (n p : ℕ) → IsFirstRefusal C n p → x ≡ refused (refusal n p)
