-- The first number that passes a test: the turns of a loop that looks for it, and what it is of a property that the test decides.
use Rattle.laws.proofs.Basics.{◌≡◌, refl, sym, subst, ◌∙◌, Bool, true, false, cond, ◌⊎◌, inl, inr, ⊎_elim, ℕ, zero, suc, ◌+◌, ◌-◌, ◌≤◌, ◌<◌, min, arith, ltb, lt-ltb, le-ltb}
use Rattle.laws.proofs.Tests.{by_cond, either, Decides}
use native.Mathlib.Nat.{zero-add, add-zero, suc-add, eq-or-lt_of_le}
use Rattle.std.specs.Prelude.{List, [], ◌∷◌, Some, None, length, get_or, position}
use Rattle.std.specs.List.{position_or_len}
use Rattle.std.proofs.lemmas.Bool.Decides.{nat_tests}
use Rattle.laws.specs.Search.{First, first_from}

module _ (f : ℕ → Bool) (i m : ℕ) where
  pub first_here : i < m → f i ≡ true → first_from f i (m - i) ≡ i
  unfolding first_from
  first_here h e = let s : m - i ≡ suc (m - (i + 1)) = omega arith in rw s (simp e)

  pub first_on : i < m → f i ≡ false → first_from f i (m - i) ≡ first_from f (i + 1) (m - (i + 1))
  unfolding first_from
  first_on h e = let s : m - i ≡ suc (m - (i + 1)) = omega arith in rw s (simp e)

  pub first_end : m ≤ i → first_from f i (m - i) ≡ i
  unfolding first_from
  first_end h = let s : m - i ≡ 0 = omega arith in rw s refl

first_bounds : (f : ℕ → Bool) (i n : ℕ) → (i ≤ first_from f i n) × (first_from f i n ≤ i + n)
unfolding first_from
first_bounds f i zero = (omega arith, omega arith)
first_bounds f i (suc n) = by_cond (λ k. (i ≤ k) × (k ≤ i + suc n)) (f i) _ _ (λ t. (omega arith, omega arith)) (λ t. let b = first_bounds f (i + 1) n in (omega arith, omega arith))

-- the first of all is the lesser of the first so far, or m, and the first from i on
module _ (f : ℕ → Bool) (m : ℕ) where
  pub lesser_start : first_from f 0 m ≡ min m (first_from f 0 m)
  lesser_start = let b = first_bounds f 0 m in omega arith

  pub lesser_turn : (i first : ℕ) {at next : ℕ} → i < m → first ≤ m → at ≡ cond (f i) i m → next ≡ min first at → min first (first_from f i (m - i)) ≡ min next (first_from f (i + 1) (m - (i + 1)))
  lesser_turn i first h l e n =
      let b = first_bounds f (i + 1) (m - (i + 1)) in
      ⊎_elim (λ g. omega (arith, rw g at e, first_here f i m h g)) (λ g. omega (arith, rw g at e, first_on f i m h g)) (either (f i))

  pub lesser_end : (i first : ℕ) → m ≤ i → first ≤ m → min first (first_from f i (m - i)) ≡ first
  lesser_end i first h l = let k = first_end f i m h in omega arith

-- of n numbers from i + k on and m more, the first is among the n, or it is that of the m
pub first_part : (f : ℕ → Bool) (i k n m : ℕ) → let j = first_from (λ c. f (i + c)) k n in first_from f (i + k) (n + m) ≡ cond (ltb j (k + n)) (i + j) (first_from f (i + (k + n)) m)
unfolding first_from
first_part f i k zero m = rw (zero-add m, add-zero k, le-ltb k k (omega arith)) refl
first_part f i k (suc n) m =
    let a : i + k + 1 ≡ i + (k + 1) = omega arith in
    let b : k + suc n ≡ k + 1 + n = omega arith in
    rw (suc-add n m) (⊎_elim
    (λ (e : f (i + k) ≡ true). rw (e, lt-ltb k (k + suc n) (omega arith)))
    (λ (e : f (i + k) ≡ false). rw (e, a, b) (first_part f i (k + 1) n m))
    (either (f (i + k))))

-- f is the first number from i on that has P, or m
abbrev FirstOf : (ℕ → Type 0) → ℕ → ℕ → ℕ → Type 0
FirstOf P i m f = ((k : ℕ) → i ≤ k → k < f → P k → ⊥) × ((f ≡ m) ⊎ ((f < m) × P f))

first_of : {P : ℕ → Type 0} (f : ℕ → Bool) (i m n : ℕ) → i + n ≡ m → ((k : ℕ) → k < m → Decides (P k) (f k)) → FirstOf P i m (first_from f i n)
unfolding first_from
first_of f i m zero e d = ((λ k l h p. omega arith), inl (omega arith))
first_of {P} f i m (suc n) e d = go (f i) (d i (omega arith)) (first_of f (i + 1) m n (omega arith) d)
  where
    go : {r : ℕ} (b : Bool) → Decides (P i) b → FirstOf P (i + 1) m r → FirstOf P i m (cond b i r)
    go true q x = ((λ k l h p. omega arith), inr (omega arith, q.yes refl))
    go false q x = ((λ k l h p. ⊎_elim (λ e. q.no refl (subst P (sym e) p)) (λ s. x.0 k (omega arith) h p) (eq-or-lt_of_le l)), x.1)

pub first_below : {P : ℕ → Type 0} (f : ℕ → Bool) (m : ℕ) → ((k : ℕ) → k < m → Decides (P k) (f k))
    → let n = first_from f 0 m in ((n ≡ m) × ((k : ℕ) → k < m → P k → ⊥)) ⊎ ((n < m) × First P n)
first_below f m d =
    let x = first_of f 0 m m (zero-add m) d in
    ⊎_elim (λ e. inl (e, λ k h. x.0 k (omega arith) (omega arith))) (λ y. inr (y.0, record { here = y.1; before = λ k h. x.0 k (omega arith) h })) x.1

-- the library's search of a list, where f tests the places from i on as p does the entries
module _ {X : Type 0} (p : X → Bool) (d : X) where
  first_position : (f : ℕ → Bool) (i : ℕ) (xs : List X) → ((k : ℕ) → k < length xs → f (i + k) ≡ p (get_or xs k d)) → first_from f i (length xs) ≡ i + position_or_len p xs
  unfolding first_from
  first_position f i [] e = omega arith
  first_position f i (x ∷ xs) e =
      let here : f i ≡ p x = rw (← add-zero i) (e 0 (omega arith)) in
      let rest = first_position f (i + 1) xs (λ k h. let s : i + 1 + k ≡ i + suc k = omega arith in rw s (e (suc k) (omega arith))) in
      ⊎_elim (λ (t : p x ≡ true). rw (here, t) (omega arith)) (λ (t : p x ≡ false). rw (here, t, rest) (omega arith)) (either (p x))

  module _ (f : ℕ → Bool) (xs : List X) (e : (k : ℕ) → k < length xs → f k ≡ p (get_or xs k d)) where
    first_of_position : first_from f 0 (length xs) ≡ position_or_len p xs
    first_of_position = first_position f 0 xs (λ k h. rw zero-add (e k h)) ∙ zero-add _

    pub position_some : {k : ℕ} → position p xs ≡ Some k → (k ≡ first_from f 0 (length xs)) × (k < length xs)
    position_some s = let e = first_of_position in grind (arith, nat_tests)

    pub position_none : position p xs ≡ None → length xs ≤ first_from f 0 (length xs)
    position_none s = let e = first_of_position in grind (arith, nat_tests)
