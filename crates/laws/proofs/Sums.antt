-- Sums over an index: what is added one by one, at either end, in another order, and what a sum says of its summands.
use Rattle.laws.proofs.Basics.{◌≡◌, refl, ap, ◌∙◌, ⊎_elim, ℕ, zero, suc, ◌+◌, ◌-◌, ◌*◌, ◌≤◌, ◌<◌, arith, add-one}
use native.Mathlib.Nat.{add-zero, add-suc, eq-or-lt_of_le, suc-mul}
use Rattle.laws.specs.Sums.{sum_below, sum_from}

module _ (f : ℕ → ℕ) where
  pub sum_none : sum_below f 0 ≡ 0
  unfolding sum_below
  sum_none = refl

  pub sum_more : (m : ℕ) → sum_below f (m + 1) ≡ sum_below f m + f m
  unfolding sum_below
  sum_more m = rw add-one refl

  -- the first m, and n more
  pub sum_part : (m n : ℕ) → sum_below f (m + n) ≡ sum_below f m + sum_from f m n
  unfolding sum_below
  sum_part m zero = rw (add-zero m) (omega arith)
  sum_part m (suc n) = rw (add-suc m n) (omega (arith, sum_part m n))

  -- without the first
  pub sum_leaves : (i n : ℕ) → sum_from f i (n + 1) ≡ f i + sum_from f (i + 1) n
  unfolding sum_below
  sum_leaves i zero = rw (add-zero i) (omega arith)
  sum_leaves i (suc n) = let e : i + suc n ≡ i + 1 + n = omega arith in rw (add-one (suc n)) (omega (arith, rw (add-one n) at (sum_leaves i n), ap f e))

  pub sum_all : (s m : ℕ) → ((i : ℕ) → i < m → f i ≡ s) → sum_below f m ≡ m * s
  unfolding sum_below
  sum_all s zero h = omega arith
  sum_all s (suc m) h = let a = sum_all s m (λ i l. h i (omega arith)) in let b = h m (omega arith) in rw (suc-mul m s) (omega arith)

  pub sum_most : (s m : ℕ) → ((i : ℕ) → i < m → f i ≤ s) → sum_below f m ≤ m * s
  unfolding sum_below
  sum_most s zero h = omega arith
  sum_most s (suc m) h = let a = sum_most s m (λ i l. h i (omega arith)) in let b = h m (omega arith) in rw (suc-mul m s) (omega arith)

  -- a sum is 0 exactly if all that is added is
  pub sum_nothing : (m : ℕ) → ((i : ℕ) → i < m → f i ≡ 0) → sum_below f m ≡ 0
  sum_nothing m h = let e = sum_all 0 m h in omega arith

  pub sum_zero : (m : ℕ) → sum_below f m ≡ 0 → (i : ℕ) → i < m → f i ≡ 0
  unfolding sum_below
  sum_zero zero e i h = absurd (omega arith)
  sum_zero (suc m) e i h = ⊎_elim (λ q. rw q (omega arith)) (λ l. sum_zero m (omega arith) i l) (eq-or-lt_of_le (omega arith))

module _ (f g : ℕ → ℕ) where
  pub sum_as : (m : ℕ) → ((i : ℕ) → i < m → f i ≡ g i) → sum_below f m ≡ sum_below g m
  unfolding sum_below
  sum_as zero h = refl
  sum_as (suc m) h = let a = sum_as m (λ i l. h i (omega arith)) in let b = h m (omega arith) in omega arith

  -- the same counted from the other end of m
  pub sum_reversed : (m : ℕ) → ((i : ℕ) → i < m → g i ≡ f (m - 1 - i)) → (j n : ℕ) → j + n ≤ m → sum_from g j n ≡ sum_from f (m - (j + n)) n
  unfolding sum_below
  sum_reversed m e j zero h = refl
  sum_reversed m e j (suc n) h =
      let i : m - 1 - (j + n) ≡ m - (j + suc n) = omega arith in
      let k : m - (j + n) ≡ m - (j + suc n) + 1 = omega arith in
      omega (arith, sum_reversed m e j n (omega arith), ap (λ (z : ℕ). sum_from f z n) k, e (j + n) (omega arith), ap f i, rw add-one at (sum_leaves f (m - (j + suc n)) n))

  pub sum_add : (m : ℕ) → sum_below (λ i. f i + g i) m ≡ sum_below f m + sum_below g m
  unfolding sum_below
  sum_add zero = refl
  sum_add (suc m) = omega (arith, sum_add m)

-- the order of two sums does not matter
pub sum_swap : (f : ℕ → ℕ → ℕ) (m n : ℕ) → sum_below (λ j. sum_below (λ i. f i j) m) n ≡ sum_below (λ i. sum_below (f i) n) m
unfolding sum_below
sum_swap f zero n = sum_nothing (λ j. 0) n (λ i h. refl)
sum_swap f (suc m) n = sum_add (λ j. sum_below (λ i. f i j) m) (f m) n ∙ ap (λ (s : ℕ). s + sum_below (f m) n) (sum_swap f m n)
