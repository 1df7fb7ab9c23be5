-- How many numbers pass a test, and how many have a property.
use Rattle.laws.proofs.Basics.{◌≡◌, refl, sym, subst, ◌∙◌, Bool, true, false, cond, ◌⊎◌, ⊎_elim, ◌≢◌, ℕ, zero, suc, ◌+◌, ◌≤◌, ◌<◌, add-one, arith, T}
use Rattle.laws.proofs.{Tests.{by_cond, cond_in, is_true, either, Decides}, Sums.{sum_more, sum_part, sum_most, sum_nothing, sum_zero, sum_as}, Search.{first_below}}
use native.Mathlib.Nat.{add-zero, eq-or-lt_of_le}
use Rattle.laws.specs.{Sums.{sum_below}, Search.{First, first_from}, Counting.{Tally, count_below}, Counting.Tally.{none, one, other}}

-- ---- tests

pub bit_most : (b : Bool) → cond b 1 0 ≤ 1
bit_most b = cond_in (λ n. n ≤ 1) b (omega arith) (omega arith)

module _ (f : ℕ → Bool) where
  pub count_start : count_below f 0 ≡ 0
  unfolding count_below sum_below
  count_start = refl

  pub count_one : (i : ℕ) → f i ≡ true → count_below f (i + 1) ≡ count_below f i + 1
  unfolding count_below
  count_one i e = rw (sum_more (λ k. cond (f k) 1 0) i, e)

  pub count_other : (i : ℕ) → f i ≡ false → count_below f (i + 1) ≡ count_below f i
  unfolding count_below
  count_other i e = rw (sum_more (λ k. cond (f k) 1 0) i, e) (omega arith)

  pub count_most : (m : ℕ) → count_below f m ≤ m
  unfolding count_below
  count_most m = omega (arith, sum_most (λ k. cond (f k) 1 0) 1 m (λ k h. bit_most (f k)))

  -- the first i, and n more
  pub count_part : (i n : ℕ) → count_below f (i + n) ≡ count_below f i + count_below (λ c. f (i + c)) n
  unfolding count_below
  count_part i n = sum_part (λ k. cond (f k) 1 0) i n

  pub count_none : (n : ℕ) → ((k : ℕ) → k < n → f k ≡ true → ⊥) → count_below f n ≡ 0
  unfolding count_below
  count_none n h = sum_nothing _ n (λ k l. by_cond (λ x. x ≡ 0) (f k) 1 0 (λ t. absurd (h k l (is_true (f k) t))) (λ t. refl))

  -- where none is counted, none is the first, and else one is
  first_true : (n : ℕ) → let k = first_from f 0 n in ((k ≡ n) × ((j : ℕ) → j < n → f j ≡ true → ⊥)) ⊎ ((k < n) × First (λ j. f j ≡ true) k)
  first_true n = first_below {P = λ j. f j ≡ true} f n (λ k h. record { yes = λ e. e; no = λ e q. subst T (sym q ∙ e) tt })

  pub none_counted : (n : ℕ) → count_below f n ≡ 0 → first_from f 0 n ≡ n
  unfolding count_below
  none_counted n z = ⊎_elim (λ x. x.0) (λ x. absurd (omega (arith, rw x.1.here at (sum_zero (λ k. cond (f k) 1 0) n z (first_from f 0 n) x.0)))) (first_true n)

  pub some_counted : (n : ℕ) → 0 < count_below f n → first_from f 0 n < n
  some_counted n h = ⊎_elim (λ x. absurd (omega (arith, count_none n x.1))) (λ x. x.0) (first_true n)

-- tests that differ in one number
pub count_more : (f g : ℕ → Bool) (j m : ℕ) → j < m → f j ≡ true → g j ≡ false → ((k : ℕ) → k < m → k ≢ j → f k ≡ g k) → count_below f m ≡ count_below g m + 1
unfolding count_below sum_below
count_more f g j zero h y n e = absurd (omega arith)
count_more f g j (suc m) h y n e =
    ⊎_elim
    (λ q. rw (← q, y, n) (omega (arith, sum_as (λ k. cond (f k) 1 0) (λ k. cond (g k) 1 0) j (λ k l. rw (e k (omega arith) (λ x. omega arith))))))
    (λ l. rw (e m (omega arith) (λ x. omega arith)) (omega (arith, count_more f g j m l y n (λ k i. e k (omega arith)))))
    (eq-or-lt_of_le {n = j} {m = m} (omega arith))

-- ---- properties

pub count_tally : {P : ℕ → Type 0} (f : ℕ → Bool) (m : ℕ) → ((k : ℕ) → k < m → Decides (P k) (f k)) → Tally P m (count_below f m)
unfolding count_below sum_below
count_tally f zero d = none
count_tally f (suc m) d =
    let t = count_tally f m (λ k h. d k (omega arith)) in
    let q = d m (omega arith) in
    ⊎_elim (λ (e : f m ≡ true). rw (e, add-one) (one (q.yes e) t)) (λ (e : f m ≡ false). rw (e, add-zero) (other (q.no e) t)) (either (f m))

-- of properties that say the same
pub tally_as : {P Q : ℕ → Type 0} {m n : ℕ} → ((k : ℕ) → k < m → P k → Q k) → ((k : ℕ) → k < m → Q k → P k) → Tally P m n → Tally Q m n
tally_as f g none = none
tally_as f g (one p x) = one (f _ (omega arith) p) (tally_as (λ k h. f k (omega arith)) (λ k h. g k (omega arith)) x)
tally_as f g (other p x) = other (λ q. p (g _ (omega arith) q)) (tally_as (λ k h. f k (omega arith)) (λ k h. g k (omega arith)) x)

-- where every number that has P has Q, no fewer have Q
pub tally_most : {P Q : ℕ → Type 0} {m i j : ℕ} → ((k : ℕ) → k < m → P k → Q k) → Tally P m i → Tally Q m j → i ≤ j
tally_most f none none = omega arith
tally_most f (one p x) (one q y) = omega (arith, tally_most (λ k h. f k (omega arith)) x y)
tally_most f (one p x) (other q y) = absurd (q (f _ (omega arith) p))
tally_most f (other p x) (one q y) = omega (arith, tally_most (λ k h. f k (omega arith)) x y)
tally_most f (other p x) (other q y) = tally_most (λ k h. f k (omega arith)) x y

-- so a tally has one answer
pub tally_one : {P : ℕ → Type 0} {m i j : ℕ} → Tally P m i → Tally P m j → i ≡ j
tally_one x y = omega (arith, tally_most (λ k h p. p) x y, tally_most (λ k h p. p) y x)

pub tally_nothing : {P : ℕ → Type 0} (m : ℕ) → ((k : ℕ) → k < m → P k → ⊥) → Tally P m 0
tally_nothing zero f = none
tally_nothing (suc m) f = other (f m (omega arith)) (tally_nothing m (λ k h. f k (omega arith)))

pub tally_some : {P : ℕ → Type 0} {m i : ℕ} → Tally P m i → (k : ℕ) → k < m → P k → 0 < i
tally_some none k h d = absurd (omega arith)
tally_some (one p x) k h d = omega arith
tally_some (other p x) k h d = ⊎_elim (λ e. absurd (p (rw (← e) d))) (λ l. tally_some x k l d) (eq-or-lt_of_le (omega arith))
