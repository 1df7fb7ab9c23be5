-- Tests that antt computes, and what a passed one says: one test over all entries of a table, and a law that carries it to each.
use Rattle.laws.proofs.Basics.{◌≡◌, refl, subst, sym, Bool, true, false, not, cond, ◌⊎◌, inl, inr, ⊎_elim, List, [], ◌∷◌, ℕ, zero, suc, ◌+◌, ◌<◌, rules, lt-ltb, le-ltb, le-leb, lt-leb, eq-eqb, ne_eqb, ltb, ltb-true, ltb-false, T, length, get_or}
use native.Mathlib.Nat.{add-zero, zero-add, add-suc, suc-add, le_of_suc-le-suc, not-suc-le-zero, not-le_of_lt, eq-or-lt_of_le}

-- what code that climbs a list of tests asks at each way out: `search tests`
pub ruleset tests = (rules, lt-ltb, le-ltb, le-leb, lt-leb, eq-eqb, ne_eqb)

-- a choice by a test, by its two cases
pub by_cond : {X : Type 0} (P : X → Type 0) (c : Bool) (x y : X) → (T c → P x) → (T (not c) → P y) → P (cond c x y)
by_cond P true x y f g = f tt
by_cond P false x y f g = g tt

-- either value of the test will do
pub cond_in : {X : Type 0} (P : X → Type 0) (c : Bool) {x y : X} → P x → P y → P (cond c x y)
cond_in P c p q = by_cond P c _ _ (λ t. p) (λ t. q)

pub is_true : (x : Bool) → T x → x ≡ true
is_true true t = refl
is_true false t = absurd t

pub either : (x : Bool) → (x ≡ true) ⊎ (x ≡ false)
either true = inl refl
either false = inr refl

-- the value b of a test says whether P holds
pub record Decides (P : Type 0) (b : Bool) : Type 0 where
  pub yes : b ≡ true → P
  pub no : b ≡ false → P → ⊥

pub decides_yes : {P : Type 0} → P → Decides P true
decides_yes p = record { yes = λ e. p; no = λ e q. subst T e tt }

pub decides_no : {P : Type 0} → (P → ⊥) → Decides P false
decides_no n = record { yes = λ e. absurd (subst T (sym e) tt); no = λ e. n }

pub less_decides : (a b : ℕ) → Decides (a < b) (ltb a b)
less_decides a b = record { yes = ltb-true a b; no = λ e l. not-le_of_lt l (ltb-false a b e) }

-- equal tests
abbrev pub alike : Bool → Bool → Bool
alike true y = y
alike false y = not y

pub alike_eq : (x y : Bool) → T (alike x y) → x ≡ y
alike_eq true y t = sym (is_true y t)
alike_eq false true t = absurd t
alike_eq false false t = refl

abbrev pub both : Bool → Bool → Bool
both true b = b
both false b = false

pub both_left : (a b : Bool) → T (both a b) → T a
both_left true b t = tt
both_left false b t = t

pub both_right : (a b : Bool) → T (both a b) → T b
both_right true b t = t
both_right false b t = absurd t

-- the test f passes at each number below n
abbrev pub upto : (ℕ → Bool) → ℕ → Bool
upto f zero = true
upto f (suc n) = both (upto f n) (f n)

pub upto_at : (f : ℕ → Bool) (n : ℕ) → T (upto f n) → (k : ℕ) → k < n → T (f k)
upto_at f zero t k h = absurd (not-suc-le-zero h)
upto_at f (suc n) t k h =
    ⊎_elim (λ e. subst (λ (m : ℕ). T (f m)) (sym e) (both_right (upto f n) (f n) t)) (λ l. upto_at f n (both_left (upto f n) (f n) t) k l) (eq-or-lt_of_le (le_of_suc-le-suc h))

-- the test f passes at each entry of the list and its place, counted from i
abbrev pub every : (ℕ → ℕ → Bool) → ℕ → List ℕ → Bool
every f i [] = true
every f i (x ∷ xs) = both (f i x) (every f (suc i) xs)

every_from : (f : ℕ → ℕ → Bool) (xs : List ℕ) (i : ℕ) → T (every f i xs) → (k : ℕ) → k < length xs → T (f (i + k) (get_or xs k 0))
every_from f [] i t k h = absurd (not-suc-le-zero h)
every_from f (x ∷ xs) i t zero h = rw (add-zero i) (both_left (f i x) (every f (suc i) xs) t)
every_from f (x ∷ xs) i t (suc k) h = rw (add-suc i k, ← suc-add i k) (every_from f xs (suc i) (both_right (f i x) (every f (suc i) xs) t) k (le_of_suc-le-suc h))

pub every_at : (f : ℕ → ℕ → Bool) (xs : List ℕ) → T (every f 0 xs) → (k : ℕ) → k < length xs → T (f k (get_or xs k 0))
every_at f xs t k h = rw zero-add at (every_from f xs 0 t k h)
