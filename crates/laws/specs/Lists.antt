-- A list by its index: the values of a function, and a lent list whose first places take them and whose rest is kept.
use Rattle.std.specs.Prelude.{◌≡◌, List, [], ◌∷◌, ◌++◌, ℕ, zero, suc, ◌≤◌, ◌<◌, length, get_or, drop}

-- the values of f from i on, n of them
unfoldable pub list_from : {X : Type 0} → (ℕ → X) → ℕ → ℕ → List X
list_from f i zero = []
list_from f i (suc n) = f i ∷ list_from f (suc i) n

-- the values of f at 0 to n - 1, and then the list o from place n on
abbrev pub filled : {X : Type 0} → (ℕ → X) → ℕ → List X → List X
filled f n o = list_from f 0 n ++ drop n o

-- a lent list that held o and then holds l: what it holds beyond its first n places is kept
pub record KeptFrom (n : ℕ) (o l : List ℕ) : Type 0 where
  pub size : length l ≡ length o
  pub rest : (j : ℕ) → n ≤ j → get_or l j 0 ≡ get_or o j 0

-- the same, and its first n places have taken the values of f at 0 to n - 1
pub record FilledWith (f : ℕ → ℕ) (n : ℕ) (o l : List ℕ) : Type 0 where
  pub each : (j : ℕ) → j < n → get_or l j 0 ≡ f j
  pub kept : KeptFrom n o l
