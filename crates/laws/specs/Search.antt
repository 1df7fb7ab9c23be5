-- The first number with a property, and the first that passes a test.
use Rattle.std.specs.Prelude.{Bool, cond, ℕ, zero, suc, ◌+◌, ◌<◌}

-- k is the first number with the property P
pub record First (P : ℕ → Type 0) (k : ℕ) : Type 0 where
  pub here : P k
  pub before : (j : ℕ) → j < k → P j → ⊥

-- of n numbers from i on, the first that passes the test f; else the number past them
unfoldable pub first_from : (ℕ → Bool) → ℕ → ℕ → ℕ
first_from f i zero = i
first_from f i (suc n) =
    let rest = first_from f (i + 1) n in
    cond (f i) i rest
