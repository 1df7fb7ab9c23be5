-- How many numbers below a bound have a property, and how many pass a test.
use Rattle.std.specs.Prelude.{Bool, cond, ℕ, suc}
use Rattle.laws.specs.Sums.{sum_below}

-- n of the numbers below m have the property P
pub data Tally (P : ℕ → Type 0) : ℕ → ℕ → Type 0 where
  none : Tally P 0 0
  one : {m n : ℕ} → P m → Tally P m n → Tally P (suc m) (suc n)
  other : {m n : ℕ} → (P m → ⊥) → Tally P m n → Tally P (suc m) n

-- how many numbers below m pass the test f: a sum of ones
unfoldable pub count_below : (ℕ → Bool) → ℕ → ℕ
count_below f m = sum_below (λ k. cond (f k) 1 0) m
