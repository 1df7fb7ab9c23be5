-- The five bytes that hold a digit, one by one.
use Rattle.laws.proofs.Basics.{ℕ, zero, suc, ◌≤◌, arith}

-- what holds of 0 to 4 holds of each number up to 4
pub up_to_four : (P : ℕ → Type 0) → P 0 → P 1 → P 2 → P 3 → P 4 → (b : ℕ) → b ≤ 4 → P b
up_to_four P p q r s t zero h = p
up_to_four P p q r s t (suc zero) h = q
up_to_four P p q r s t (suc (suc zero)) h = r
up_to_four P p q r s t (suc (suc (suc zero))) h = s
up_to_four P p q r s t (suc (suc (suc (suc zero)))) h = t
up_to_four P p q r s t (suc (suc (suc (suc (suc b))))) h = absurd (omega arith)
