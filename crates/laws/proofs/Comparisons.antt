-- Two numbers: what is not below, not at most and not different.
use Rattle.laws.proofs.{Basics.{◌≡◌, ⊎_elim, ℕ, ◌≤◌, ◌<◌, arith}, Division.{le_or_lt}}
use native.Mathlib.Nat.{le_antisymm}

pub not_below : {a b : ℕ} → (a < b → ⊥) → b ≤ a
not_below {a} {b} n = ⊎_elim (λ h. h) (λ h. absurd (n h)) (le_or_lt b a)

pub not_most : {a b : ℕ} → (a ≤ b → ⊥) → b < a
not_most {a} {b} n = ⊎_elim (λ h. absurd (n h)) (λ h. h) (le_or_lt a b)

-- numbers that do not differ
pub equal : (a b : ℕ) → ((a ≡ b → ⊥) → ⊥) → a ≡ b
equal a b n = le_antisymm (not_below (λ l. n (λ e. omega arith))) (not_below (λ l. n (λ e. omega arith)))
