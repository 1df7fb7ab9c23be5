-- The meaning over a scale, at a quotient's scale, says what the specification says of a/b: exponent, exactness, and what is below 2^-1022.
use Rattle.laws.proofs.Basics.{◌≡◌, ◌↔◌, ℕ, suc, ◌*◌, ◌^◌, ◌≤◌, ◌<◌, arith}
use Rattle.std.proofs.Common.{pow-suc}
use Rattle.division.proofs.Binary64Names.{IsExponent, quotient_scale, quotient_place}

-- x stands for 2 ^ 1022, p for the power of the exponent
span : (a b x p : ℕ) → ((2 ^ 53 * (b * p) ≤ 2 * (a * (x * 2 ^ 52))) ↔ (b * p ≤ a * x)) × ((2 * (a * (x * 2 ^ 52)) < 2 ^ 54 * (b * p)) ↔ (a * x < b * (p * 2)))
span a b x p = omega arith

-- e is E + 1022, for E the largest whole number with 2^E ≤ a/b, or -1022 if that is larger
-- § 9.6 E is the greatest whole number with 2^E ≤ abs(a/b), at least −1022.
pub quotient_exponent : (a b e : ℕ) → IsExponent (quotient_scale b) (quotient_place a) e ↔ ((0 < e → b * 2 ^ e ≤ a * 2 ^ 1022) × (a * 2 ^ 1022 < b * 2 ^ suc e))
quotient_exponent a b e = (
  λ x. (λ p. (span a b (2 ^ 1022) (2 ^ e)).0.0 (x.reached p), rw (pow-suc 2 e) ((span a b (2 ^ 1022) (2 ^ e)).1.0 x.beyond)),
  λ y. record { reached = λ p. (span a b (2 ^ 1022) (2 ^ e)).0.1 (y.0 p); beyond = (span a b (2 ^ 1022) (2 ^ e)).1.1 (rw (pow-suc 2 e) at y.1) },
)

-- K units of 2^(e - 1074) are exactly a/b; y stands for 2 ^ 1074
exact : (a b K p y : ℕ) → (2 * K * (b * p) ≡ 2 * (a * y)) ↔ (K * (b * p) ≡ a * y)
exact a b K p y = (λ h. omega arith, λ h. omega arith)

pub quotient_exact : (a b e K : ℕ) → (quotient_scale b e (2 * K) ≡ quotient_place a) ↔ (K * (b * 2 ^ e) ≡ a * 2 ^ 1074)
quotient_exact a b e K = exact a b K (2 ^ e) (2 ^ 1074)

-- a/b is below 2^-1022
tiny : (a b x : ℕ) → (2 * (a * (x * 2 ^ 52)) < 2 ^ 53 * (b * 1)) ↔ (a * x < b)
tiny a b x = (λ h. omega arith, λ h. omega arith)

pub quotient_tiny : (a b : ℕ) → (quotient_place a < quotient_scale b 0 (2 ^ 53)) ↔ (a * 2 ^ 1022 < b)
quotient_tiny a b = tiny a b (2 ^ 1022)
