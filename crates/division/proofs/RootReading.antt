-- The meaning over a scale, at a root's scale, says what it should of the root of a magnitude a, whose square is a·2^1074 square units of 2^-1074: exponent and exactness.
use Rattle.laws.proofs.{Basics.{◌≡◌, ◌∙◌, ◌↔◌, ℕ, ◌*◌, ◌^◌, ◌≤◌, ◌<◌, arith}, Powers.{four_pow}}
use Rattle.std.proofs.Common.{pow-add}
use Rattle.division.proofs.Binary64Names.{IsExponent, root_scale, root_place}

squared : (e : ℕ) → 4 ^ e ≡ 2 ^ e * 2 ^ e
squared e = four_pow e ∙ pow-add 2 e e

-- x stands for the power of the exponent, y for 2 ^ 1074
span : (a x y : ℕ) → ((2 ^ 53 * 2 ^ 53 * (x * x) ≤ 4 * (a * y)) ↔ (2 ^ 52 * x * (2 ^ 52 * x) ≤ a * y)) × ((4 * (a * y) < 2 ^ 54 * 2 ^ 54 * (x * x)) ↔ (a * y < 2 ^ 53 * x * (2 ^ 53 * x)))
span a x y = omega arith

-- e is E + 1022, for E the largest whole number with 2^E at most the root, or -1022 if that is larger; 2^E is 2^52 units of 2^(e - 1074)
pub root_exponent : (a e : ℕ) → IsExponent root_scale (root_place a) e ↔ ((0 < e → 2 ^ 52 * 2 ^ e * (2 ^ 52 * 2 ^ e) ≤ a * 2 ^ 1074) × (a * 2 ^ 1074 < 2 ^ 53 * 2 ^ e * (2 ^ 53 * 2 ^ e)))
root_exponent a e = (
  λ x. (λ p. (span a (2 ^ e) (2 ^ 1074)).0.0 (rw (squared e) at (x.reached p)), (span a (2 ^ e) (2 ^ 1074)).1.0 (rw (squared e) at x.beyond)),
  λ y. record { reached = λ p. rw (squared e) ((span a (2 ^ e) (2 ^ 1074)).0.1 (y.0 p)); beyond = rw (squared e) ((span a (2 ^ e) (2 ^ 1074)).1.1 y.1) },
)

-- K units of 2^(e - 1074) are exactly the root
exact : (a K x y : ℕ) → (2 * K * (2 * K) * (x * x) ≡ 4 * (a * y)) ↔ (K * x * (K * x) ≡ a * y)
exact a K x y = (λ h. omega arith, λ h. omega arith)

-- § 12.2 The binary64 root is rounded once, and special operands have their answers.
pub root_exact : (a e K : ℕ) → (root_scale e (2 * K) ≡ root_place a) ↔ (K * 2 ^ e * (K * 2 ^ e) ≡ a * 2 ^ 1074)
root_exact a e K = rw (squared e) (exact a K (2 ^ e) (2 ^ 1074))
