-- Numbers modulo n.
use Rattle.laws.proofs.Basics.{◌≡◌, sym, ap, ◌∙◌, ℕ, ◌+◌, ◌*◌, ◌/◌, ◌%◌, arith}
use native.Mathlib.Nat.{mod-add-div', add-mul-mod_self_right}

-- equal but for multiples of n
pub same_mod : (x y n j k : ℕ) → x + j * n ≡ y + k * n → x % n ≡ y % n
same_mod x y n j k e = sym (add-mul-mod_self_right x j n) ∙ ap (λ (z : ℕ). z % n) e ∙ add-mul-mod_self_right y k n

-- a sum of remainders may be taken before it wraps
pub mod_sum : (p q h m : ℕ) → (p % m + q % m + h) % m ≡ (p + q + h) % m
mod_sum p q h m = same_mod _ _ m (p / m + q / m) 0 (omega (arith, mod-add-div' p m, mod-add-div' q m))
