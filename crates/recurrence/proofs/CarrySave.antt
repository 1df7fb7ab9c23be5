-- The sum word and twice the majority word add up to the three words.
use Rattle.laws.proofs.{Basics.{◌≡◌, Bool, ℕ, ◌+◌, ◌*◌, ◌/◌, ◌%◌, ◌^◌, ◌<◌, arith, eqb, eqb→eq}, Tests.{upto, upto_at}}
use lib.{Arith.{bin_ind}, Bits.{bit_and, bit_xor, xor_add_and, xor_shr, and_shr, or_shr, xor_mod, and_mod, or_mod}}
use Rattle.recurrence.specs.CarrySave.{sum3, maj3}

abbrev Adds : ℕ → ℕ → ℕ → Type 0
Adds a b x = sum3 a b x + maj3 a b x * 2 ≡ a + b + x

-- three digits, each 0 or 1
abbrev adds : ℕ → ℕ → ℕ → Bool
adds r s t = eqb (sum3 r s t + maj3 r s t * 2) (r + s + t)

digit3 : (r s t : ℕ) → r < 2 → s < 2 → t < 2 → Adds r s t
digit3 r s t hr hs ht =
    eqb→eq _ _ (upto_at (adds r s) 2 (upto_at (λ s. upto (adds r s) 2) 2 (upto_at (λ r. upto (λ s. upto (adds r s) 2) 2) 2 tt r hr) s hs) t ht)

-- both words work on the k low digits and on the rest apart
module _ (a b x k : ℕ) where
  on_tops : Adds (a / 2 ^ k) (b / 2 ^ k) (x / 2 ^ k) → sum3 a b x / 2 ^ k + maj3 a b x / 2 ^ k * 2 ≡ a / 2 ^ k + b / 2 ^ k + x / 2 ^ k
  on_tops e = simp (xor_shr, and_shr, or_shr) e

  on_lows : Adds (a % 2 ^ k) (b % 2 ^ k) (x % 2 ^ k) → sum3 a b x % 2 ^ k + maj3 a b x % 2 ^ k * 2 ≡ a % 2 ^ k + b % 2 ^ k + x % 2 ^ k
  on_lows e = simp (xor_mod, and_mod, or_mod) e

pub carry_save : (a b x : ℕ) → sum3 a b x + maj3 a b x * 2 ≡ a + b + x
carry_save =
    bin_ind (λ a. (b x : ℕ) → Adds a b x) (λ b x. omega (arith, xor_add_and b x))
    (λ a ih b x. omega (arith, on_tops a b x 1 (ih (b / 2) (x / 2)), on_lows a b x 1 (digit3 (a % 2) (b % 2) (x % 2) (omega arith) (omega arith) (omega arith))))

-- the same of the words without their k low digits
pub tops : (a b x k : ℕ) → sum3 a b x / 2 ^ k + maj3 a b x / 2 ^ k * 2 ≡ a / 2 ^ k + b / 2 ^ k + x / 2 ^ k
tops a b x k = on_tops a b x k (carry_save (a / 2 ^ k) (b / 2 ^ k) (x / 2 ^ k))

-- the majority by one addition
pub majority : (a b x : ℕ) → bit_and a b + bit_and (bit_xor a b) x ≡ maj3 a b x
majority a b x = omega (arith, xor_add_and a b, xor_add_and (bit_xor a b) x, carry_save a b x)
