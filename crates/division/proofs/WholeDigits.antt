-- How many digits a whole-number division takes.
use Rattle.laws.{proofs.Basics.{◌≡◌, refl, ℕ, ◌+◌, ◌-◌, ◌*◌, ◌^◌, ◌≤◌, ◌<◌, arith}, specs.Shifts.{shift_to}}
use lib.Count.{count_leading_zeros, leading_le, leading_length}
use Rattle.division.specs.computed.{WholeSteps.{digits_after, shifted_run, shifted_through}, WholeDigits.{bits, TakesDigits, WholeDigits}}
use Rattle.division.proofs.WholeThrough.{room_above}

bits_least : (a : ℕ) → a < 2 ^ 64 → (a < 2 ^ bits a) × (2 ^ bits a ≤ 2 * a + 1)
bits_least a h =
    let u = leading_length 64 a h in
    let e : u.0 ≡ bits a = omega (arith, u.1) in
    (rw e at u.2, rw e at u.3)

-- the run that the definition cites takes the digits after the first, and it
takes : (a b : ℕ) → TakesDigits a b (digits_after a (shift_to 60 b) + 1)
unfolding shifted_run shifted_through
takes a b =
    let s = shift_to 60 b in
    record { dividend = a * 2 ^ (s - 2 * digits_after a s); divisor = b * 2 ^ s; shift = s; run = λ t. refl; answer = λ t. refl }

-- § 8.2 A division has a digit for every two bits of its quotient, two at most besides.
pub whole_digits : WholeDigits
unfolding count_leading_zeros
whole_digits = record { bits_least = bits_least; few = λ a b h p k. (_, takes a b, omega (arith, (room_above a h).0, leading_le 64 a, leading_le 64 b)); smaller = takes 5 900; window = takes 9000000 900; longest = takes (2 ^ 60 - 1) 1 }
