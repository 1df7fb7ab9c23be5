-- Whole numbers through a table that passes: the run's digits give a / b and a % b.
use Rattle.laws.{proofs.Basics.{◌≡◌, ◌∙◌, List, ℕ, ◌+◌, ◌-◌, ◌*◌, ◌/◌, ◌%◌, ◌^◌, ◌≤◌, ◌<◌, arith, lit<}, proofs.Division.{scaled}, proofs.Powers.{four_pow, lifted, pow_cancel}, specs.Shifts.{shift_to}}
use Rattle.std.proofs.Common.{mul_assoc, mul-lt-mul_of_pos_right, mul-div_cancel}
use lib.{Count.{count_leading_zeros, leading_length}, Pow.{pow-add, pow_mono, pow_pos}}
use Rattle.selection.specs.{Table.{Passes}, declared.Estimate.{Estimate}}
use Rattle.recurrence.{specs.Recurrence.{Operands, result_of}, specs.computed.Recheck.{exact_result}, proofs.RunDemand.{result_divides}}
use Rattle.division.specs.computed.WholeSteps.{digits_after, shifted_run, shifted_through, whole_through}

-- above a number below 2^60 there are four zeros at least; moved up by all of them but three, or by less, it stays in the dividend's span
pub room_above : (a : ℕ) → a < 2 ^ 60 → (4 ≤ count_leading_zeros 64 a) × ((m : ℕ) → m ≤ shift_to 60 a → a * 2 ^ m < 2 ^ 61)
room_above a h =
    let u = leading_length 64 a (omega arith) in
    let short : u.0 < 61 = pow_cancel (omega (arith, u.3)) in
    (omega (arith, u.1), λ m l. omega (arith, mul-lt-mul_of_pos_right u.2 (pow_pos m), pow-add 2 u.0 m, pow_mono {i = u.0 + m} {j = 61} (omega (arith, u.1))))

-- what the digits after the first leave to the dividend
pub after_bounds : (a s : ℕ) → a < 2 ^ 60 → s ≤ 60 → let k = digits_after a s in (k ≤ 30) × (2 * k ≤ s) × (a * 2 ^ (s - 2 * k) < 2 ^ 61)
after_bounds a s h l =
    let r = room_above a h in
    (omega (arith, r.0), omega (arith, r.0), r.1 (s - 2 * digits_after a s) (omega (arith, r.0)))

-- the operands of the run of a by b
module _ (a b : ℕ) (ha : a < 2 ^ 60) (pb : 0 < b) (hb : b < 2 ^ 60) where
  pub whole_operands : let s = shift_to 60 b in Operands (a * 2 ^ (s - 2 * digits_after a s)) (b * 2 ^ s)
  whole_operands =
      let l = lifted 60 b (lit< tt) pb hb in
      record { dividend = (after_bounds a (shift_to 60 b) ha l.1).2; least = l.2; most = l.3 }

  -- with k + 1 digits a and b are both moved up by s
  pub whole_dividend_law : let s = shift_to 60 b in let k = digits_after a s in a * 2 ^ (s - 2 * k) * 4 ^ (k + 1 - 1) ≡ a * 2 ^ s
  whole_dividend_law =
      let s = shift_to 60 b in
      let k = digits_after a s in
      let i : k + 1 - 1 ≡ k = omega arith in
      let j : s - 2 * k + (k + k) ≡ s = omega (arith, (after_bounds a s ha (lifted 60 b (lit< tt) pb hb).1).1) in
      rw (i, mul_assoc, four_pow k, ← pow-add 2 (s - 2 * k) (k + k), j)

  -- so the right result is a / b and (a % b)·2^s
  pub whole_exact : let s = shift_to 60 b in let k = digits_after a s in
      exact_result (a * 2 ^ (s - 2 * k)) (b * 2 ^ s) (k + 1) ≡ record { quotient = a / b; remainder = a % b * 2 ^ s; count = k + 1 }
  whole_exact =
      let free = scaled a {k = 2 ^ shift_to 60 b} pb (pow_pos (shift_to 60 b)) in
      rw (whole_dividend_law, free.0, free.1)

-- in a divider with the estimate E
module _ (E : Estimate) where
  -- the run of a·2^(s − 2k) by b·2^s, k + 1 digits, gives a / b and (a % b)·2^s
  pub whole_through_law : (t : List ℕ) (a b : ℕ) → Passes E t → a < 2 ^ 60 → 0 < b → b < 2 ^ 60
      → let s = shift_to 60 b in let k = digits_after a s in
      result_of E t (a * 2 ^ (s - 2 * k)) (b * 2 ^ s) (k + 1) ≡ record { quotient = a / b; remainder = a % b * 2 ^ s; count = k + 1 }
  whole_through_law t a b p ha pb hb = result_divides E t _ _ _ p (whole_operands a b ha pb hb) (omega arith) ∙ whole_exact a b ha pb hb

  -- so the call's quotient and remainder are a / b and a % b
  -- § 8.1 Q and R have a = Q·b + R and 0 ≤ R < b.
  pub whole_divides : (t : List ℕ) (a b : ℕ) → Passes E t → a < 2 ^ 60 → 0 < b → b < 2 ^ 60 → whole_through E t a b ≡ record { quotient = a / b; remainder = a % b }
  unfolding shifted_through shifted_run
  whole_divides t a b p ha pb hb = rw (whole_through_law t a b p ha pb hb, mul-div_cancel (a % b) (pow_pos (shift_to 60 b)))
