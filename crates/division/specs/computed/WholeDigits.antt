-- How many digits a whole-number division takes: the specification, section 8.2.
use Rattle.std.specs.Prelude.{◌≡◌, ℕ, ◌+◌, ◌-◌, ◌*◌, ◌/◌, ◌^◌, ◌<◌, ◌≤◌, List}
use Rattle.std.specs.Int.Count.{count_leading_zeros}
use Rattle.recurrence.specs.Recurrence.{result_of}
use Rattle.division.specs.computed.WholeSteps.{whole_run, whole_through}
use Rattle.selection.specs.declared.Estimate.TheVariants.{EightBits}

-- how many bits a number below 2^64 has; 0 has none
abbrev pub bits : ℕ → ℕ
bits a = 64 - count_leading_zeros 64 a

-- a is divided by b in one run of n digits, whatever the table: quotient and remainder are the run's, the remainder moved down. (Tables that do not pass are among
-- them, and through these a run of another number of digits answers otherwise.)
-- § 8.2 A division has a digit for every two bits of its quotient, two at most besides.
pub record TakesDigits (a b n : ℕ) : Type 0 where
  pub dividend : ℕ
  pub divisor : ℕ
  pub shift : ℕ
  pub run : (t : List ℕ) → whole_run EightBits t a b ≡ result_of EightBits t dividend divisor n
  pub answer : (t : List ℕ) → whole_through EightBits t a b ≡ record { quotient = (whole_run EightBits t a b).quotient; remainder = (whole_run EightBits t a b).remainder / 2 ^ shift }

-- § 8.2 A division has a digit for every two bits of its quotient, two at most besides.
pub record WholeDigits : Type 0 where
  -- a is below 2^(bits a), and below no smaller power of two
  pub bits_least : (a : ℕ) → a < 2 ^ 64 → (a < 2 ^ bits a) × (2 ^ bits a ≤ 2 * a + 1)
  -- a digit for every two bits by which a is longer than b, and two at most besides
  pub few : (a b : ℕ) → a < 2 ^ 60 → 0 < b → b < 2 ^ 60 → (n : ℕ) × TakesDigits a b n × (n ≤ (bits a - bits b) / 2 + 2)
  -- a small number by a larger one; the sum of fifteen minutes by 900, its mean 10,000; the longest quotient
  pub smaller : TakesDigits 5 900 1
  pub window : TakesDigits 9000000 900 8
  pub longest : TakesDigits (2 ^ 60 - 1) 1 31
