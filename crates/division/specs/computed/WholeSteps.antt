-- Whole-number division through a table, step by step. Through a table that passes no step need be believed: `whole_through_law` and `whole_divides` show that they give a / b and a % b.
-- Of a burned table they say what a divider does, and the recheck's claims rest on them.
use Rattle.std.specs.Prelude.{◌≡◌, ℕ, ◌+◌, ◌-◌, ◌*◌, ◌/◌, ◌^◌, ◌<◌, ◌≤◌, List}
use Rattle.laws.specs.Shifts.{shift_to}
use Rattle.recurrence.specs.Recurrence.{result_of}
use Rattle.recurrence.specs.declared.RunResult.{RunResult}
use Rattle.division.specs.declared.whole.WholeResult.{WholeResult}
use Rattle.division.specs.declared.whole.WholeRun.{WholeRun}
use Rattle.selection.specs.declared.Estimate.{Estimate}

-- the operands of a division
pub record WholeSpans (a b : ℕ) : Type 0 where
  pub dividend : a < 2 ^ 60
  pub some : 0 < b
  pub divisor : b < 2 ^ 60

-- how many digits follow the first, where the divisor is moved up by s bits: each of them brings two of the s, and a is moved up by the rest, to bit 60 at most
-- § 8.2 The run of a division has these operands and this number of digits.
abbrev pub digits_after : ℕ → ℕ → ℕ
digits_after a s = (s - shift_to 60 a + 1) / 2

-- s moves the divisor b up into its span
pub record DivisorShift (b s : ℕ) : Type 0 where
  pub is : s ≡ shift_to 60 b
  pub small : s ≤ 60
  pub least : 2 ^ 60 ≤ b * 2 ^ s
  pub most : b * 2 ^ s < 2 ^ 61

-- k digits follow the first, and they leave the dividend a in its span
pub record DigitCount (a s k : ℕ) : Type 0 where
  pub is : k ≡ digits_after a s
  pub few : k ≤ 30
  pub within : 2 * k ≤ s
  pub dividend : a * 2 ^ (s - 2 * k) < 2 ^ 61

-- the run of a by b is that of `whole_run`
pub record WholeRunOf (a b : ℕ) (x : WholeRun) : Type 0 where
  pub shift : DivisorShift b x.shift
  pub dividend : x.division.dividend ≡ a * 2 ^ (x.shift - 2 * digits_after a x.shift)
  pub divisor : x.division.divisor ≡ b * 2 ^ x.shift
  pub digits : x.digits.count ≡ digits_after a x.shift + 1

-- in a divider with the estimate E
module _ (E : Estimate) where
  -- the run of a by a divisor that has been moved up by s bits to d, in the divisor's span: a is moved up by the bits that the digits after the first do not bring
  unfoldable pub shifted_run : List ℕ → ℕ → ℕ → ℕ → RunResult
  shifted_run t a d s = let k = digits_after a s in result_of E t (a * 2 ^ (s - 2 * k)) d (k + 1)

  -- its quotient, and its remainder moved down again
  unfoldable pub shifted_through : List ℕ → ℕ → ℕ → ℕ → WholeResult
  shifted_through t a d s = record { quotient = (shifted_run t a d s).quotient; remainder = (shifted_run t a d s).remainder / 2 ^ s }

  -- the run of a by b, its digits those of the table t
  -- § 8.2 The run of a division has these operands and this number of digits.
  abbrev pub whole_run : List ℕ → ℕ → ℕ → RunResult
  whole_run t a b = shifted_run t a (b * 2 ^ shift_to 60 b) (shift_to 60 b)

  -- a by b, the quotient by the digits of the table t
  abbrev pub whole_through : List ℕ → ℕ → ℕ → WholeResult
  whole_through t a b = shifted_through t a (b * 2 ^ shift_to 60 b) (shift_to 60 b)
