-- What is said of one step that is not refused (the specification, section 7), as one statement.
use Rattle.std.specs.Prelude.{◌≡◌, ℕ, ◌+◌, ◌*◌, ◌^◌, ◌<◌, ◌≤◌, List, length, pos, negsuc, ◌*ℤ◌, slice_index}
use Rattle.selection.specs.Answer.{refusal}
use Rattle.selection.specs.Cell.{row, column, digit}
use Rattle.selection.specs.Table.{Passes}
use Rattle.selection.specs.computed.Outcomes.{made_table}
use Rattle.selection.specs.Word.{signed, Within}
use Rattle.recurrence.specs.Recurrence.{Operands}
use Rattle.recurrence.specs.computed.Run.{run_of}
use Rattle.recurrence.specs.computed.Step.{step_of, fed_back}
use Rattle.selection.specs.declared.Estimate.TheVariants.{EightBits}
use Rattle.recurrence.specs.Step.{StepTaken}

-- of n steps that are fed back none is refused, and their digits are the run's: the n bytes that it writes, each less 2
-- § 7.2 Words that are handed in again give the run's digits.
pub record FeedsRun (t : List ℕ) (N D n : ℕ) (b : List ℕ) (place : ℕ) : Type 0 where
  pub done : (i : ℕ) → i < n → (fed_back t N D i).refusal ≡ refusal 0 0
  pub digits : (i : ℕ) → i < n → (fed_back t N D i).digit ≡ digit (slice_index (run_of t N D n b place).buffer (place + i))

-- § 7.2 Words that are handed in again give the run's digits.
pub record StepDemand : Type 0 where
  -- whatever is in the spans is not refused
  pub step : (s k D : ℕ) (t : List ℕ) → Passes EightBits t → 2 ^ 60 ≤ D → D < 2 ^ 61 → Within 8 D (pos 3 *ℤ signed (s + k)) → StepTaken s k D (slice_index t (128 * row D + column EightBits s k)) (step_of s k D t)
  -- which digit and words come depends on the table, what is refused does not
  pub same : (t u : List ℕ) → Passes EightBits t → Passes EightBits u → (s k D : ℕ) → (step_of s k D t).refusal ≡ (step_of s k D u).refusal
  pub feeds : (t : List ℕ) → Passes EightBits t → (N D n : ℕ) (b : List ℕ) (place : ℕ) → Operands N D → 1 ≤ n → n ≤ 28 → place + n ≤ length b → FeedsRun t N D n b place

-- a worked step for each digit, through the made table; all words differ, so that none can stand for another. They were worked out apart from these definitions
-- § 7.1 A step for each digit is worked in numbers.
pub record StepExample : Type 0 where
  pub two : step_of 0x0123456789ABCDEF 0x1FEDCBA987654321 0x1234567890ABCDEF (made_table EightBits)
      ≡ record { refusal = refusal 0 0; digit = pos 2; sum = 0x15677703419BABBC; carry = 0xDD3A197C7D4A290C }
  pub one : step_of 0x0123456789ABCDEF 0x0FEDCBA987654321 0x1234567890ABCDEF (made_table EightBits)
      ≡ record { refusal = refusal 0 0; digit = pos 1; sum = 0x8C149D25866AF378; carry = 0x6F5E4D3C7B2A190C }
  pub zero : step_of 0xFEDCBA9876543210 0x023456789ABCDEF1 0x1234567890ABCDEF (made_table EightBits)
      ≡ record { refusal = refusal 0 0; digit = pos 0; sum = 0xF3A3B383B3A3B384; carry = 0x10A090C090A09080 }
  pub minus_one : step_of 0xE123456789ABCDEF 0x0765432100FEDCBA 0x1FEDCBA987654321 (made_table EightBits)
      ≡ record { refusal = refusal 0 0; digit = negsuc 0; sum = 0xE6AF37BC38C149D0; carry = 0x3B2A190C0F7E6D58 }
  pub minus_two : step_of 0xC123456789ABCDEF 0x1765432100FEDCBA 0x1234567890ABCDEF (made_table EightBits)
      ≡ record { refusal = refusal 0 0; digit = negsuc 1; sum = 0xC8BAAADEA00A2A2C; carry = 0x2B0A2B080FFEEFF0 }
