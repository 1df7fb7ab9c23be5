-- Words that Calls cites and that no other statement fixes for all arguments, said once more in numbers: a definition of one of them cannot be changed alone, not even at one argument.
use Rattle.std.specs.Prelude.{◌≡◌, Bool, cond, List, [], ◌∷◌, ◌↔◌, ℕ, suc, ◌+◌, ◌-◌, ◌*◌, ◌/◌, ◌%◌, ◌^◌, ◌≤◌, ◌<◌, T, ℤ, pos, negsuc, neg_ℤ, ◌+ℤ◌, ◌-ℤ◌, ◌*ℤ◌, ◌≤ℤ◌, length, get_or}
use Rattle.std.specs.Int.Bits.{bit_xor, bit_and, bit_or}
use Rattle.laws.specs.Lists.{KeptFrom}
use Rattle.laws.specs.Counting.{Tally}
use Rattle.laws.specs.Sums.{sum_below}
use Rattle.selection.specs.Word.{signed, Within}
use Rattle.selection.specs.Cell.{row, column, digit}
use Rattle.selection.specs.Maker.{step_at}
use Rattle.recurrence.specs.CarrySave.{sum3, maj3, multiple, lowest_carry}
use Rattle.recurrence.specs.Recurrence.{value}
use Rattle.division.specs.Format.{magnitude}
use Rattle.division.specs.Recheck.{OperandOf}
use Rattle.selection.specs.declared.Estimate.TheVariants.{SevenBits, EightBits}

-- the byte at column c of a row whose six limits are i0 to i5: -2, -1, 0, 1, 2 and again 0 begin at them
pub record BytesBetween (l : List ℕ) (c i0 i1 i2 i3 i4 i5 : ℕ) : Type 0 where
  pub first : c < i0 → step_at l c ≡ 2
  pub minus_two : i0 ≤ c → c < i1 → step_at l c ≡ 0
  pub minus_one : i0 ≤ c → i1 ≤ c → c < i2 → step_at l c ≡ 1
  pub zero : i0 ≤ c → i1 ≤ c → i2 ≤ c → c < i3 → step_at l c ≡ 2
  pub one : i0 ≤ c → i1 ≤ c → i2 ≤ c → i3 ≤ c → c < i4 → step_at l c ≡ 3
  pub two : i0 ≤ c → i1 ≤ c → i2 ≤ c → i3 ≤ c → i4 ≤ c → c < i5 → step_at l c ≡ 4
  pub last : i0 ≤ c → i1 ≤ c → i2 ≤ c → i3 ≤ c → i4 ≤ c → i5 ≤ c → step_at l c ≡ 2

pub record WordsInNumbers : Type 0 where
  -- words and ranges
  pub not_negative : (n : ℕ) → n < 2 ^ 63 → signed n ≡ pos n
  pub negative : (n : ℕ) → 2 ^ 63 ≤ n → n < 2 ^ 64 → signed n ≡ pos n -ℤ pos (2 ^ 64)
  pub modulo : (n : ℕ) → signed (n + 2 ^ 64) ≡ signed n
  pub within : (k D : ℕ) (z : ℤ) → Within k D z ↔ (((neg_ℤ (pos (k * D))) ≤ℤ z) × (z ≤ℤ (pos (k * D))))
  -- lists and counts
  pub kept : (n : ℕ) (o l : List ℕ) → KeptFrom n o l → (length l ≡ length o) × ((j : ℕ) → n ≤ j → get_or l j 0 ≡ get_or o j 0)
  pub no_sum : (f : ℕ → ℕ) → sum_below f 0 ≡ 0
  pub sum_more : (f : ℕ → ℕ) (n : ℕ) → sum_below f (suc n) ≡ sum_below f n + f n
  pub tally : (f : ℕ → Bool) (m n : ℕ) → Tally (λ k. T (f k)) m n → n ≡ sum_below (λ k. cond (f k) 1 0) m
  -- cells
  pub row_is : (D : ℕ) → row D ≡ D / 2 ^ 56 % 16
  pub column_of_seven : (s k : ℕ) → column SevenBits s k ≡ (s / 2 ^ 57 + k / 2 ^ 57 + 64) % 128
  pub column_of_eight : (s k : ℕ) → column EightBits s k ≡ (s / 2 ^ 56 + k / 2 ^ 56 + 128) % 256 / 2
  pub digits : (digit 0 ≡ negsuc 1) × (digit 1 ≡ negsuc 0) × (digit 2 ≡ pos 0) × (digit 3 ≡ pos 1) × (digit 4 ≡ pos 2)
  pub limits : (l : List ℕ) (c : ℕ) → BytesBetween l c (get_or l 0 0) (get_or l 1 0) (get_or l 2 0) (get_or l 3 0) (get_or l 4 0) (get_or l 5 0)
  -- a step's words, for each digit byte
  pub sum_word : (a b x : ℕ) → sum3 a b x ≡ bit_xor (bit_xor a b) x
  pub carry_word : (a b x : ℕ) → maj3 a b x ≡ bit_or (bit_or (bit_and a b) (bit_and a x)) (bit_and b x)
  pub multiples : (D : ℕ) → (multiple 0 D ≡ 2 * D) × (multiple 1 D ≡ 1 * D) × (multiple 2 D ≡ 0 * D) × (multiple 3 D ≡ 2 ^ 64 - 1 - 1 * D) × (multiple 4 D ≡ 2 ^ 64 - 1 - 2 * D)
  pub carries : (lowest_carry 0 ≡ 0) × (lowest_carry 1 ≡ 0) × (lowest_carry 2 ≡ 0) × (lowest_carry 3 ≡ 1) × (lowest_carry 4 ≡ 1)
  pub no_digits : value [] ≡ pos 0
  pub digits_more : (d : ℕ) (ds : List ℕ) → value (d ∷ ds) ≡ pos (4 ^ length ds) *ℤ digit d +ℤ value ds
  -- the operand of a record's run
  pub operand : (p N : ℕ) → OperandOf p N → (2 ^ 60 ≤ N) × (N < 2 ^ 61) × ((e : ℕ) × (N * 2 ^ e ≡ magnitude p * 2 ^ 60))
