-- Packed decimal numbers: the specification, section 13. Sixteen digits in eight bytes, two a byte, the higher in the high four bits, the first byte highest.
use Rattle.std.specs.Prelude.{◌≡◌, ℕ, zero, suc, ◌+◌, ◌*◌, ◌/◌, ◌%◌, ◌<◌, ◌≤◌, List, length, slice_index}

-- the number of a byte's two digits
abbrev pub two_digits : ℕ → ℕ
two_digits b = b / 16 * 10 + b % 16

-- the number of the first n bytes: that of the bytes before the last, a hundredfold, and the last one's two digits
unfoldable pub number_to : List ℕ → ℕ → ℕ
number_to bs zero = 0
number_to bs (suc n) = number_to bs n * 100 + two_digits (slice_index bs n)

-- § 13.1 Eight bytes hold sixteen decimal digits, the highest first.
abbrev pub packed_number : List ℕ → ℕ
packed_number bs = number_to bs 8

-- no half byte of the first eight bytes is above 9; and a list of eight such bytes
pub record Decimal (bs : List ℕ) : Type 0 where
  pub high : (i : ℕ) → i < 8 → slice_index bs i / 16 ≤ 9
  pub low : (i : ℕ) → i < 8 → slice_index bs i % 16 ≤ 9

-- § 13.1 Eight bytes hold sixteen decimal digits, the highest first.
pub record IsPacked (bs : List ℕ) : Type 0 where
  pub eight : length bs ≡ 8
  pub decimal : Decimal bs
