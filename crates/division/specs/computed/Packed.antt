-- Packed numbers: bytes of an answer, what is refused, the answer: the specification, section 13.
use Rattle.std.specs.Prelude.{ℕ, ◌+◌, ◌-◌, ◌*◌, ◌/◌, ◌%◌, ◌^◌, ◌<◌, Bool, cond, ◌||◌, ◌⊎◌, List, [], ◌∷◌, replicate, nat_lt, slice_index, Result, Ok, Err}
use Rattle.laws.specs.Lists.{list_from}
use Rattle.selection.specs.Answer.{refusal}
use Rattle.selection.specs.computed.Answer.{answer_by}
use Rattle.selection.specs.computed.Outcomes.{made_table}
use Rattle.selection.specs.computed.Refusals.{Rule, number, number_first, first_refusal}
use Rattle.selection.specs.declared.Refusal.{Refusal}
use Rattle.division.specs.computed.Whole.{zero_divisor, whole_values, whole_of}
use Rattle.division.specs.declared.whole.WholeResult.{WholeResult}
use Rattle.division.specs.declared.whole.Whole.{Whole}
use Rattle.division.specs.declared.packed.Packed.{Packed}
use Rattle.selection.specs.declared.Estimate.TheVariants.{EightBits}
use Rattle.division.specs.Packed.{packed_number}

-- the byte of two digits, and the eight bytes of a number below 10^16
abbrev pub digits_byte : ℕ → ℕ
digits_byte t = t / 10 * 16 + t % 10

abbrev pub byte_at : ℕ → ℕ → ℕ
byte_at x i = digits_byte (x / 100 ^ (7 - i) % 100)

-- § 13.1 Eight bytes hold sixteen decimal digits, the highest first.
abbrev pub packed_bytes : ℕ → List ℕ
packed_bytes x = list_from (byte_at x) 0 8

-- the byte at the index i counted through dividend and then divisor
abbrev pub operand_byte : List ℕ → List ℕ → ℕ → ℕ
operand_byte xs ys i = cond (nat_lt i 8) (slice_index xs i) (slice_index ys (i - 8))

-- a half byte of it is above 9, and its test
abbrev pub Above9 : ℕ → Type 0
Above9 b = (9 < b / 16) ⊎ (9 < b % 16)

abbrev pub is_above9 : ℕ → Bool
is_above9 b = nat_lt 9 (b / 16) || nat_lt 9 (b % 16)

-- what is refused of the dividend xs and the divisor ys. 15: a half byte is above 9, place: the first such byte's index. 5: the divisor is 0
-- § 13.4 Packed numbers are refused under these rules.
abbrev pub packed_rules : List ℕ → List ℕ → List Rule
packed_rules xs ys = number_first 15 (λ i. Above9 (operand_byte xs ys i)) (λ i. is_above9 (operand_byte xs ys i)) 16 ∷ number 5 (zero_divisor (packed_number ys)) ∷ []

-- number and place of a refusal, and zeros
abbrev pub packed_zeros : Refusal → Packed
packed_zeros f = record { refusal = f; quotient = replicate 8 0; remainder = replicate 8 0 }

-- quotient and remainder of a whole-number division in bytes, and no refusal
abbrev pub packed_values : Whole → Packed
packed_values x = record { refusal = refusal 0 0; quotient = packed_bytes x.quotient; remainder = packed_bytes x.remainder }

-- the answer as C sees it
abbrev pub packed_numbers : Result WholeResult Refusal → Packed
packed_numbers (Ok x) = packed_values (whole_values x)
packed_numbers (Err f) = packed_zeros f

abbrev pub packed_of : List ℕ → List ℕ → Packed
packed_of xs ys = answer_by packed_zeros (packed_values (whole_of (made_table EightBits) (packed_number xs) (packed_number ys))) (first_refusal (packed_rules xs ys))
