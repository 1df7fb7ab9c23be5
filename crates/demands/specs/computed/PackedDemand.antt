-- Packed decimal numbers are divided rightly: the specification, section 13. What is refused is said in demand 1.
use Rattle.std.specs.Prelude.{◌≡◌, List, [], ◌∷◌, ℕ, ◌+◌, ◌*◌, ◌/◌, ◌%◌, ◌^◌, ◌<◌}
use Rattle.selection.specs.Answer.{refusal}
use Rattle.selection.specs.computed.Outcomes.{made_table}
use Rattle.division.specs.computed.Whole.{whole_of}
use Rattle.division.specs.Packed.{packed_number, IsPacked}
use Rattle.division.specs.computed.Packed.{packed_bytes, packed_of}
use Rattle.division.specs.declared.packed.Packed.{Packed}
use Rattle.selection.specs.declared.Estimate.TheVariants.{EightBits}

-- x has one set of bytes
-- § 13.3 Bytes come back from their number, and each number has one set of bytes.
pub record OnePacked (x : ℕ) : Type 0 where
  pub packed : IsPacked (packed_bytes x)
  pub number : packed_number (packed_bytes x) ≡ x
  pub only : (bs : List ℕ) → IsPacked bs → packed_number bs ≡ x → bs ≡ packed_bytes x

-- the answer is no refusal; a = Q·b + R with R below b for the numbers of its quotient and its remainder, and for no other bytes
-- § 13.2 Packed numbers are divided, and no other bytes fit.
pub record DividesPacked (xs ys : List ℕ) (x : Packed) : Type 0 where
  pub done : x.refusal ≡ refusal 0 0
  pub quotient : IsPacked x.quotient
  pub remainder : IsPacked x.remainder
  pub equation : packed_number xs ≡ packed_number x.quotient * packed_number ys + packed_number x.remainder
  pub below : packed_number x.remainder < packed_number ys
  pub only : (qs rs : List ℕ) → IsPacked qs → IsPacked rs → packed_number xs ≡ packed_number qs * packed_number ys + packed_number rs → packed_number rs < packed_number ys
      → (qs ≡ x.quotient) × (rs ≡ x.remainder)

-- examples in numbers
-- § 13.2 Packed divisions are shown in numbers.
pub record PackedExamples : Type 0 where
  -- the first byte is the highest, and of a byte the high four bits
  pub number : packed_number (0x98 ∷ 0x76 ∷ 0x54 ∷ 0x32 ∷ 0x10 ∷ 0x12 ∷ 0x34 ∷ 0x56 ∷ []) ≡ 9876543210123456
  -- 9876543210123456 = 1290322578 · 7654321 + 4563918
  pub divided : packed_of (0x98 ∷ 0x76 ∷ 0x54 ∷ 0x32 ∷ 0x10 ∷ 0x12 ∷ 0x34 ∷ 0x56 ∷ []) (0 ∷ 0 ∷ 0 ∷ 0 ∷ 0x07 ∷ 0x65 ∷ 0x43 ∷ 0x21 ∷ [])
      ≡ record { refusal = refusal 0 0; quotient = 0 ∷ 0 ∷ 0 ∷ 0x12 ∷ 0x90 ∷ 0x32 ∷ 0x25 ∷ 0x78 ∷ []; remainder = 0 ∷ 0 ∷ 0 ∷ 0 ∷ 0x04 ∷ 0x56 ∷ 0x39 ∷ 0x18 ∷ [] }
  -- a low half byte of the dividend, a high one of the divisor, each in its first byte; and both operands 0
  pub dividend : packed_of (0x0A ∷ 0 ∷ 0 ∷ 0 ∷ 0 ∷ 0 ∷ 0 ∷ 0 ∷ []) (0 ∷ 0 ∷ 0 ∷ 0 ∷ 0 ∷ 0 ∷ 0 ∷ 0 ∷ []) ≡ record { refusal = refusal 15 0; quotient = 0 ∷ 0 ∷ 0 ∷ 0 ∷ 0 ∷ 0 ∷ 0 ∷ 0 ∷ []; remainder = 0 ∷ 0 ∷ 0 ∷ 0 ∷ 0 ∷ 0 ∷ 0 ∷ 0 ∷ [] }
  pub divisor : packed_of (0 ∷ 0 ∷ 0 ∷ 0 ∷ 0 ∷ 0 ∷ 0 ∷ 0 ∷ []) (0xA0 ∷ 0 ∷ 0 ∷ 0 ∷ 0 ∷ 0 ∷ 0 ∷ 0 ∷ []) ≡ record { refusal = refusal 15 8; quotient = 0 ∷ 0 ∷ 0 ∷ 0 ∷ 0 ∷ 0 ∷ 0 ∷ 0 ∷ []; remainder = 0 ∷ 0 ∷ 0 ∷ 0 ∷ 0 ∷ 0 ∷ 0 ∷ 0 ∷ [] }
  pub by_zero : packed_of (0 ∷ 0 ∷ 0 ∷ 0 ∷ 0 ∷ 0 ∷ 0 ∷ 0 ∷ []) (0 ∷ 0 ∷ 0 ∷ 0 ∷ 0 ∷ 0 ∷ 0 ∷ 0 ∷ []) ≡ record { refusal = refusal 5 0; quotient = 0 ∷ 0 ∷ 0 ∷ 0 ∷ 0 ∷ 0 ∷ 0 ∷ 0 ∷ []; remainder = 0 ∷ 0 ∷ 0 ∷ 0 ∷ 0 ∷ 0 ∷ 0 ∷ 0 ∷ [] }

-- what a byte with the half bytes h and l counts
abbrev pub two : ℕ → ℕ
two b = 10 * (b / 16) + b % 16

-- § 13.2 Packed numbers are divided, and no other bytes fit.
pub record PackedDemand : Type 0 where
  -- whatever the eight bytes, the first one counts most
  pub number_is : (a b c d e f g h : ℕ) → packed_number (a ∷ b ∷ c ∷ d ∷ e ∷ f ∷ g ∷ h ∷ [])
      ≡ 10 ^ 14 * two a + 10 ^ 12 * two b + 10 ^ 10 * two c + 10 ^ 8 * two d + 10 ^ 6 * two e + 10 ^ 4 * two f + 10 ^ 2 * two g + two h
  -- eight bytes without a half byte above 9, turned to a number and back, are the same bytes
  pub back : (bs : List ℕ) → IsPacked bs → packed_bytes (packed_number bs) ≡ bs
  -- their numbers are below 10^16, and every number below 10^16 has one set of bytes
  pub below : (bs : List ℕ) → IsPacked bs → packed_number bs < 10 ^ 16
  pub one : (x : ℕ) → x < 10 ^ 16 → OnePacked x
  -- for all operands that no refusal names: 15, 5
  pub divides : (xs ys : List ℕ) → IsPacked xs → IsPacked ys → 0 < packed_number ys → DividesPacked xs ys (packed_of xs ys)
  -- whole-number division refuses nothing of their numbers: 10^16 is below 2^60, so that 4 never arises
  pub room : 10 ^ 16 < 2 ^ 60
  pub admitted : (xs ys : List ℕ) → IsPacked xs → IsPacked ys → 0 < packed_number ys → (whole_of (made_table EightBits) (packed_number xs) (packed_number ys)).refusal ≡ refusal 0 0
  pub examples : PackedExamples
