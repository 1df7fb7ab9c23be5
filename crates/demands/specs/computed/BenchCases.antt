-- The bench cases 1 to 12 (the specification, section 21.5), of the kept table t and so of eight bits; cases 5 and 7 also of seven, by which row 0, column 51 allows -1 alone.
use Rattle.std.specs.Prelude.{◌≡◌, List, [], ◌∷◌, map, ℕ, ◌+◌, ◌*◌, ◌^◌, ℤ, pos, negsuc}
use Rattle.selection.specs.Answer.{refusal}
use Rattle.selection.specs.Cell.{AllowedDigits, LeastWitness, digit, estimate}
use Rattle.selection.specs.Maker.{AreLimits}
use Rattle.recurrence.specs.Recurrence.{residue, after, digits, value, result_of}
use Rattle.division.specs.computed.Whole.{whole_of}
use Rattle.division.specs.computed.Binary64.{binary64_of}
use Rattle.selection.specs.declared.Estimate.TheVariants.{SevenBits, EightBits}

-- the digits of a run, as digits
abbrev pub digits_of : List ℕ → ℕ → ℕ → ℕ → List ℤ
digits_of t N D n = map digit (digits EightBits t N D n)

pub record Case8 (t : List ℕ) : Type 0 where
  pub shown : digits_of t (2 ^ 60) (2 ^ 60) 3 ≡ pos 1 ∷ pos 0 ∷ pos 0 ∷ []
  pub result : result_of EightBits t (2 ^ 60) (2 ^ 60) 3 ≡ record { quotient = 16; remainder = 0; count = 3 }
  -- the second estimate is -1 though P is 0
  pub second_estimate : estimate EightBits (after EightBits t (2 ^ 60) (2 ^ 60) 1).sum (after EightBits t (2 ^ 60) (2 ^ 60) 1).carry ≡ negsuc 0
  pub second_remainder : residue (after EightBits t (2 ^ 60) (2 ^ 60) 1) ≡ pos 0

pub record Case9 (t : List ℕ) : Type 0 where
  pub shown : digits_of t (2 ^ 60) (3 * 2 ^ 59) 3 ≡ pos 1 ∷ negsuc 0 ∷ negsuc 0 ∷ []
  pub total : value (digits EightBits t (2 ^ 60) (3 * 2 ^ 59) 3) ≡ pos 11
  pub result : result_of EightBits t (2 ^ 60) (3 * 2 ^ 59) 3 ≡ record { quotient = 10; remainder = 2 ^ 60; count = 3 }

-- § 21.5 All twelve cases follow from the definitions.
pub record BenchCases (t : List ℕ) : Type 0 where
  pub case1 : AllowedDigits EightBits 0 75 (pos 1 ∷ []) × LeastWitness EightBits 0 75 (pos 2) (33 * 2 ^ 55 + 1) (pos (11 * 2 ^ 57))
  pub case2 : AllowedDigits EightBits 0 76 (pos 2 ∷ [])
  pub case3 : AllowedDigits EightBits 1 76 (pos 1 ∷ pos 2 ∷ [])
  pub case4 : AllowedDigits EightBits 0 67 (pos 0 ∷ pos 1 ∷ [])
  pub case5 : AllowedDigits EightBits 0 50 (negsuc 1 ∷ []) × AllowedDigits EightBits 0 51 (negsuc 1 ∷ negsuc 0 ∷ [])
  pub case5_seven : AllowedDigits SevenBits 0 50 (negsuc 1 ∷ []) × AllowedDigits SevenBits 0 51 (negsuc 0 ∷ [])
  pub case6 : AllowedDigits EightBits 1 87 (pos 2 ∷ []) × AllowedDigits EightBits 1 88 (negsuc 1 ∷ negsuc 0 ∷ pos 0 ∷ pos 1 ∷ pos 2 ∷ [])
  pub case7 : AreLimits EightBits 0 (40 ∷ 51 ∷ 59 ∷ 68 ∷ 76 ∷ 87 ∷ [])
  pub case7_seven : AreLimits SevenBits 0 (40 ∷ 51 ∷ 59 ∷ 68 ∷ 76 ∷ 87 ∷ []) × AreLimits SevenBits 1 (39 ∷ 50 ∷ 59 ∷ 68 ∷ 77 ∷ 88 ∷ []) × AreLimits SevenBits 15 (20 ∷ 39 ∷ 54 ∷ 73 ∷ 88 ∷ 107 ∷ [])
  pub case8 : Case8 t
  pub case9 : Case9 t
  pub case10 : whole_of t 4195835 3145727 ≡ record { refusal = refusal 0 0; quotient = 1; remainder = 1050108 }
  pub case11 : binary64_of t 0 0x3FF0000000000000 0x4008000000000000 ≡ record { refusal = refusal 0 0; pattern = 0x3FD5555555555555; flags = 1 }
  pub case12 : (binary64_of t 0 1 0x4000000000000000 ≡ record { refusal = refusal 0 0; pattern = 0; flags = 3 }) × (binary64_of t 2 1 0x4000000000000000 ≡ record { refusal = refusal 0 0; pattern = 1; flags = 3 })
