-- Roots, worked in numbers: the language has no square root to hold them against.
use Rattle.std.specs.Prelude.{◌≡◌, ℕ}
use Rattle.division.specs.computed.Format.{binary64_values}
use Rattle.division.specs.computed.RootCalls.{root_binary64_of}
use Rattle.division.specs.declared.format.Binary64.{Binary64}

-- a pattern and the sum of flags
abbrev pub answered : ℕ → ℕ → Binary64
answered p f = binary64_values (record { pattern = p; flags = f })

-- the same answer in all four directions
abbrev pub InAll : ℕ → Binary64 → Type 0
InAll p x = (root_binary64_of 0 p ≡ x) × (root_binary64_of 1 p ≡ x) × (root_binary64_of 2 p ≡ x) × (root_binary64_of 3 p ≡ x)

-- § 12.2 Roots are shown in numbers.
pub record RootExamples : Type 0 where
  -- the root of 4 is 2, that of 2^-1074 is 2^-537, both exact
  pub four : InAll 0x4010_0000_0000_0000 (answered 0x4000_0000_0000_0000 0)
  pub least : InAll 1 (answered 0x1E60_0000_0000_0000 0)
  -- the root of 2 lies between two neighbours, nearer to the upper one
  pub nearest : root_binary64_of 0 0x4000_0000_0000_0000 ≡ answered 0x3FF6_A09E_667F_3BCD 1
  pub toward_zero : root_binary64_of 1 0x4000_0000_0000_0000 ≡ answered 0x3FF6_A09E_667F_3BCC 1
  pub upward : root_binary64_of 2 0x4000_0000_0000_0000 ≡ answered 0x3FF6_A09E_667F_3BCD 1
  pub downward : root_binary64_of 3 0x4000_0000_0000_0000 ≡ answered 0x3FF6_A09E_667F_3BCC 1
  -- the root of 3 lies nearer to the lower one
  pub nearest_lower : root_binary64_of 0 0x4008_0000_0000_0000 ≡ answered 0x3FFB_B67A_E858_4CAA 1
  pub upward_farther : root_binary64_of 2 0x4008_0000_0000_0000 ≡ answered 0x3FFB_B67A_E858_4CAB 1
  -- -1, -2^-1074, minus infinity, signalling not-a-numbers of both signs and a quiet one; minus zero and infinity
  pub minus_one : InAll 0xBFF0_0000_0000_0000 (answered 0x7FF8_0000_0000_0000 16)
  pub minus_least : InAll 0x8000_0000_0000_0001 (answered 0x7FF8_0000_0000_0000 16)
  pub minus_infinity : InAll 0xFFF0_0000_0000_0000 (answered 0x7FF8_0000_0000_0000 16)
  pub signalling : InAll 0x7FF0_0000_0000_0001 (answered 0x7FF8_0000_0000_0000 16)
  pub minus_signalling : InAll 0xFFF0_0000_0000_0001 (answered 0x7FF8_0000_0000_0000 16)
  pub quiet : InAll 0xFFF8_0000_0000_0001 (answered 0x7FF8_0000_0000_0000 0)
  pub minus_zero : InAll 0x8000_0000_0000_0000 (answered 0x8000_0000_0000_0000 0)
  pub infinity : InAll 0x7FF0_0000_0000_0000 (answered 0x7FF0_0000_0000_0000 0)
