-- Flags of quotients, worked in numbers: the language has none to hold them against.
use Rattle.std.specs.Prelude.{◌≡◌, List, ℕ}
use Rattle.selection.specs.Table.{Passes}
use Rattle.division.specs.computed.Binary64.{binary64_of}
use Rattle.division.specs.declared.format.Binary64.{Binary64}
use Rattle.demands.specs.computed.RootExamples.{answered}
use Rattle.selection.specs.declared.Estimate.TheVariants.{EightBits}

-- the same answer in all four directions
abbrev pub InAll : List ℕ → ℕ → ℕ → Binary64 → Type 0
InAll t a b x = (binary64_of t 0 a b ≡ x) × (binary64_of t 1 a b ≡ x) × (binary64_of t 2 a b ≡ x) × (binary64_of t 3 a b ≡ x)

pub record FlagsThrough (t : List ℕ) : Type 0 where
  -- 2^1023 over 1/4 is 2^1025: overflow and inexact; infinity, or the largest finite number toward zero and downward
  pub overflow : (binary64_of t 0 0x7FE0_0000_0000_0000 0x3FD0_0000_0000_0000 ≡ answered 0x7FF0_0000_0000_0000 5)
      × (binary64_of t 1 0x7FE0_0000_0000_0000 0x3FD0_0000_0000_0000 ≡ answered 0x7FEF_FFFF_FFFF_FFFF 5)
      × (binary64_of t 2 0x7FE0_0000_0000_0000 0x3FD0_0000_0000_0000 ≡ answered 0x7FF0_0000_0000_0000 5)
      × (binary64_of t 3 0x7FE0_0000_0000_0000 0x3FD0_0000_0000_0000 ≡ answered 0x7FEF_FFFF_FFFF_FFFF 5)
  -- 2^-1022 over 3: underflow and inexact
  pub underflow : (binary64_of t 0 0x0010_0000_0000_0000 0x4008_0000_0000_0000 ≡ answered 0x0005_5555_5555_5555 3)
      × (binary64_of t 2 0x0010_0000_0000_0000 0x4008_0000_0000_0000 ≡ answered 0x0005_5555_5555_5556 3)
  -- 2^-1021 less one unit, over 2, lies below 2^-1022 and is rounded to it: underflow, since that is judged before rounding
  pub rounds_up : (binary64_of t 0 0x001F_FFFF_FFFF_FFFF 0x4000_0000_0000_0000 ≡ answered 0x0010_0000_0000_0000 3)
      × (binary64_of t 1 0x001F_FFFF_FFFF_FFFF 0x4000_0000_0000_0000 ≡ answered 0x000F_FFFF_FFFF_FFFF 3)
  -- 1 and -1 over 0: division by zero alone
  pub by_zero : InAll t 0x3FF0_0000_0000_0000 0 (answered 0x7FF0_0000_0000_0000 8)
  pub minus_by_zero : InAll t 0xBFF0_0000_0000_0000 0 (answered 0xFFF0_0000_0000_0000 8)
  -- 0 over 0: invalid alone
  pub invalid : InAll t 0 0 (answered 0x7FF8_0000_0000_0000 16)
  -- infinity over 0 and over -1 raises nothing, nor does 1 over minus infinity; infinity over infinity: invalid alone
  pub infinity_by_zero : InAll t 0x7FF0_0000_0000_0000 0 (answered 0x7FF0_0000_0000_0000 0)
  pub infinity_by_one : InAll t 0x7FF0_0000_0000_0000 0xBFF0_0000_0000_0000 (answered 0xFFF0_0000_0000_0000 0)
  pub one_by_infinity : InAll t 0x3FF0_0000_0000_0000 0xFFF0_0000_0000_0000 (answered 0x8000_0000_0000_0000 0)
  pub infinities : InAll t 0x7FF0_0000_0000_0000 0x7FF0_0000_0000_0000 (answered 0x7FF8_0000_0000_0000 16)

-- § 9.3 Flags are shown in numbers.
pub record FlagExamples : Type 0 where
  pub passed : (t : List ℕ) → Passes EightBits t → FlagsThrough t
