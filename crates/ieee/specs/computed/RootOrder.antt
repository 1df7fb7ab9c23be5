-- Roots keep the order of their operands, by the logic's own account of IEEE 754 (lib.Ieee).
use Rattle.std.specs.Prelude.{ℕ, ◌≤◌, T, Float}
use Rattle.std.specs.Float.Ieee.{le}
use Rattle.division.specs.computed.RootCalls.{root_binary64_of}
use Rattle.ieee.specs.LanguageQuotient.{value_of}

-- what a root's pattern stands for
abbrev pub root_value : ℕ → ℕ → Float
root_value direction p = value_of (root_binary64_of direction p).pattern

-- in one direction, of two operands that are not below zero the greater never has the smaller root; they may be infinite, and `le` counts zeros of either sign as equal
-- § 12.2 The greater operand never has the smaller root.
pub record RootOrder : Type 0 where
  pub bigger : (direction a b : ℕ) → direction ≤ 3 → T (le (value_of 0) (value_of a)) → T (le (value_of a) (value_of b)) → T (le (root_value direction a) (root_value direction b))
