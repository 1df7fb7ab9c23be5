-- Binary64 roots by the logic's own account of IEEE 754 (lib.Ieee).
use Rattle.std.specs.Prelude.{◌≡◌, false, ◌↔◌, ℕ, ◌≤◌, ◌<◌}
use Rattle.std.specs.Float.Ieee.Positive.{num}
use Rattle.division.specs.computed.RootCalls.{root_binary64_of}
use Rattle.ieee.specs.LanguageQuotient.{value_of}
use Rattle.ieee.specs.Directions.{sign_in}
use Rattle.ieee.specs.RootDirections.{AtMostRoot, AtLeastRoot, IsRoot, MiddleBelowRoot, MiddleAboveRoot, PinnedRoot}

-- the relations can fail: two neighbours stand on the two sides of the root of 2, and their middle lies below it; the middle of those about the root of 3 lies above
pub record RootsOfTwoAndThree : Type 0 where
  pub under : AtMostRoot (value_of 0x3FF6_A09E_667F_3BCC) (value_of 0x4000_0000_0000_0000)
  pub not_over : AtLeastRoot (value_of 0x3FF6_A09E_667F_3BCC) (value_of 0x4000_0000_0000_0000) → ⊥
  pub over : AtLeastRoot (value_of 0x3FF6_A09E_667F_3BCD) (value_of 0x4000_0000_0000_0000)
  pub not_under : AtMostRoot (value_of 0x3FF6_A09E_667F_3BCD) (value_of 0x4000_0000_0000_0000) → ⊥
  pub middle : MiddleBelowRoot (value_of 0x3FF6_A09E_667F_3BCC) (value_of 0x3FF6_A09E_667F_3BCD) (value_of 0x4000_0000_0000_0000)
  pub middle_of_three : MiddleAboveRoot (value_of 0x3FFB_B67A_E858_4CAA) (value_of 0x3FFB_B67A_E858_4CAB) (value_of 0x4008_0000_0000_0000)

-- § 12.2 In every direction the root's pattern is that of the logic's own IEEE 754.
pub record RootPinned : Type 0 where
  pub two_and_three : RootsOfTwoAndThree
  pub pinned : (direction a : ℕ) → direction ≤ 3 → PinnedRoot direction a (root_binary64_of direction a).pattern
  -- and no other pattern is that
  pub only : (direction a p : ℕ) → direction ≤ 3 → PinnedRoot direction a p → p ≡ (root_binary64_of direction a).pattern
  -- no flag exactly where the root is exact
  pub silent : (direction a : ℕ) → direction ≤ 3 → sign_in (value_of a) ≡ false → 0 < num (value_of a) → ((root_binary64_of direction a).flags ≡ 0) ↔ IsRoot (value_of (root_binary64_of direction a).pattern) (value_of a)
