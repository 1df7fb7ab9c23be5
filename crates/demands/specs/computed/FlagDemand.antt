-- Flags, for all operands: the specification, sections 9.4, 9.5, 9.8 and 12. The language has none to hold them against, but what a pattern stands for is said by the logic's own account of IEEE 754
-- (lib.Ieee): the magnitude of a finite value is num / den.
use Rattle.std.specs.Prelude.{◌≡◌, Bool, true, false, List, ◌⊎◌, ◌↔◌, ℕ, ◌*◌, ◌^◌, ◌≤◌, ◌<◌, T, Float}
use Rattle.std.specs.Float.{nan, inf}
use Rattle.std.specs.Float.Ieee.Scale.{finite}
use Rattle.std.specs.Float.Ieee.Positive.{num, den}
use Rattle.selection.specs.Table.{Passes}
use Rattle.selection.specs.declared.Estimate.TheVariants.{EightBits}
use Rattle.division.specs.computed.Binary64.{binary64_of}
use Rattle.division.specs.computed.RootCalls.{root_binary64_of}
use Rattle.ieee.specs.LanguageQuotient.{value_of}
use Rattle.ieee.specs.Directions.{sign_in, IsQuotient}
use Rattle.ieee.specs.RootDirections.{IsRoot}
use Rattle.ieee.specs.computed.Ieee754.{Signals}

abbrev pub Infinite : Float → Type 0
Infinite x = (s : Bool) × (x ≡ inf s)

-- the sum of flags of a / b, neither of them a not-a-number, beside the answer's pattern
-- § 9.8 Each flag is raised exactly under its condition, for quotients and roots.
pub record QuotientFlags (a b pattern flags : ℕ) : Type 0 where
  -- infinities and zeros: 16 for two of a kind, 8 for another number over zero, else none
  pub infinities : (s u : Bool) → value_of a ≡ inf s → value_of b ≡ inf u → flags ≡ 16
  pub infinity_over : (s : Bool) → value_of a ≡ inf s → T (finite (value_of b)) → flags ≡ 0
  pub over_infinity : (u : Bool) → T (finite (value_of a)) → value_of b ≡ inf u → flags ≡ 0
  pub zeros : T (finite (value_of a)) → num (value_of a) ≡ 0 → T (finite (value_of b)) → num (value_of b) ≡ 0 → flags ≡ 16
  pub over_zero : 0 < num (value_of a) → T (finite (value_of b)) → num (value_of b) ≡ 0 → flags ≡ 8
  pub zero_over : T (finite (value_of a)) → num (value_of a) ≡ 0 → 0 < num (value_of b) → flags ≡ 0
  -- of finite numbers none exactly where the answer is the exact quotient
  pub exact : T (finite (value_of a)) → 0 < num (value_of b) → (flags ≡ 0) ↔ IsQuotient (value_of pattern) (value_of a) (value_of b)
  -- two finite numbers other than zero: none, 1, 3 or 5; 3 is an exact quotient below 2^-1022, before it is rounded, and 1 is one that is not
  pub either : 0 < num (value_of a) → 0 < num (value_of b) → (flags ≡ 0) ⊎ ((flags ≡ 1) ⊎ ((flags ≡ 3) ⊎ (flags ≡ 5)))
  pub tiny : 0 < num (value_of a) → 0 < num (value_of b) → flags ≡ 3 → num (value_of a) * den (value_of b) * 2 ^ 1022 < num (value_of b) * den (value_of a)
  pub not_tiny : 0 < num (value_of a) → 0 < num (value_of b) → flags ≡ 1 → num (value_of b) * den (value_of a) ≤ num (value_of a) * den (value_of b) * 2 ^ 1022
  -- 5 is an exact quotient of 2^1024 or more, or one that is rounded to an infinity
  pub overflow : 0 < num (value_of a) → 0 < num (value_of b) → (flags ≡ 5) ↔ ((num (value_of b) * den (value_of a) * 2 ^ 1024 ≤ num (value_of a) * den (value_of b)) ⊎ Infinite (value_of pattern))

-- the sum of flags of the root of p, beside the answer's pattern
-- § 9.8 Each flag is raised exactly under its condition, for quotients and roots.
pub record RootFlags (p pattern flags : ℕ) : Type 0 where
  pub signalling : Signals p → flags ≡ 16
  pub quiet : value_of p ≡ nan → (Signals p → ⊥) → flags ≡ 0
  pub below_zero : sign_in (value_of p) ≡ true → 0 < num (value_of p) → flags ≡ 16
  pub minus_infinity : value_of p ≡ inf true → flags ≡ 16
  pub infinity : value_of p ≡ inf false → flags ≡ 0
  pub zero : T (finite (value_of p)) → num (value_of p) ≡ 0 → flags ≡ 0
  -- above zero none exactly where the answer is the exact root, else 1
  pub above_zero : sign_in (value_of p) ≡ false → 0 < num (value_of p) → flags ≤ 1
  pub exact : sign_in (value_of p) ≡ false → 0 < num (value_of p) → (flags ≡ 0) ↔ IsRoot (value_of pattern) (value_of p)

-- § 9.8 Each flag is raised exactly under its condition, for quotients and roots.
pub record FlagDemand : Type 0 where
  pub quotient : (t : List ℕ) → Passes EightBits t → (direction a b : ℕ) → direction ≤ 3 → QuotientFlags a b (binary64_of t direction a b).pattern (binary64_of t direction a b).flags
  pub root : (direction p : ℕ) → direction ≤ 3 → RootFlags p (root_binary64_of direction p).pattern (root_binary64_of direction p).flags
