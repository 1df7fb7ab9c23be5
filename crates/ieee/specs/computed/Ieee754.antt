-- Binary64 answers by the logic's own account of IEEE 754 (lib.Ieee), through every table that passes and through the kept one. Of the specification's account it names
-- the answer of a call, `binary64_of`, and three patterns; what patterns stand for, their order, signs and quotients are the logic's.
use Rattle.std.specs.Prelude.{◌≡◌, false, not, cond, List, ◌↔◌, ◌⊎◌, ℕ, ◌/◌, ◌%◌, ◌^◌, ◌≤◌, ◌<◌, length, get_or, pos, T, Float}
use Rattle.std.specs.Float.{nan, inf, fin}
use Rattle.std.specs.Float.Ieee.{le, neg, is_nan}
use Rattle.std.specs.Float.Ieee.Scale.{finite}
use Rattle.std.specs.Float.Ieee.Positive.{num, positive}
use Rattle.selection.specs.Table.{Passes}
use Rattle.selection.specs.computed.Outcomes.{made_table}
use Rattle.division.specs.declared.format.Binary64.{Binary64}
use Rattle.division.specs.Format.{infinity, largest_finite, quiet_nan}
use Rattle.division.specs.computed.Format.{binary64_values}
use Rattle.division.specs.computed.Binary64.{binary64_of}
use Rattle.division.specs.computed.Samples.{samples_of}
use Rattle.ieee.specs.LanguageQuotient.{value_of, one}
use Rattle.ieee.specs.computed.LanguageQuotient.{LanguageQuotient}
use Rattle.ieee.specs.Directions.{sign_in, quotient_sign, AtMostQuotient, AtLeastQuotient, IsQuotient, FiniteOver, Pinned, negated, mirrored}
use Rattle.selection.specs.declared.Estimate.TheVariants.{EightBits}

-- what an answer's pattern stands for
abbrev pub answer_value : List ℕ → ℕ → ℕ → ℕ → Float
answer_value t direction a b = value_of (binary64_of t direction a b).pattern

-- one value is the other with its sign negated, and the flags are the same
pub record Opposite (x y : Binary64) : Type 0 where
  pub value : value_of x.pattern ≡ neg (value_of y.pattern)
  pub flags : x.flags ≡ y.flags

-- a pattern and no flag
abbrev pub unflagged : ℕ → Binary64
unflagged p = binary64_values (record { pattern = p; flags = 0 })

-- the pattern is a not-a-number's, and its top fraction bit is 0
-- § 9.4 A not-a-number gives flag 16 exactly if one operand is signalling.
abbrev pub Signals : ℕ → Type 0
Signals p = (value_of p ≡ nan) × (p / 2 ^ 51 % 2 ≡ 0)

-- the first n patterns of a list are in order: none is greater than a later one
pub record Sorted (n : ℕ) (ps : List ℕ) : Type 0 where
  pub ordered : (i j : ℕ) → i < j → j < n → T (le (value_of (get_or ps i 0)) (value_of (get_or ps j 0)))

-- samples with finite currents and one sensitivity d, finite and above zero
pub record OneSensitivity (d : ℕ) (currents sensitivities : List ℕ) : Type 0 where
  pub above : T (positive (value_of d))
  pub one : (i : ℕ) → i < length currents → get_or sensitivities i 0 ≡ d
  pub currents_finite : (i : ℕ) → i < length currents → T (finite (value_of (get_or currents i 0)))

-- § 9 All of binary64 holds by the logic's own IEEE 754.
pub record IeeeThrough (t : List ℕ) : Type 0 where
  -- in direction 0 the language's own quotient
  pub language : LanguageQuotient t
  -- in every direction, for all operands, what the logic's account asks; and no other pattern is that
  -- § 9.6 In every direction the pattern is that of the logic's own IEEE 754.
  pub pinned : (direction a b : ℕ) → direction ≤ 3 → Pinned direction a b (binary64_of t direction a b).pattern
  -- § 9.6 No other pattern fits.
  pub only : (direction a b p : ℕ) → direction ≤ 3 → Pinned direction a b p → p ≡ (binary64_of t direction a b).pattern
  -- 3, 0, 2 are in order, and 1 is 2 for a negative sign and else 3, flags too
  -- § 9.2 Answers in the directions 3, 0 and 2 are in order; 1 has that of 2 or 3.
  pub ordered : (a b : ℕ) → FiniteOver a b → T (le (answer_value t 3 a b) (answer_value t 0 a b)) × T (le (answer_value t 0 a b) (answer_value t 2 a b))
  -- § 9.2 Answers in the directions 3, 0 and 2 are in order; 1 has that of 2 or 3.
  pub toward_zero : (a b : ℕ) → binary64_of t 1 a b ≡ binary64_of t (cond (quotient_sign (value_of a) (value_of b)) 2 3) a b
  -- no flag exactly where the answer is exact; and an exact quotient that the format holds is the answer
  -- § 9.8 No flag is raised exactly where the answer is exact.
  pub silent : (direction a b : ℕ) → direction ≤ 3 → FiniteOver a b → ((binary64_of t direction a b).flags ≡ 0) ↔ IsQuotient (answer_value t direction a b) (value_of a) (value_of b)
  -- § 9.8 A quotient that the format holds is the answer, so a/1 is a and a/a is 1.
  pub exact : (direction a b q : ℕ) → direction ≤ 3 → FiniteOver a b → q < 2 ^ 64 → IsQuotient (value_of q) (value_of a) (value_of b) → sign_in (value_of q) ≡ quotient_sign (value_of a) (value_of b)
      → binary64_of t direction a b ≡ unflagged q
  -- § 9.8 A quotient that the format holds is the answer, so a/1 is a and a/a is 1.
  pub over_one : (direction a : ℕ) → direction ≤ 3 → a < 2 ^ 64 → T (not (is_nan (value_of a))) → binary64_of t direction a one ≡ unflagged a
  -- § 9.8 A quotient that the format holds is the answer, so a/1 is a and a/a is 1.
  pub over_itself : (direction a : ℕ) → direction ≤ 3 → 0 < num (value_of a) → binary64_of t direction a a ≡ unflagged one
  -- invalid is raised where either operand signals, and a quiet not-a-number alone raises nothing
  -- § 9.4 A not-a-number gives flag 16 exactly if one operand is signalling.
  pub signalling : (direction a b : ℕ) → direction ≤ 3 → Signals a ⊎ Signals b → (binary64_of t direction a b).flags ≡ 16
  -- § 9.4 A not-a-number gives flag 16 exactly if one operand is signalling.
  pub quiet : (direction a b : ℕ) → direction ≤ 3 → (value_of a ≡ nan) ⊎ (value_of b ≡ nan) → (Signals a → ⊥) → (Signals b → ⊥) → (binary64_of t direction a b).flags ≡ 0
  -- negating an operand negates the answer, and exchanges up and down
  -- § 9.2 Negating an operand negates the answer and exchanges the directions 2 and 3.
  pub dividend_negated : (direction a b : ℕ) → direction ≤ 3 → a < 2 ^ 64 → Opposite (binary64_of t direction (negated a) b) (binary64_of t (mirrored direction) a b)
  -- § 9.2 Negating an operand negates the answer and exchanges the directions 2 and 3.
  pub divisor_negated : (direction a b : ℕ) → direction ≤ 3 → b < 2 ^ 64 → Opposite (binary64_of t direction a (negated b)) (binary64_of t (mirrored direction) a b)
  -- bigger stays bigger: over one divisor that is finite and above zero, of two finite dividends the greater never has the smaller answer; `le` counts zeros of either sign as equal
  -- § 9.9 Quotients keep the order of their dividends.
  pub bigger : (direction a b d : ℕ) → direction ≤ 3 → T (finite (value_of a)) → T (finite (value_of b)) → T (positive (value_of d)) → T (le (value_of a) (value_of b))
      → T (le (answer_value t direction a d) (answer_value t direction b d))
  -- so a run of samples keeps the order of its currents
  -- § 9.9 Concentrations by one sensitivity keep the order of the currents.
  pub sorted : (direction d : ℕ) (currents sensitivities given : List ℕ) → direction ≤ 3 → length currents ≡ length sensitivities → length currents ≤ length given
      → OneSensitivity d currents sensitivities → Sorted (length currents) currents → Sorted (length currents) (samples_of t direction currents sensitivities given).concentrations

-- the patterns that have names are what they are named for
pub record NamedPatterns : Type 0 where
  pub one_is : value_of one ≡ fin false 1 (pos 0)
  pub infinity_is : value_of infinity ≡ inf false
  pub quiet_nan_is : value_of quiet_nan ≡ nan
  pub largest_is : T (finite (value_of largest_finite)) × ((p : ℕ) → T (finite (value_of p)) → T (le (value_of p) (value_of largest_finite)))
  pub zeros_level : T (le (value_of 0) (value_of 0x8000_0000_0000_0000)) × T (le (value_of 0x8000_0000_0000_0000) (value_of 0))
  pub negated_is : (p : ℕ) → p < 2 ^ 64 → value_of (negated p) ≡ neg (value_of p)

-- the relations can fail: two neighbours stand on the two sides of 1/3, and of -1/3 the other way round
pub record Thirds : Type 0 where
  pub under : AtMostQuotient (value_of 0x3FD5_5555_5555_5555) (value_of one) (value_of 0x4008_0000_0000_0000)
  pub not_over : AtLeastQuotient (value_of 0x3FD5_5555_5555_5555) (value_of one) (value_of 0x4008_0000_0000_0000) → ⊥
  pub over : AtLeastQuotient (value_of 0x3FD5_5555_5555_5556) (value_of one) (value_of 0x4008_0000_0000_0000)
  pub not_under : AtMostQuotient (value_of 0x3FD5_5555_5555_5556) (value_of one) (value_of 0x4008_0000_0000_0000) → ⊥
  pub minus_under : AtMostQuotient (value_of 0xBFD5_5555_5555_5556) (value_of (negated one)) (value_of 0x4008_0000_0000_0000)
  pub minus_not_under : AtMostQuotient (value_of 0xBFD5_5555_5555_5555) (value_of (negated one)) (value_of 0x4008_0000_0000_0000) → ⊥

-- § 9 All of binary64 holds by the logic's own IEEE 754.
pub record Ieee754 : Type 0 where
  pub named : NamedPatterns
  pub thirds : Thirds
  pub passed : (t : List ℕ) → Passes EightBits t → IeeeThrough t
  pub kept : IeeeThrough (made_table EightBits)
