-- In direction 0 every answer is the language's own quotient.
use Rattle.std.specs.Prelude.{◌≡◌, List, ℕ, T, Float}
use Rattle.std.specs.Float.{binary64}
use Rattle.std.specs.Float.Ieee.{div, fits, to_bits}
use Rattle.division.specs.computed.Binary64.{binary64_of}
use Rattle.ieee.specs.LanguageQuotient.{language_quotient, value_of}

-- of the answers through the table t
-- § 9.6 To nearest, the answer is the language's own quotient.
pub record LanguageQuotient (t : List ℕ) : Type 0 where
  -- of all patterns, not-a-numbers too
  pub nearest : (a b : ℕ) → (binary64_of t 0 a b).pattern ≡ language_quotient a b
  -- of all values that the format holds
  pub values : (x y : Float) → T (fits binary64 x) → T (fits binary64 y) → value_of (binary64_of t 0 (to_bits binary64 x) (to_bits binary64 y)).pattern ≡ div binary64 x y
