-- The estimate that a program's argument asks for: 7 or 8, the bits that a divider adds of each remainder word. No argument is 8.
use Rattle.std.specs.Prelude.{◌≡◌, cond, List, [], ℕ, eqb, ltb, length, get_or, Option, Some, None}
use Rattle.selection.specs.declared.Estimate.{Estimate}
use Rattle.selection.specs.declared.Estimate.TheVariants.{SevenBits, EightBits}
use Rattle.printing.specs.Text.{ascii}

-- by the byte of a digit
abbrev pub by_digit : ℕ → Option Estimate
by_digit c = cond (eqb c 55) (Some SevenBits) (cond (eqb c 56) (Some EightBits) None)

-- of so many words on the command line, the program's name among them, and of the bytes of the one after it
-- § 19.1 The argument 7 or 8 chooses the estimate.
abbrev pub asked_by : ℕ → List ℕ → Option Estimate
asked_by words word = cond (ltb words 2) (Some EightBits) (cond (ltb 2 words) None (cond (eqb (length word) 1) (by_digit (get_or word 0 0)) None))

-- § 19.1 The argument 7 or 8 chooses the estimate.
pub record ArgumentExample : Type 0 where
  pub digits : (by_digit 55 ≡ Some SevenBits) × (by_digit 56 ≡ Some EightBits) × (by_digit 57 ≡ None)
  pub none : asked_by 1 [] ≡ Some EightBits
  pub seven : asked_by 2 (ascii "7") ≡ Some SevenBits
  pub eight : asked_by 2 (ascii "8") ≡ Some EightBits
  pub another : asked_by 2 (ascii "9") ≡ None
  pub longer : asked_by 2 (ascii "77") ≡ None
  pub empty : asked_by 2 [] ≡ None
  pub two : asked_by 3 (ascii "7") ≡ None
