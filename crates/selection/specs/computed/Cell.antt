-- A single cell's answer: the specification, section 4.
use Rattle.std.specs.Prelude.{ℕ, ◌+◌, ◌*◌, ◌≤◌, List, [], ◌∷◌, Option, Some, None, Result, Ok, Err}
use Rattle.selection.specs.computed.Refusals.{Rule, below, either_of, number, number_at, Wrongs, IsFirstRefusal}
use Rattle.selection.specs.declared.Estimate.{Estimate}
use Rattle.selection.specs.declared.Witness.{Witness}
use Rattle.selection.specs.declared.Refusal.{Refusal}
use Rattle.selection.specs.Cell.{LeastWitness, Allows, digit}

-- a row, a column and a byte that the single-cell call takes
pub record IsCell (r c b : ℕ) : Type 0 where
  pub row : r ≤ 15
  pub column : c ≤ 127
  pub byte : b ≤ 4

-- what a single cell's call refuses: row above 15 or column above 127; a byte above 4, with place 128r + c
-- § 18.1 Each condition has a number and a place.
abbrev pub cell_rules : ℕ → ℕ → ℕ → List Rule
cell_rules r c b = number 1 (either_of (below 15 r) (below 127 c)) ∷ number_at 9 (128 * r + c) (below 4 b) ∷ []

-- in a divider with the estimate E
module _ (E : Estimate) where
  -- what each answer of the single-cell call says
  abbrev pub CellMeaning : ℕ → ℕ → ℕ → Result (Option Witness) Refusal → Type 0
  CellMeaning r c b (Ok None) = IsCell r c b × Allows E r c (digit b)
  CellMeaning r c b (Ok (Some w)) = IsCell r c b × LeastWitness E r c (digit b) w.divisor w.remainder
  CellMeaning r c b (Err f) = IsFirstRefusal (Wrongs (cell_rules r c b)) f.number f.place

  -- v is the answer to the row r, the column c and the byte b
  -- § 4.2 A single cell's digit is allowed, or the least witness is shown.
  pub record CellChecked (r c b : ℕ) (v : Result (Option Witness) Refusal) : Type 0 where
    pub means : CellMeaning r c b v
