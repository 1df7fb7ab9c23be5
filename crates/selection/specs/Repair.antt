-- The repair of a table read back: the specification, section 14.
use Rattle.std.specs.Prelude.{◌≡◌, ℕ, ◌<◌, ◌⊎◌, List, slice_index}
use Rattle.selection.specs.Table.{BadAt}
use Rattle.selection.specs.declared.Estimate.{Estimate}

-- two tables differ in cell k
abbrev pub DifferAt : List ℕ → List ℕ → ℕ → Type 0
DifferAt t u k = slice_index t k ≡ slice_index u k → ⊥

-- in a divider with the estimate E
module _ (E : Estimate) where
  -- a faulty cell: a bad one, or a byte above 4
  abbrev pub FaultyAt : List ℕ → ℕ → Type 0
  FaultyAt t k = (4 < slice_index t k) ⊎ BadAt E t k
