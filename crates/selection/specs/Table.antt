-- Tables and their check: the specification, sections 3 and 4. A table is the list of its bytes.
use Rattle.std.specs.Prelude.{◌≡◌, ℕ, ◌/◌, ◌%◌, ◌<◌, ◌≤◌, List, length, ℤ, slice_index, slice_index_or}
use Rattle.selection.specs.Cell.{Allows, Against, digit}
use Rattle.selection.specs.declared.Estimate.{Estimate}

-- 2,048 bytes, each a digit plus 2
-- § 2.1 A table is 2,048 bytes, none above 4.
pub record Table (t : List ℕ) : Type 0 where
  pub size : length t ≡ 2048
  pub digits : (k : ℕ) → slice_index t k ≤ 4

-- in a divider with the estimate E
module _ (E : Estimate) where
  -- a bad cell (the specification's term): byte k, of the cell (k / 128, k % 128), is from 0 to 4 and holds a digit that isn't allowed: there is a witness against it
  -- § 3.4 A cell is bad if its digit is not allowed; a table without one passes.
  pub record BadAt (t : List ℕ) (k : ℕ) : Type 0 where
    pub byte : slice_index_or t k 0 ≤ 4
    pub divisor : ℕ
    pub remainder : ℤ
    pub against : Against E (k / 128) (k % 128) (digit (slice_index t k)) divisor remainder

  -- a table that passes: each cell holds a digit that is allowed
  -- § 3.4 A cell is bad if its digit is not allowed; a table without one passes.
  pub record Passes (t : List ℕ) : Type 0 where
    pub table : Table t
    pub allowed : (k : ℕ) → k < 2048 → Allows E (k / 128) (k % 128) (digit (slice_index t k))
