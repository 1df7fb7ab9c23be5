-- Whether a digit is allowed, by the test of its cell. A reader need not believe it: `allows_decides` shows that it says what `Allows` says.
use Rattle.std.specs.Prelude.{ℕ, ◌+◌, ◌*◌, ◌/◌, ◌%◌, Bool, not, ◌||◌, List, nat_lt, slice_index}
use Rattle.selection.specs.computed.CellTest.{multiples_of, allows_by}
use Rattle.selection.specs.declared.Estimate.{Estimate}

-- the tests of a table's byte k: it is above 4
abbrev pub above_four : List ℕ → ℕ → Bool
above_four t k = nat_lt 4 (slice_index t k)

-- in a divider with the estimate E
module _ (E : Estimate) where
  unfoldable pub allows_of : ℕ → ℕ → ℕ → Bool
  allows_of r c b = allows_by (multiples_of E r) c b

  -- its digit is not allowed
  abbrev pub is_bad : List ℕ → ℕ → Bool
  is_bad t k = not (allows_of (k / 128) (k % 128) (slice_index t k))

  -- the column c of the row r
  abbrev pub is_bad_in : List ℕ → ℕ → ℕ → Bool
  is_bad_in t r c = is_bad t (128 * r + c)

  -- it is faulty: above 4, or a bad cell
  abbrev pub is_faulty : List ℕ → ℕ → Bool
  is_faulty t k = above_four t k || is_bad t k
