-- Working definitions of private functions: no public contract cites this file. The mark and the byte of a cell, and what the repair's loop over rows leaves in the two lists.
use Rattle.std.specs.Prelude.{◌≡◌, ℕ, cond, not, ◌||◌, List, ◌==◌, nat_lt, slice_index}
use Rattle.laws.specs.Lists.{filled}
use Rattle.laws.specs.Counting.{count_below}
use Rattle.selection.specs.computed.Allowed.{allows_of, is_faulty}
use Rattle.selection.specs.computed.Outcomes.{repaired_byte, change_mark}
use Rattle.selection.specs.Maker.{step_at}
use Rattle.selection.specs.declared.Estimate.{Estimate}

-- the mark of the byte b at column c of the row r, in a divider with the estimate E; and of the cells of that row
abbrev pub mark_by : Estimate → ℕ → ℕ → ℕ → ℕ
mark_by E r c b = cond (nat_lt 4 b || not (allows_of E r c b)) 1 0

abbrev pub marks_by : Estimate → ℕ → List ℕ → ℕ → ℕ
marks_by E r cells c = mark_by E r c (slice_index cells c)

-- the byte that b becomes under the mark n, in a row with the limits l; and those that the cells become
abbrev pub byte_by : List ℕ → ℕ → ℕ → ℕ → ℕ
byte_by l c b n = cond (n == 0) b (step_at l c)

abbrev pub bytes_by : List ℕ → List ℕ → List ℕ → ℕ → ℕ
bytes_by l cells marks c = byte_by l c (slice_index cells c) (slice_index marks c)

-- in a divider with the estimate E
module _ (E : Estimate) where
  -- the first k cells of t are repaired, in lists that held rs and cs: a holds their bytes, b their marks, and n of them are changed
  pub record RepairedTo (t : List ℕ) (k : ℕ) (rs cs a b : List ℕ) (n : ℕ) : Type 0 where
    pub bytes : a ≡ filled (repaired_byte E t) k rs
    pub marks : b ≡ filled (change_mark E t) k cs
    pub count : n ≡ count_below (is_faulty E t) k
