-- What the picture shows of cells: the specification, section 3.
use Rattle.std.specs.Prelude.{◌≡◌, Bool, true, false, List, ℕ, ◌+◌, ◌*◌, ◌/◌, ◌%◌, ◌≤◌, ◌<◌, ℤ, get_or, Option, MatchOption}
use Rattle.selection.specs.Cell.{Point, Against, Allows, digit}
use Rattle.selection.specs.Table.{BadAt}
use Rattle.plot.specs.declared.cells.Cell.{Cell}
use Rattle.selection.specs.declared.Estimate.{Estimate}

-- in a divider with the estimate E
module _ (E : Estimate) where
  -- the cell (r, c) has a point
  pub record HasPoint (r c : ℕ) : Type 0 where
    pub divisor : ℕ
    pub remainder : ℤ
    pub point : Point E r c divisor remainder

  -- there is a witness against the byte b's digit in the cell (r, c)
  pub record Broken (r c b : ℕ) : Type 0 where
    pub divisor : ℕ
    pub remainder : ℤ
    pub against : Against E r c (digit b) divisor remainder

  -- x says whether the digit of the byte b is allowed in the cell (r, c)
  pub record AllowedIs (r c b : ℕ) (x : Bool) : Type 0 where
    pub yes : x ≡ true → Allows E r c (digit b)
    pub no : x ≡ false → Broken r c b

  -- entry b of xs says whether the digit of the byte b is allowed in the cell (r, c)
  pub record AllowedAre (r c : ℕ) (xs : List Bool) : Type 0 where
    pub each : (b : ℕ) → b ≤ 4 → AllowedIs r c b (get_or xs b false)

  -- x says whether the cell (r, c) has a point
  pub record PointIs (r c : ℕ) (x : Bool) : Type 0 where
    pub yes : x ≡ true → HasPoint r c
    pub no : x ≡ false → HasPoint r c → ⊥

  -- what the picture shows of cell k of the table t
  -- § 19.5 `plot` shows each cell's digit and allowed digits, and outlines bad cells.
  pub record Shown (t : List ℕ) (k : ℕ) (x : Cell) : Type 0 where
    pub row : x.place.row ≡ k / 128
    pub column : x.place.column ≡ k % 128
    pub byte : x.byte ≡ get_or t k 0
    pub point : PointIs (k / 128) (k % 128) x.in_range
    pub own : AllowedIs (k / 128) (k % 128) (get_or t k 0) x.good
    pub allowed : AllowedAre (k / 128) (k % 128) x.allowed

  -- in the row r of the table t the cells from the column `from` to before `end` are bad, and the next one, if there is one, is not
  -- § 19.5 `plot` shows each cell's digit and allowed digits, and outlines bad cells.
  pub record BadTo (t : List ℕ) (r from end : ℕ) : Type 0 where
    pub starts : from ≤ end
    pub within : end ≤ 128
    pub bad : (c : ℕ) → from ≤ c → c < end → BadAt E t (128 * r + c)
    pub next : end < 128 → BadAt E t (128 * r + end) → ⊥

  -- in the row r of the table t no cell from the column `from` to before `end` is bad
  abbrev pub NoneBad : List ℕ → ℕ → ℕ → ℕ → Type 0
  NoneBad t r from end = (c : ℕ) → from ≤ c → c < end → BadAt E t (128 * r + c) → ⊥

  -- in the row r of the table t x is the first column from `from` on whose cell is bad
  abbrev pub FirstBad : List ℕ → ℕ → ℕ → Option ℕ → Type 0
  FirstBad t r from x = MatchOption x (NoneBad t r from 128) (λ c. (from ≤ c) × (c < 128) × BadAt E t (128 * r + c) × NoneBad t r from c)

  -- in the row r of the table t the first bad cells from the column c on are those of the row r' from the column `from` to before `end`
  -- § 19.5 `plot` shows each cell's digit and allowed digits, and outlines bad cells.
  pub record NextBad (t : List ℕ) (r c r' from end : ℕ) : Type 0 where
    pub row : r' ≡ r
    pub starts : c ≤ from
    pub before : NoneBad t r c from
    pub some : from < end
    pub bad : BadTo t r from end

-- x says whether the column c is drawn, between 16 and 111; one that is not has no point in any row, whatever the estimate
pub record DrawnIs (c : ℕ) (x : Bool) : Type 0 where
  pub yes : x ≡ true → (16 ≤ c) × (c < 112)
  pub no : x ≡ false → (E : Estimate) (r : ℕ) → r ≤ 15 → HasPoint E r c → ⊥
