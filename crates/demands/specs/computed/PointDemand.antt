-- Points of cells by what a divider meets: a divisor of the row, and two words whose column it is. So rows, columns and points are said twice.
use Rattle.std.specs.Prelude.{◌≡◌, ◌↔◌, ℕ, ◌+◌, ◌^◌, ◌≤◌, ◌<◌, ℤ, pos, ◌*ℤ◌}
use Rattle.selection.specs.Word.{signed, Within}
use Rattle.selection.specs.Cell.{Point, row, column}
use Rattle.selection.specs.declared.Estimate.{Estimate}

-- the divisor D and two words that make P meet in the cell (r, c) of a divider with the estimate E
pub record Meets (E : Estimate) (r c D : ℕ) (P : ℤ) : Type 0 where
  pub divisor : (2 ^ 60 ≤ D) × (D < 2 ^ 61)
  pub row : row D ≡ r
  pub sum : ℕ
  pub carry : ℕ
  pub words : (sum < 2 ^ 64) × (carry < 2 ^ 64)
  pub column : column E sum carry ≡ c
  pub remainder : signed (sum + carry) ≡ P
  pub range : Within 8 D (pos 3 *ℤ P)

-- § 3.1 A point has D in the row, P in the column, and −8D ≤ 3P ≤ 8D.
pub record PointDemand : Type 0 where
  pub points : (E : Estimate) (r c D : ℕ) (P : ℤ) → r ≤ 15 → c ≤ 127 → Point E r c D P ↔ Meets E r c D P
