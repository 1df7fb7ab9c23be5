-- What the picture of visits shows of a cell: the specification, section 15.
use Rattle.std.specs.Prelude.{◌≡◌, List, [], ◌∷◌, ℕ, ◌+◌, ◌/◌, ◌%◌, ◌≤◌, ◌<◌, get_or}
use Rattle.plot.specs.Plot.{PointIs}
use Rattle.plot.specs.declared.visits.Visited.{Visited}
use Rattle.selection.specs.declared.Estimate.TheVariants.{EightBits}

-- from how many visits on a cell has the shade s
abbrev pub shade_from : ℕ → ℕ
shade_from s = get_or (0 ∷ 1 ∷ 8 ∷ 16 ∷ 32 ∷ 64 ∷ 128 ∷ []) s 0

-- s is the shade of n visits: one of 0 to 6
-- § 19.5 `plot` shows visits by number and shade.
pub record ShadeIs (n s : ℕ) : Type 0 where
  pub from : shade_from s ≤ n
  pub last : s ≤ 6
  pub next : s < 6 → n < shade_from (s + 1)

-- what the picture shows of cell k, where v is the list of visits
-- § 19.5 `plot` shows visits by number and shade.
pub record VisitsAt (v : List ℕ) (k : ℕ) (x : Visited) : Type 0 where
  pub row : x.place.row ≡ k / 128
  pub column : x.place.column ≡ k % 128
  pub point : PointIs EightBits (k / 128) (k % 128) x.in_range
  pub visits : x.visits ≡ get_or v k 0
