-- What a clause sees of a row's multiples.
use Rattle.std.specs.Prelude.{ℕ}
use Rattle.selection.specs.declared.Estimate.{Estimate}

-- a row of the tables for a divider
pub record TableRow : Type 0 where
  pub estimate : Estimate
  pub row : ℕ
