-- The points of a cell that break a digit, over natural numbers: W is P + 2^63, b is the digit plus 2.
use Rattle.laws.proofs.Basics.{◌⊎◌, ℕ, ◌+◌, ◌*◌, ◌^◌, ◌≤◌, ◌<◌}
use Rattle.selection.specs.{Cell.{span_of}, computed.CellTest.{Finding}, computed.CellTest.Finding.{NoWitness, LeastAt}, declared.Estimate.{Estimate}}

-- 3(P - qD) is below -2D; above 2D
pub record Low (b D W : ℕ) : Type 0 where
  pub less : 3 * (W + D * 2) + 2 * D < 3 * (2 ^ 63 + D * b)

pub record High (b D W : ℕ) : Type 0 where
  pub more : 3 * (2 ^ 63 + D * b) + 2 * D < 3 * (W + D * 2)

-- what a hit says of the breaking points B of a cell
abbrev pub IsLeast : (ℕ → ℕ → Type 0) → Finding → Type 0
IsLeast B NoWitness = (D W : ℕ) → B D W → ⊥
IsLeast B (LeastAt d w) = B d w × ((D W : ℕ) → B D W → d ≤ D) × ((W : ℕ) → B d W → w ≤ W)

module _ (E : Estimate) where
  -- a point of a cell
  pub record BiasedPoint (r c D W : ℕ) : Type 0 where
    pub from : (16 + r) * 2 ^ 56 ≤ D
    pub below : D < (17 + r) * 2 ^ 56
    pub left : c * 2 ^ 57 ≤ W
    pub right : W ≤ c * 2 ^ 57 + span_of E
    pub low : 3 * 2 ^ 63 ≤ 3 * W + 8 * D
    pub high : 3 * W ≤ 3 * 2 ^ 63 + 8 * D

  -- a point of a cell that K says to break the digit: from below, from above, or either
  pub record PointWith (r c : ℕ) (K : ℕ → ℕ → Type 0) (D W : ℕ) : Type 0 where
    pub point : BiasedPoint r c D W
    pub side : K D W

  abbrev pub Breaks : ℕ → ℕ → ℕ → ℕ → ℕ → Type 0
  Breaks r c b = PointWith r c (λ D W. Low b D W ⊎ High b D W)
