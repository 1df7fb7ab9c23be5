use Rattle.laws.proofs.Basics.{◌≡◌, ℕ, ◌<◌, [], length, get_or}
use Rattle.selection.specs.Maker.{AreLimits}
use Rattle.selection.proofs.maker.all_limits.Given as goal

abbrev pub invariant-loop-row : goal.invariant-loop-row
invariant-loop-row l = record { size : length l.limits-items ≡ 16; limits : (j : ℕ) → j < l.row → AreLimits l.estimate j (get_or l.limits-items j []) }
