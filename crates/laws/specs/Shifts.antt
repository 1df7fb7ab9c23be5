-- Shifts of 64-bit numbers.
use Rattle.std.specs.Prelude.{ℕ, ◌-◌}
use Rattle.std.specs.Int.Count.{count_leading_zeros}

-- the number of places by which b is shifted left for its leading one to stand at bit k
abbrev pub shift_to : ℕ → ℕ → ℕ
shift_to k b = count_leading_zeros 64 b - (63 - k)
