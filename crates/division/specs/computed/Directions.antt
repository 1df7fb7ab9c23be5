-- The numbers of the directions: the specification, section 9.
use Rattle.std.specs.Prelude.{◌≡◌, ℕ, ◌<◌, Result, MatchResult}
use Rattle.selection.specs.Answer.{refusal}
use Rattle.selection.specs.declared.Refusal.{Refusal}
use Rattle.division.specs.declared.rounding.Direction.{Direction}
use Rattle.division.specs.declared.rounding.Direction.TheVariants.{Nearest, TowardZero, Up, Down}

abbrev pub direction_number : Direction → ℕ
direction_number Nearest = 0
direction_number TowardZero = 1
direction_number Up = 2
direction_number Down = 3

-- the direction with the number n, or refusal 6 where no direction has it
abbrev pub DirectionOf : ℕ → Result Direction Refusal → Type 0
DirectionOf n r = MatchResult r (λ d. direction_number d ≡ n) (λ f. (f ≡ refusal 6 0) × (3 < n))
