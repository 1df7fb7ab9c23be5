-- What rounding an exact magnitude to whole units means: the specification, section 9. It is stated once for every operation that rounds.
-- An exact magnitude is given by an increasing scale f and a number m: half a unit taken j times lies at f j, the magnitude at m.
-- A quotient n / u has f j = j * u and m = 2 * n.
use Rattle.std.specs.Prelude.{◌≡◌, ℕ, zero, suc, ◌+◌, ◌-◌, ◌*◌, ◌%◌, ◌<◌, ◌≤◌, Bool, true, false, cond, ◌⊎◌}
use Rattle.division.specs.declared.rounding.Mode.{Mode}
use Rattle.division.specs.declared.rounding.Mode.TheVariants.{Nearest, Toward, Away}

-- direction 0 nearest, 1 toward zero, 2 toward plus infinity, 3 toward minus infinity; true is a negative sign. Above 3, which the calls refuse, it is read as 0
-- § 9.2 Each of four directions rounds in its own way.
abbrev pub mode_of : ℕ → Bool → Mode
mode_of zero s = Nearest
mode_of (suc zero) s = Toward
mode_of (suc (suc zero)) s = cond s Toward Away
mode_of (suc (suc (suc zero))) s = cond s Away Toward
mode_of (suc (suc (suc (suc d)))) s = Nearest

-- the mode is toward zero
abbrev pub points_to_zero : Mode → Bool
points_to_zero Nearest = false
points_to_zero Toward = true
points_to_zero Away = false

-- x units are the exact magnitude rounded
pub record TowardZero (f : ℕ → ℕ) (m x : ℕ) : Type 0 where
  pub under : f (2 * x) ≤ m
  pub next : m < f (2 * x + 2)

pub record AwayFromZero (f : ℕ → ℕ) (m x : ℕ) : Type 0 where
  pub over : m ≤ f (2 * x)
  pub last : 0 < x → f (2 * x - 2) < m

pub record ToNearest (f : ℕ → ℕ) (m x : ℕ) : Type 0 where
  pub above : 0 < x → f (2 * x - 1) ≤ m
  pub below : m ≤ f (2 * x + 1)
  pub even : (m ≡ f (2 * x + 1)) ⊎ ((0 < x) × (m ≡ f (2 * x - 1))) → x % 2 ≡ 0

-- § 9.2 Each of four directions rounds in its own way.
abbrev pub Rounds : Mode → (ℕ → ℕ) → ℕ → ℕ → Type 0
Rounds Nearest f m x = ToNearest f m x
Rounds Toward f m x = TowardZero f m x
Rounds Away f m x = AwayFromZero f m x
