-- The significand of a finite pattern that is no zero, moved up until its leading one is bit 60, and what the code asks and gives of it: a step that need not be believed.
use Rattle.std.specs.Prelude.{ℕ, ◌+◌, ◌-◌, ◌*◌, ◌^◌, ◌<◌, ◌≤◌, cond, ◌==◌}
use Rattle.laws.specs.Shifts.{shift_to}
use Rattle.division.specs.Format.{field, fraction}
use Rattle.division.specs.declared.format.Scaled.{Scaled}

-- the significand with its exponent
abbrev pub significand_of : ℕ → Scaled
significand_of p =
    cond (field p == 0)
    (record { sig = fraction p * 2 ^ shift_to 60 (fraction p); exp = 60 - shift_to 60 (fraction p) })
    (record { sig = (2 ^ 52 + fraction p) * 256; exp = field p + 51 })

-- the leading one of sig is bit 60, and exp is that of a finite number
pub record Normalized (x : Scaled) : Type 0 where
  pub low : 2 ^ 60 ≤ x.sig
  pub high : x.sig < 2 ^ 61
  pub small : x.exp ≤ 2097
