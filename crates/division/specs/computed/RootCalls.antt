-- Roots as a caller sees them: the specification, section 12.
use Rattle.std.specs.Prelude.{ℕ, ◌-◌, ◌*◌, List, [], ◌∷◌}
use Rattle.selection.specs.Answer.{refusal}
use Rattle.selection.specs.computed.Answer.{answer_by}
use Rattle.selection.specs.computed.Refusals.{Rule, number, first_refusal}
use Rattle.division.specs.computed.Whole.{large_operand}
use Rattle.selection.specs.declared.Refusal.{Refusal}
use Rattle.division.specs.computed.Format.{direction_rules, binary64_zeros, binary64_values}
use Rattle.division.specs.computed.RootSteps.{whole_root, root_of}
use Rattle.division.specs.declared.format.Binary64.{Binary64}
use Rattle.division.specs.declared.root.Root.{Root}

-- what is refused of a whole number. 4: a is 2^60 or more
-- § 18.1 Each condition has a number and a place.
abbrev pub root_rules : ℕ → List Rule
root_rules a = number 4 (large_operand a) ∷ []

-- number and place of a refusal, and zeros
abbrev pub root_zeros : Refusal → Root
root_zeros f = record { refusal = f; root = 0; remainder = 0 }

-- the root s of a and what is left of a, and no refusal
abbrev pub root_values : ℕ → ℕ → Root
root_values a s = record { refusal = refusal 0 0; root = s; remainder = a - s * s }

-- the answers; a direction above 3 is refused as division refuses it
abbrev pub root_whole_of : ℕ → Root
root_whole_of a = answer_by root_zeros (root_values a (whole_root a)) (first_refusal (root_rules a))

abbrev pub root_binary64_of : ℕ → ℕ → Binary64
root_binary64_of direction p = answer_by binary64_zeros (binary64_values (root_of direction p)) (first_refusal (direction_rules direction))
