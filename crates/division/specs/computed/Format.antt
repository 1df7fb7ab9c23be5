-- The answer of a call that gives a pattern and flags, and what it refuses: the specification, sections 9 and 18.
use Rattle.std.specs.Prelude.{ℕ, List, [], ◌∷◌, Result, Ok, Err}
use Rattle.selection.specs.Answer.{refusal}
use Rattle.selection.specs.declared.Refusal.{Refusal}
use Rattle.division.specs.declared.format.Binary64Result.{Binary64Result}
use Rattle.division.specs.declared.format.Binary64.{Binary64}
use Rattle.selection.specs.computed.Refusals.{Rule, below, number}

-- number and place of a refusal, and zeros
abbrev pub binary64_zeros : Refusal → Binary64
binary64_zeros f = record { refusal = f; pattern = 0; flags = 0 }

-- pattern and flags, and no refusal
abbrev pub binary64_values : Binary64Result → Binary64
binary64_values x = record { refusal = refusal 0 0; pattern = x.pattern; flags = x.flags }

-- an answer as C sees it
abbrev pub binary64_numbers : Result Binary64Result Refusal → Binary64
binary64_numbers (Ok x) = binary64_values x
binary64_numbers (Err f) = binary64_zeros f

-- what a call that rounds refuses of its arguments. 6: direction above 3
-- § 18.1 Each condition has a number and a place.
abbrev pub direction_rules : ℕ → List Rule
direction_rules direction = number 6 (below 3 direction) ∷ []
