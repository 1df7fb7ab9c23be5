-- Binary64 division as a caller sees it: the specification, sections 9 and 18.
use Rattle.std.specs.Prelude.{ℕ, List, ◌++◌}
use Rattle.selection.specs.computed.Answer.{answer_by}
use Rattle.selection.specs.computed.Table.{table_rules}
use Rattle.selection.specs.computed.Refusals.{first_refusal}
use Rattle.division.specs.computed.Format.{binary64_zeros, binary64_values, direction_rules}
use Rattle.division.specs.computed.Binary64Steps.{binary64_through}
use Rattle.division.specs.declared.format.Binary64.{Binary64}
use Rattle.selection.specs.declared.Estimate.TheVariants.{EightBits}

-- the answer: 6, then 8, 9, 10, the table's, for every pair of operands
abbrev pub binary64_of : List ℕ → ℕ → ℕ → ℕ → Binary64
binary64_of t direction a b = answer_by binary64_zeros (binary64_values (binary64_through EightBits t direction a b)) (first_refusal (direction_rules direction ++ table_rules EightBits t))
