-- `vectors::line_differs`: a line of another length differs.
use Rattle.laws.proofs.Basics.{refl, length, ne_eqb}
use Rattle.vectors.proofs.line_differs.Goals as goal

pub returns-in_default : goal.returns-in_default
returns-in_default c = rw (ne_eqb (length c.args.line.now) 56 (rw c.in_default.is at c.as_array.ensures.cases)) refl
