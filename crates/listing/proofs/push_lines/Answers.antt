-- `listing::push_lines` meets its contract: a cell more has its line behind those before it, or none.
use Rattle.laws.proofs.Basics.{sym, ◌∙◌}
use Rattle.printing.proofs.Texts.{adds_none}
use Rattle.listing.specs.Listing.{lines_upto}
use Rattle.listing.proofs.Lines.{adds_line}
use Rattle.listing.proofs.push_lines.Goals as goal
use Rattle.listing.proofs.push_lines.Goals.{in-Some, in_default}

pub loop-k-init : goal.loop-k-init
unfolding lines_upto
loop-k-init c = adds_none _ _

pub loop-k-preserved : goal.loop-k-preserved
loop-k-preserved c = elim c.match-line_of.branch [
  | in-Some w ↦ rw w.out-is (adds_line _ _ _ c.loop-k.invariant (sym w.in-Some.is ∙ c.line_of.ensures.0) w.push_line.ensures)
  | in_default w ↦ rw w.out-is (adds_line _ _ _ c.loop-k.invariant (sym w.in_default.is ∙ c.line_of.ensures.0) (adds_none _ _))
]
