-- `listing::push_lines` meets its contract: after k turns the text has the lines of the first k cells.
use Rattle.laws.proofs.Basics.{◌*◌}
use Rattle.printing.specs.Text.{Adds}
use Rattle.listing.specs.Listing.{lines_upto}
use Rattle.listing.proofs.push_lines.Given as goal

abbrev pub invariant-loop-k : goal.invariant-loop-k
invariant-loop-k l = Adds l.initial.out (lines_upto l.estimate l.table.bytes.now l.k) (107 * l.k) l.out
