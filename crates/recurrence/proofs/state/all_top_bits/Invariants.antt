-- `all_top_bits` meets its contract: after k turns the number has the top bits of the first k multiples.
use Rattle.laws.proofs.Basics.{◌≡◌}
use Rattle.recurrence.proofs.NextColumn.{tops_upto}
use Rattle.recurrence.proofs.state.all_top_bits.Given as goal

abbrev pub invariant-loop-multiple : goal.invariant-loop-multiple
invariant-loop-multiple l = l.tops ≡ tops_upto l.m l.multiple-index
