-- `plot::mark_row` ends: the next bad cells start where the last ones end.
use Rattle.std.proofs.Common.{◌-◌, ◌≤◌}
use Rattle.plot.proofs.mark_row.Given as goal

abbrev pub invariant-loop-edge : goal.invariant-loop-edge
invariant-loop-edge l = l.column ≤ 127

abbrev pub decreases-loop-edge : goal.decreases-loop-edge
decreases-loop-edge l = 128 - l.column
