use Rattle.laws.{proofs.Basics.{◌≡◌}, specs.{Lists.{filled}, Sums.{sum_below}}}
use Rattle.selection.specs.computed.RepairRows.{marks_by}
use Rattle.selection.proofs.repair.mark_row.Given as goal

abbrev pub invariant-loop-c : goal.invariant-loop-c
invariant-loop-c l = record { marks : l.marks ≡ filled (marks_by l.m.estimate l.m.row l.cells) l.c l.initial.marks; count : l.count ≡ sum_below (marks_by l.m.estimate l.m.row l.cells) l.c }
