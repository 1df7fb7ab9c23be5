use Rattle.laws.{proofs.Basics.{◌≡◌}, specs.Lists.{filled}}
use Rattle.selection.specs.computed.RepairRows.{bytes_by}
use Rattle.selection.proofs.repair.byte_row.Given as goal

abbrev pub invariant-loop-c : goal.invariant-loop-c
invariant-loop-c l = l.bytes ≡ filled (bytes_by l.l l.cells l.marks) l.c l.initial.bytes
