use Rattle.laws.proofs.Basics.{◌*◌}
use Rattle.selection.specs.computed.RepairRows.{RepairedTo}
use Rattle.selection.proofs.repair.repair_rows.Given as goal

abbrev pub invariant-loop-row : goal.invariant-loop-row
invariant-loop-row l = RepairedTo l.estimate l.table (128 * l.row) l.initial.repaired l.initial.changed l.repaired l.changed l.count
