use Rattle.laws.proofs.{Basics.{sym, arith}, Lists.{fill_none, fill_more}}
use Rattle.selection.specs.computed.RepairRows.{bytes_by}
use Rattle.selection.proofs.repair.byte_row.Goals as goal

pub loop-c-init : goal.loop-c-init
loop-c-init c = sym (fill_none _ _)

pub loop-c-preserved : goal.loop-c-preserved
loop-c-preserved c = rw (c.loop-c.invariant, c.byte_of.ensures) (fill_more (bytes_by c.args.l c.args.cells.now c.args.marks.now) _ c.loop-c.c (omega arith))
