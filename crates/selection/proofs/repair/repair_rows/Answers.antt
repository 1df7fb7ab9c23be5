use Rattle.laws.proofs.{Basics.{◌≡◌, ◌*◌, sym, ◌∙◌, arith}, Lists.{fill_none}, Counting.{count_start, count_most}}
use Rattle.selection.specs.computed.Allowed.{is_faulty}
use Rattle.selection.proofs.RepairRows.{row_repaired}
use Rattle.selection.proofs.repair.repair_rows.Goals as goal

pub loop-row-init : goal.loop-row-init
loop-row-init c = record { bytes = sym (fill_none _ _); marks = sym (fill_none _ _); count = sym (count_start _) }

pub overflow_add-count : goal.overflow_add-count
overflow_add-count c = omega (arith, c.loop-row.invariant.count, count_most (is_faulty c.args.estimate c.args.table.now) (128 * c.loop-row.row))

pub loop-row-preserved : goal.loop-row-preserved
loop-row-preserved c =
    let m = c.new-m.ensures in
    row_repaired c.args.estimate c.args.table.now c.loop-row.row (omega arith) (omega arith) (omega arith) (rw m at c.limits.ensures.1) (rw m at c.mark_row.ensures.marks) (c.from-count.ensures ∙ rw m at c.mark_row.ensures.count) c.byte_row.ensures c.loop-row.invariant

pub returns : goal.returns
returns c = let n : 128 * c.loop-row.row ≡ 2048 = omega arith in rw n at c.loop-row.invariant
