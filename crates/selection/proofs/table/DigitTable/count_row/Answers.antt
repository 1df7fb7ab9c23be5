use Rattle.laws.proofs.Basics.{sym, arith}
use Rattle.laws.proofs.Counting.{count_start, count_one, count_other, count_most}
use Rattle.selection.proofs.table.DigitTable.count_row.Goals as goal

pub loop-column-init : goal.loop-column-init
loop-column-init c = sym (count_start _)

pub overflow_add-count : goal.overflow_add-count
overflow_add-count c = grind (arith, count_most)

pub loop-column-preserved : goal.loop-column-preserved
loop-column-preserved c = grind (arith, count_one, count_other)
