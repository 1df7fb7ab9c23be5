use Rattle.laws.proofs.Basics.{◌∙◌, arith}
use Rattle.laws.proofs.Counting.{count_most}
use Rattle.selection.specs.computed.Allowed.{is_bad}
use Rattle.selection.proofs.Counts.{row_counted}
use Rattle.selection.proofs.table.DigitTable.count_from.Goals as goal

pub overflow_add-total : goal.overflow_add-total
overflow_add-total c = grind (arith, count_most)

pub loop-row-preserved : goal.loop-row-preserved
loop-row-preserved c = row_counted (λ E. is_bad E c.args.self.now.bytes.now) c.loop-row.row c.new.ensures c.loop-row.invariant (c.from-total.ensures ∙ c.count_row.ensures)
