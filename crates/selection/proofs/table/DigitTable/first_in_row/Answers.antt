use Rattle.laws.proofs.Basics.{sym, ◌∙◌, arith}
use Rattle.laws.proofs.Search.{lesser_start, lesser_turn, lesser_end}
use Rattle.selection.proofs.table.DigitTable.first_in_row.Goals as goal

pub loop-column-init : goal.loop-column-init
loop-column-init c = record { most = omega arith; is = lesser_start _ 128 }

pub loop-column-preserved : goal.loop-column-preserved
loop-column-preserved c = let i = c.loop-column.invariant in record { most = omega arith; is = i.is ∙ lesser_turn _ 128 _ _ (omega arith) i.most c.bad_column.ensures c.min-first.ensures }

pub returns : goal.returns
returns c = let i = c.loop-column.invariant in sym (i.is ∙ lesser_end _ 128 _ _ c.loop-column-test.false i.most)
