-- `run_mark` meets its contract: a step that strays ends the run with the mark 1.
use Rattle.laws.proofs.Basics.{arith}
use Rattle.recurrence.proofs.RecheckRow.{row_size, followed_start, followed_above, followed_strayed, followed_more, column_below}
use Rattle.recurrence.proofs.recheck.run_mark.Goals as goal
use Rattle.recurrence.proofs.recheck.run_mark.Goals.{then-byte-gt4-via-then-byte-gt4, then-byte-gt4-via-else-byte-gt4+then-divisor-left_by}

pub loop-init : goal.loop-init
loop-init c = followed_start _ _ _ _ (rw c.new-multiples.ensures at c.new-state.ensures)

pub bounds-row-state : goal.bounds-row-state
bounds-row-state c = omega (arith, column_below _ _ _ _ c.loop.invariant, row_size c.args.table.now.bytes.now c.args.divisor c.args.table.now.size c.row_of-row.ensures)

pub returns-then-byte-gt4 : goal.returns-then-byte-gt4
returns-then-byte-gt4 c =
    let is = c.row_of-row.ensures in
    let x = c.loop.invariant in
    elim c.then-byte-gt4.branch [
      | then-byte-gt4-via-then-byte-gt4 w ↦ followed_above _ _ _ _ x is w.if-byte-gt4.true c.loop-test.true
      | then-byte-gt4-via-else-byte-gt4+then-divisor-left_by w ↦ followed_strayed _ _ _ _ x is c.new-multiples.ensures w.if-byte-gt4.false w.left_by.ensures w.if-divisor-left_by.true c.loop-test.true
    ]

pub loop-preserved : goal.loop-preserved
loop-preserved c = followed_more _ _ _ _ c.loop.invariant c.row_of-row.ensures c.new-multiples.ensures c.if-byte-gt4.false c.left_by.ensures c.if-divisor-left_by.false c.step_by-state.ensures
