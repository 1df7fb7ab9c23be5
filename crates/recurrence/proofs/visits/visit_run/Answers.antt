-- `visit_run` meets its contract: one more for the cell of each digit.
use Rattle.laws.proofs.Basics.{◌≡◌, arith}
use Rattle.recurrence.specs.computed.Visits.{run_visits}
use Rattle.recurrence.proofs.Visiting.{visited_none, visited_more, visited_room, cell_small}
use Rattle.recurrence.proofs.visits.visit_run.Goals as goal

pub loop-init : goal.loop-init
loop-init c = visited_none _ _ _ _ _ (rw c.new-multiples.ensures at c.new-state.ensures)

pub overflow_add-visits-in-loop : goal.overflow_add-visits-in-loop
overflow_add-visits-in-loop c =
    let x = c.loop.invariant in
    let s = c.row_start-start.ensures in
    record { fits = (visited_room _ _ _ x s c.loop-test.true c.requires).fits _ (cell_small _ _ _ x s) }

pub loop-preserved : goal.loop-preserved
loop-preserved c =
    let m = c.new-multiples.ensures in
    visited_more _ _ _ c.loop.invariant c.row_start-start.ensures c.requires.size m (c.next-state.ensures c.args.table.now.bytes.now (rw m c.of-row.ensures.row))

pub returns : goal.returns
unfolding run_visits
returns c = let e : c.loop.counter ≡ c.args.n = omega arith in (rw e at c.loop.invariant).turned.added
