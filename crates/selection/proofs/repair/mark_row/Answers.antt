use Rattle.laws.proofs.{Basics.{◌+◌, ◌≤◌, sym, arith, ℕ, List}, Lists.{fill_none, fill_more}, Counting.{bit_most}, Sums.{sum_none, sum_more, sum_most}}
use Rattle.laws.specs.Sums.{sum_below}
use Rattle.selection.specs.computed.RepairRows.{marks_by}
use Rattle.selection.specs.declared.Estimate.{Estimate}
use Rattle.selection.proofs.repair.mark_row.Goals as goal

most : (E : Estimate) (r : ℕ) (cells : List ℕ) (n : ℕ) → sum_below (marks_by E r cells) n ≤ n
most E r cells n = omega (arith, sum_most (marks_by E r cells) 1 n (λ k h. bit_most _))

pub loop-c-init : goal.loop-c-init
loop-c-init c = record { marks = sym (fill_none _ _); count = sym (sum_none _) }

pub overflow_add-count : goal.overflow_add-count
overflow_add-count c =
    let f = marks_by c.args.m.estimate c.args.m.row c.args.cells.now in
    omega (arith, c.loop-c.invariant.count, c.mark_of-mark.ensures, sum_more f c.loop-c.c, most c.args.m.estimate c.args.m.row c.args.cells.now (c.loop-c.c + 1))

pub loop-c-preserved : goal.loop-c-preserved
loop-c-preserved c =
    let f = marks_by c.args.m.estimate c.args.m.row c.args.cells.now in
    let i = c.loop-c.invariant in
    rw c.mark_of-mark.ensures (record { marks = rw i.marks (fill_more f _ c.loop-c.c (omega arith)); count = rw i.count (sym (sum_more f c.loop-c.c)) })
