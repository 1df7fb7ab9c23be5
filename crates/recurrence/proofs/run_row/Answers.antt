-- `run_row` meets its contract: the loop's last state gives the result.
use Rattle.laws.proofs.{Basics.{◌≡◌, ◌∙◌, sym, length, arith}, Lists.{fill_none}}
use Rattle.selection.specs.declared.Estimate.TheVariants.{EightBits}
use Rattle.recurrence.specs.Recurrence.{after}
use Rattle.recurrence.proofs.{Invariant.{invariant-after}, Pair.{pair_after}, Correction.{result_from_pair}, Loop.{Reached, reached_more}}
use Rattle.recurrence.proofs.run_row.Goals as goal

pub loop-digit-init : goal.loop-digit-init
unfolding after
loop-digit-init g c = record { stands = rw c.new-multiples.ensures at c.new-state.ensures; wrote = sym (fill_none _ _) }

pub loop-digit-preserved : goal.loop-digit-preserved
loop-digit-preserved g c =
    let m = c.new-multiples.ensures in
    reached_more c.loop-digit.invariant c.loop-digit-test.true m (c.next-state.ensures _ (rw m c.of-row.ensures.row))

pub returns-clause-result : goal.returns-clause-result
returns-clause-result g c =
    let a = c.args in
    let N = a.division.dividend in
    let D = a.division.divisor in
    let t = g.T.Rows.table a.table.now in
    let n = length a.out.now in
    let e : c.loop-digit.digit-index ≡ n = omega (arith, c.loop-digit.auto.digit-index-end) in
    let r : Reached t N D a.out.now c.loop-digit.out c.loop-digit.state n = rw e at c.loop-digit.invariant in
    let ok = c.of-row.ensures.passes in
    let k = invariant-after EightBits t N D ok a.division.in_span n in
    c.result.ensures ∙ rw (r.stands, c.loop-digit.auto.out) (result_from_pair EightBits t N D n k.0 k.1 c.requires.0 c.requires.1 (pair_after EightBits t N D ok.table.digits n))
