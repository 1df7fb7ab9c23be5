-- `result_row` meets its contract: the last turn gives the result.
use Rattle.laws.proofs.Basics.{◌≡◌, ◌∙◌, arith}
use Rattle.recurrence.proofs.{OneWord.{one_more, one_result}, Rows.{row_digits}}
use Rattle.recurrence.proofs.one_word.result_row.Goals as goal

pub lent-row-requires : goal.lent-row-requires
lent-row-requires c = row_digits c.args.division.divisor c.requires.passes c.requires.is

pub loop-preserved : goal.loop-preserved
loop-preserved c = one_more {x = c.args.division} c.requires.passes (c.lent-row.ensures ∙ c.requires.is) c.loop.invariant c.step_terms-terms.ensures c.step-progress.ensures

pub returns : goal.returns
returns c t ok is =
    let e : c.loop.counter ≡ c.args.n.count = omega arith in
    c.result.ensures ∙ one_result {x = c.args.division} ok (rw e at c.loop.invariant) c.args.n.in_span.0 c.args.n.in_span.1
