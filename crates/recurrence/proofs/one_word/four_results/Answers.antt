-- `four_results` meets its contract: what a turn of each of the four does, and the answers after the last.
use Rattle.laws.proofs.Basics.{◌≡◌, List, [], ℕ, arith, get_or, rules}
use Rattle.selection.specs.{Cell.{row}, computed.Table.{row_bytes}}
use Rattle.recurrence.specs.{computed.OneWord.{step_terms}, declared.one_word.Progress.{Progress}, declared.RunResult.{RunResult}}
use Rattle.recurrence.proofs.OneWord.{any_division, one_more, four_start, four_more, four_turn, four_done}
use Rattle.recurrence.proofs.one_word.four_results.Goals as goal

pub loop-init : goal.loop-init
loop-init c = four_start c.map-progress.ensures.items.long (λ k x p h. let e = c.map-progress.ensures.items.at k x p h in search rules)

pub loop-j-preserved : goal.loop-j-preserved
loop-j-preserved c =
    let j = c.loop-j.j in
    four_more c.loop-j.invariant c.loop-j-test.true (λ x.
    let r : (d : List ℕ) → get_or c.map-rows.result j d ≡ row_bytes c.args.table.now.bytes.now (row (get_or c.args.divisions j x).divisor) = λ d. let h = c.map-rows.ensures.items.at j x d c.loop-j-test.true in search rules in
    let g = c.map-terms.ensures.items.at j x [] c.loop-j-test.true in
    let t : get_or c.map-terms.result j [] ≡ step_terms (get_or c.args.divisions j x).divisor = search rules in
    one_more c.args.table.now.passes (r _) (c.loop-j.invariant.waiting j x _ (omega arith) c.loop-j-test.true) t c.step.ensures)

pub loop-preserved : goal.loop-preserved
loop-preserved c = four_turn c.loop-j.invariant c.loop-j-test.false

pub returns : goal.returns
returns c =
    let n : c.loop.counter ≡ c.args.n.count = omega arith in
    let m = c.map.ensures.items in
    let e = m.each in
    let p : Progress = record { division = any_division; word = 0; number = 0 } in
    let d : RunResult = record { quotient = 0; count = 0; remainder = 0 } in
    four_done c.args.table.now.passes (rw n at c.loop.invariant) (omega arith) c.args.n.in_span.0 c.args.n.in_span.1 m.long p d
    (rw (e.3.1, e.4.1) (search rules)) (rw (e.6.3.1, e.6.4.1) (search rules)) (rw (e.6.6.3.1, e.6.6.4.1) (search rules)) (rw (e.6.6.6.3.1, e.6.6.6.4.1) (search rules))
