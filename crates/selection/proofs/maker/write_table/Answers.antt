use Rattle.laws.proofs.{Basics.{◌≡◌, ◌<◌, ◌/◌, ◌%◌, ◌++◌, List, ℕ, sym, ◌∙◌, ap, arith, length, take, drop, length-take}, Lists.{fill_none, fill_more, fill_all}}
use Rattle.selection.specs.computed.Outcomes.{made_at}
use Rattle.selection.proofs.MadeTables.{made_at_law, make_done}
use Rattle.selection.proofs.maker.write_table.Goals as goal

pub loop-k-init : goal.loop-k-init
loop-k-init c = sym (fill_none _ _)

pub bounds-all-k : goal.bounds-all-k
bounds-all-k c = omega (arith, length-take 2048 c.args.buffer.now)

pub loop-k-preserved : goal.loop-k-preserved
loop-k-preserved c =
    let k = c.loop-k.k in
    let h : k < 2048 = omega (arith, length-take 2048 c.args.buffer.now) in
    rw (c.loop-k.invariant, c.digit_at.ensures, made_at_law c.args.estimate h ((c.all_limits-all.ensures (k / 128) (omega arith)).steps (k % 128) (omega arith)))
    (fill_more (made_at c.args.estimate) _ k (omega arith))

pub returns : goal.returns
returns c =
    let s = c.args.buffer.now in
    let size : length (take 2048 s) ≡ 2048 = omega (arith, length-take 2048 s) in
    let n : c.loop-k.k ≡ 2048 = omega arith in
    sym (make_done c.args.estimate s (omega arith) (ap (λ (b : List ℕ). b ++ drop 2048 s) (rw n at c.loop-k.invariant ∙ fill_all (made_at c.args.estimate) (take 2048 s) 2048 (omega arith))))
