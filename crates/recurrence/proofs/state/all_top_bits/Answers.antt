-- `all_top_bits` meets its contract: five multiples have 45 top bits.
use Rattle.laws.proofs.Basics.{◌≡◌, arith, ◌∙◌, ap, ℕ, ◌*◌, ◌%◌, ◌^◌}
use Rattle.recurrence.proofs.NextColumn.{tops_none, tops_more, tops_all}
use Rattle.recurrence.proofs.state.all_top_bits.Goals as goal

pub loop-multiple-init : goal.loop-multiple-init
loop-multiple-init c = tops_none _

pub loop-multiple-preserved : goal.loop-multiple-preserved
loop-multiple-preserved c = tops_more c.args.m.now c.loop-multiple.multiple-index c.loop-multiple.invariant c.top_bits.ensures

pub returns : goal.returns
returns c =
    let n : c.loop-multiple.multiple-index ≡ 5 = omega arith in
    ap (λ (t : ℕ). t * 2 ^ 19 % 2 ^ 64) (rw n at c.loop-multiple.invariant) ∙ tops_all c.args.m.now
