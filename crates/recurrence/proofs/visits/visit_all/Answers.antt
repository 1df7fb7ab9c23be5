-- `visit_all` meets its contract: there is room for the visits of all pairs, which are added to zeros.
use Rattle.laws.proofs.Basics.{◌≡◌, ◌-◌, ◌*◌, ◌^◌, ◌<◌, arith}
use Rattle.recurrence.specs.computed.{VisitSteps.{Room}, Visits.{all_visits}}
use Rattle.recurrence.proofs.Visiting.{few_word, turned_none, turned_more, turned_room, run_most, dividend_most, all_room, added_cleared}
use Rattle.recurrence.proofs.visits.visit_all.Goals as goal

pub loop-x-init : goal.loop-x-init
loop-x-init c = turned_none _

pub loop-y-init : goal.loop-y-init
loop-y-init c = turned_none _

pub visit_run-requires : goal.visit_run-requires
visit_run-requires c =
    let a = c.args in
    let m = few_word a.bits c.requires.bits in
    let x : c.loop-x.x < 2 ^ (a.bits - 1) = rw m at c.loop-x-test.true in
    let y : c.loop-y.y < 2 ^ (a.bits - 1) = rw m at c.loop-y-test.true in
    let all : Room (2 ^ (a.bits - 1) * (2 ^ (a.bits - 1) * a.digits)) c.clear.new.visits = all_room a.bits a.digits a.visits.now c.requires c.clear.ensures in
    turned_room c.loop-y.invariant (λ y c. run_most _ _ _ _ c) y (turned_room c.loop-x.invariant (λ x c. dividend_most _ _ _ x c) x all)

pub loop-y-preserved : goal.loop-y-preserved
loop-y-preserved c = turned_more c.loop-y.invariant (rw (c.operand.ensures.is, c.operand-in-loop-y.ensures.is) at c.visit_run.ensures)

pub loop-x-preserved : goal.loop-x-preserved
loop-x-preserved c = let e : c.loop-y.y ≡ 2 ^ (c.args.bits - 1) = omega (arith, few_word c.args.bits c.requires.bits) in turned_more c.loop-x.invariant (rw e at c.loop-y.invariant).added

pub returns : goal.returns
unfolding all_visits
returns c =
    let e : c.loop-x.x ≡ 2 ^ (c.args.bits - 1) = omega (arith, few_word c.args.bits c.requires.bits) in
    added_cleared c.args.visits.now c.requires.room (rw c.clear.ensures at (rw e at c.loop-x.invariant).added)
