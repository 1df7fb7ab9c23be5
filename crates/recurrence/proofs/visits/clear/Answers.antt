-- `clear` meets its contract: a count may have been 0 already.
use Rattle.laws.proofs.{Basics.{◌≡◌, sym, ap, ◌∙◌, ◌++◌, List, ℕ, arith, length, length-take, set, take, drop}, Lists.{fill_none, fill_more, fill_all}}
use Rattle.recurrence.proofs.visits.clear.Goals as goal
use Rattle.recurrence.proofs.visits.clear.Goals.{then-count-ne0, else-count-ne0}

pub loop-count-init : goal.loop-count-init
loop-count-init c = sym (fill_none _ _)

pub loop-count-preserved : goal.loop-count-preserved
loop-count-preserved c =
    let l = c.loop-count in
    let more = ap (λ (v : List ℕ). set v l.count-index 0) l.invariant ∙ fill_more (λ (c : ℕ). 0) (take 2048 c.args.visits.now) l.count-index c.loop-count-test.true in
    elim c.if-count-ne0.branch [
      | then-count-ne0 w ↦ w.count-items-is ∙ more
      | else-count-ne0 w ↦ w.count-items-is ∙ ap (set l.count-items l.count-index) w.if-count-ne0.false ∙ more
    ]

pub returns : goal.returns
returns c =
    let v = c.args.visits.now in
    let n : length (take 2048 v) ≡ 2048 = rw length-take (omega arith) in
    let e : c.loop-count.count-index ≡ 2048 = omega (arith, n) in
    ap (λ (l : List ℕ). l ++ drop 2048 v) ((rw e at c.loop-count.invariant) ∙ fill_all (λ (c : ℕ). 0) (take 2048 v) 2048 (omega (arith, n)))
