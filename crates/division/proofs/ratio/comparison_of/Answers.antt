-- `comparison_of` meets its contract: the whole parts or the remainders tell, or the next two ratios compare alike, over a smaller sum of their divisors.
use Rattle.laws.proofs.Basics.{◌∙◌, ⊎_elim, inl, inr, arith}
use Rattle.std.proofs.Common.{pos_of_ne-zero}
use Rattle.division.proofs.Ratios.{code_round, quotients_tell, quotients_same, remainders_tell, round_next}
use Rattle.division.proofs.ratio.comparison_of.Goals as goal

pub returns-then-is_ne : goal.returns-then-is_ne
returns-then-is_ne c =
    let k = c.loop-x.invariant in
    c.cmp-order.ensures ∙ quotients_tell _ _ _ _ _ _ k.0 c.divide-x.ensures c.divide-y.ensures (cc) ∙ k.1

pub returns-then-x-eq0 : goal.returns-then-x-eq0
returns-then-x-eq0 c =
    let k = c.loop-x.invariant in
    let e = quotients_same _ _ _ _ _ _ k.0 c.divide-x.ensures c.divide-y.ensures (cc) in
    c.cmp.ensures ∙ remainders_tell _ _ _ _ _ _ k.0 c.divide-x.ensures c.divide-y.ensures e (⊎_elim (λ h. inl h) (λ h. inr h.1) c.then-x-eq0.either) ∙ k.1

pub loop-x-smaller : goal.loop-x-smaller
loop-x-smaller c = omega (arith, (round_next _ _ _ _ _ _ c.loop-x.invariant.0 c.divide-x.ensures c.divide-y.ensures c.if-x-eq0.false c.if-y-eq0.false).1)

pub loop-x-preserved : goal.loop-x-preserved
loop-x-preserved c =
    let k = c.loop-x.invariant in
    let e = quotients_same _ _ _ _ _ _ k.0 c.divide-x.ensures c.divide-y.ensures (cc) in (
      (round_next _ _ _ _ _ _ k.0 c.divide-x.ensures c.divide-y.ensures c.if-x-eq0.false c.if-y-eq0.false).0,
      (code_round _ _ _ _ _ _ k.0 c.divide-x.ensures c.divide-y.ensures).next e (pos_of_ne-zero c.if-x-eq0.false) (pos_of_ne-zero c.if-y-eq0.false) ∙ k.1,
    )
