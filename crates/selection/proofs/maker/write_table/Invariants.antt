use Rattle.laws.{proofs.Basics.{◌≡◌}, specs.Lists.{filled}}
use Rattle.selection.specs.computed.Outcomes.{made_at}
use Rattle.selection.proofs.maker.write_table.Given as goal

abbrev pub invariant-loop-k : goal.invariant-loop-k
invariant-loop-k l = l.byte-items ≡ filled (made_at l.fn.estimate) l.k l.initial.byte-items
