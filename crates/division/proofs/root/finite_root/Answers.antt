-- 54 digits of the significand, rounded once.
use Rattle.laws.proofs.Basics.{arith}
use Rattle.division.proofs.RootCalls.{word_is, rounded_ready, finite_root_is}
use Rattle.division.proofs.root.finite_root.Goals as goal

pub root_digits-state-requires : goal.root_digits-state-requires
root_digits-state-requires c = ((word_is c.args.p _ c.requires c.significand-x.ensures.0).1, omega arith, omega arith)

pub rounded-requires : goal.rounded-requires
rounded-requires c = rounded_ready c.args.p _ c.requires c.significand-x.ensures.0 _ _ c.root_digits-state.ensures c.with_sticky.ensures

pub returns : goal.returns
returns c = finite_root_is c.args.p _ c.requires c.significand-x.ensures.0 _ _ c.root_digits-state.ensures c.with_sticky.ensures _ c.rounded.ensures
