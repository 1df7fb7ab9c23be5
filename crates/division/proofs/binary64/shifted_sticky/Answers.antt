-- Past 60 bits only the sticky bit is left; up to there the unit fits a word.
use Rattle.laws.proofs.Basics.{◌≡◌, ℕ, sym, ◌*◌, ◌%◌, ◌^◌, ◌≤◌, arith}
use Rattle.std.proofs.Common.{mod-eq_of_lt, pow_mono, pow_pos}
use Rattle.division.proofs.Sticky.{sticky_over}
use Rattle.division.proofs.binary64.shifted_sticky.Goals as goal

unit_is : (t : ℕ) → t ≤ 60 → 2 * 2 ^ t % 2 ^ 64 ≡ 2 * 2 ^ t
unit_is t h = mod-eq_of_lt (omega (arith, pow_mono h))

pub returns-then-t-gt60 : goal.returns-then-t-gt60
returns-then-t-gt60 c = let a = c.args in sym (sticky_over a.w (2 * 2 ^ a.t) (omega arith) (omega (arith, pow_mono c.if-t-gt60.true)))

pub nonzero_div-w : goal.nonzero_div-w
nonzero_div-w c = omega (arith, unit_is c.args.t, pow_pos c.args.t)

pub nonzero_rem-w : goal.nonzero_rem-w
nonzero_rem-w c = omega (arith, unit_is c.args.t, pow_pos c.args.t)

pub returns : goal.returns
returns c = rw (unit_is c.args.t (omega arith)) at c.with_sticky.ensures
