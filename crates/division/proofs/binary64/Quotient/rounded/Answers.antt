-- The steps of the definition, one after the other.
use Rattle.laws.proofs.Basics.{◌+◌, arith}
use Rattle.division.specs.computed.Binary64Steps.{rounded_quotient}
use Rattle.division.proofs.Binary64Through.{aligned_right}
use Rattle.division.proofs.binary64.Quotient.rounded.Goals as goal

pub rounded-requires : goal.rounded-requires
rounded-requires c =
    let x = c.args.self in
    let a = aligned_right c.args.ratio (x.dividend.exp + 1021) x.divisor.exp (omega arith) (omega arith) (omega (arith, x.dividend_span.small)) x.divisor_span.small in
    rw c.align.ensures (omega arith)

pub returns : goal.returns
unfolding rounded_quotient
returns c = simp (c.rounded.ensures, c.align.ensures)
