-- The run's quotient and remainder make the sticky quotient.
use Rattle.division.specs.computed.Binary64Steps.{ratio_through}
use Rattle.division.proofs.FourRatios.{ratio_span}
use Rattle.division.proofs.binary64.ratio_of.Goals as goal

pub of-requires : goal.of-requires
of-requires g c = ratio_span c.args.x c.result_through.ensures.passes c.requires c.result_through.ensures.result

pub returns : goal.returns
unfolding ratio_through
returns g c = rw c.result_through.ensures.result at c.of.ensures
