use Rattle.demands.proofs.OfDivision.{compares_ratios}
use Rattle.callers.proofs.compares_ratios.Goals as goal

pub returns : goal.returns
returns c = compares_ratios c.quendaric_compare_ratios.ensures
