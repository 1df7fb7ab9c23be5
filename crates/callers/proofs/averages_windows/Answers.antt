use Rattle.demands.proofs.OfExposure.{averages_windows}
use Rattle.callers.proofs.averages_windows.Goals as goal

pub returns : goal.returns
returns c = averages_windows c.quendaric_average_windows.ensures
