-- `vectors::run`: the names that it hands to the report are those of the files.
use Rattle.laws.proofs.Basics.{refl}
use Rattle.vectors.proofs.run.Goals as goal

pub report-out-requires : goal.report-out-requires
report-out-requires c = refl
