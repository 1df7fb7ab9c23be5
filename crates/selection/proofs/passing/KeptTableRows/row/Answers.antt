use Rattle.selection.specs.declared.Estimate.TheVariants.{EightBits}
use Rattle.selection.proofs.MadeTables.{kept_passes}
use Rattle.selection.proofs.passing.KeptTableRows.row.Goals as goal

pub returns-clause-passes : goal.returns-clause-passes
returns-clause-passes c = kept_passes EightBits
