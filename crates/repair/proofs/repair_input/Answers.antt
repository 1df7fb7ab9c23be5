-- `repair::repair_input` meets its contract: there is room for more than a table, so that what was read settles what is written.
use Rattle.laws.proofs.Basics.{arith}
use Rattle.repair.proofs.Writing.{writes_read}
use Rattle.repair.proofs.repair_input.Goals as goal

pub returns : goal.returns
returns c = writes_read _ (omega arith) c.repair.ensures
