-- `operand` meets its contract: no bit is lost.
use Rattle.recurrence.proofs.Visiting.{operand_span, operand_law}
use Rattle.recurrence.proofs.visits.operand.Goals as goal

pub returns-clause-is : goal.returns-clause-is
returns-clause-is c = let r = c.requires in operand_law c.args.bits r.0 r.1 c.args.x r.2

pub returns-clause-span : goal.returns-clause-span
returns-clause-span c = let r = c.requires in rw (operand_law c.args.bits r.0 r.1 c.args.x r.2) (operand_span c.args.bits r.0 r.1 c.args.x r.2)
