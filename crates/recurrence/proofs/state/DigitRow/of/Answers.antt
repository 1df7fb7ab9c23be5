use Rattle.recurrence.proofs.Rows.{row_digits}
use Rattle.recurrence.proofs.state.DigitRow.of.Goals as goal

pub invariant_of-result : goal.invariant_of-result
invariant_of-result g c = row_digits c.args.divisor c.row.ensures.passes c.row.ensures.row
