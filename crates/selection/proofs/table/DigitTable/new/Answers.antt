use Rattle.std.proofs.Common.{sym, ◌∙◌}
use Rattle.selection.proofs.{FirstAbove.{refused_above, none_above}, Reports.{form_admitted}}
use Rattle.selection.proofs.table.DigitTable.new.Goals as goal

pub invariant_of-result : goal.invariant_of-result
invariant_of-result c = record { digits = none_above _ c.if-table-ne-TABLE_LENGTH.false (sym c.first_above.ensures ∙ c.in-None.is) }

pub returns-in-Some-clause-refused : goal.returns-in-Some-clause-refused
returns-in-Some-clause-refused c = rw c.at.ensures (refused_above _ c.if-table-ne-TABLE_LENGTH.false (sym c.first_above.ensures ∙ c.in-Some.is))

pub returns-in-None-clause-refused : goal.returns-in-None-clause-refused
returns-in-None-clause-refused c = form_admitted (none_above _ c.if-table-ne-TABLE_LENGTH.false (sym c.first_above.ensures ∙ c.in-None.is))
