-- `listing::line_of` meets its contract: a line is what the check of the single cell says.
use Rattle.laws.proofs.Basics.{sym, ◌∙◌}
use borrow.Author.Rules.{sfits_of}
use mir.Facts.{to_z-of_z}
use Rattle.listing.proofs.Lines.{told_line}
use Rattle.listing.proofs.line_of.Goals as goal

pub returns-in_err-witness : goal.returns-in_err-witness
returns-in_err-witness c = told_line _ _ _ c.args.table.now.digits c.requires (sym c.in_err-witness.ensures ∙ c.check_cell.ensures) c.from_residual.ensures

pub returns : goal.returns
returns c = told_line _ _ _ c.args.table.now.digits c.requires (sym c.in_ok-witness.ensures ∙ c.check_cell.ensures) (rw (to_z-of_z (sfits_of c.digit_of.type_inv), c.digit_of.ensures))
