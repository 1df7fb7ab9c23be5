-- `listing::push_line` meets its contract: row, column and digit come in this order, and the witness follows.
use Rattle.laws.proofs.Basics.{rules}
use mir.{Facts.{to_z-of_z}, Syntax.{w64}, Val.{SFits}}
use Rattle.printing.proofs.Texts.{adds_then}
use Rattle.listing.proofs.push_line.Goals as goal

pub returns : goal.returns
returns c =
    let fits : SFits w64 c.args.line.digit = search rules in
    let digit = rw (to_z-of_z fits) at c.push_signed.ensures in
    adds_then c.push_number.ensures (adds_then c.push_number-2.ensures (adds_then digit c.push_witness.ensures))
