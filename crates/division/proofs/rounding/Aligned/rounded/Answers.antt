-- The pattern overflows exactly where the magnitude does.
use Rattle.laws.proofs.Basics.{sym, ◌/◌, ◌%◌, arith}
use Rattle.division.specs.Rounding.{mode_of}
use Rattle.division.specs.computed.Directions.{direction_number}
use Rattle.division.proofs.RoundedResults.{result_over, result_fits}
use Rattle.division.proofs.rounding.Aligned.rounded.Goals as goal

pub returns-then-p-ge-INFINITY : goal.returns-then-p-ge-INFINITY
returns-then-p-ge-INFINITY c =
    let a = c.args in
    let x = a.self in
    rw (c.sign_bit-sign.ensures, c.overflow.ensures, c.mode-mode.ensures)
    (sym (result_over (mode_of (direction_number a.direction) a.negative) a.negative x.exponent (x.quarters / 4) (x.quarters % 4) (omega arith) (omega arith)
    (rw (c.rounded_to-whole.ensures, c.mode-mode.ensures) at c.if-p-ge-INFINITY.true)))

pub returns-else-p-ge-INFINITY : goal.returns-else-p-ge-INFINITY
returns-else-p-ge-INFINITY c =
    let a = c.args in
    let x = a.self in
    rw (c.sign_bit-sign.ensures, c.flags_of.ensures, c.rounded_to-whole.ensures, c.mode-mode.ensures)
    (sym (result_fits (mode_of (direction_number a.direction) a.negative) a.negative x.exponent (x.quarters / 4) (x.quarters % 4) (omega arith) (omega arith)
    (rw (c.rounded_to-whole.ensures, c.mode-mode.ensures) at c.if-p-ge-INFINITY.false)))
