-- `divided` meets its contract: 15, or else the division of the two numbers.
use Rattle.laws.proofs.Basics.{sym, ap, ◌∙◌, arith, rules}
use Rattle.division.specs.computed.Packed.{packed_zeros}
use Rattle.division.proofs.PackedCalls.{byte_refused, numbers_refused, numbers_divided}
use Rattle.division.proofs.packed.divided.Goals as goal

pub returns-in-Some : goal.returns-in-Some
returns-in-Some c = ap packed_zeros c.at.ensures ∙ sym (byte_refused _ _ (omega arith) (omega arith) _ (sym c.first_above_9.ensures ∙ c.in-Some.is))

pub returns-in_err-operands : goal.returns-in_err-operands
returns-in_err-operands c =
    let e = rw (c.number_of.ensures, c.number_of-2.ensures) at (sym c.in_err-operands.ensures.refused) in
    rw (numbers_refused c.args.dividend c.args.divisor (omega arith) (omega arith) (sym c.first_above_9.ensures ∙ c.in_default.is) e) (search rules)

pub returns : goal.returns
returns c =
    let e = rw (c.number_of.ensures, c.number_of-2.ensures) at (sym c.in_ok-operands.ensures.refused) in
    let t = c.in_ok-operands.ensures.taken in
    let w = rw (t.0 ∙ c.number_of.ensures, t.1 ∙ c.number_of-2.ensures) at c.divide.ensures in
    sym (numbers_divided c.args.dividend c.args.divisor (omega arith) (omega arith) (sym c.first_above_9.ensures ∙ c.in_default.is) e w)
