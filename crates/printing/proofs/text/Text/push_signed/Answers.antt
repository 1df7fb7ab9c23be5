-- `printing::text::Text::push_signed` meets its contract: below zero a sign goes first, and the magnitude's digits follow.
use Rattle.laws.proofs.Basics.{◌∙◌, ap, arith}
use Rattle.printing.specs.Text.{pushed}
use Rattle.printing.proofs.{Signs.{with_sign, without_sign}, Texts.{adds_then}}
use Rattle.printing.proofs.text.Text.push_signed.Goals.{then-number-lt0, else-number-lt0}
use Rattle.printing.proofs.text.Text.push_signed.Goals as goal

pub returns : goal.returns
returns g c =
    let digits = c.push_number.ensures in
    let is = c.unsigned_abs.ensures.value in
    elim c.if-number-lt0.branch [
      | then-number-lt0 w ↦ let a = adds_then w.push.ensures (rw w.self-is at digits) in record { is = a.is ∙ ap (pushed c.args.self.now) (with_sign _ _ c.args.end.now c.ranges.number is w.if-number-lt0.true); room = omega (arith, a.room) }
      | else-number-lt0 w ↦ let a = rw w.self-is at digits in record { is = a.is ∙ ap (pushed c.args.self.now) (without_sign _ _ c.args.end.now c.ranges.number is w.if-number-lt0.false); room = omega (arith, a.room) }
    ]
