-- `printing::text::Text::push_number` meets its contract: what `io::decimal` makes is the number in decimal, of at most 20 digits.
use Rattle.laws.proofs.Basics.{◌≡◌, ◌∙◌, arith, take}
use Rattle.printing.specs.Text.{decimal_of}
use Rattle.printing.proofs.{Decimals.{decimal_is}, Texts.{pushed_pushed}}
use Rattle.printing.proofs.text.Text.push_number.Goals as goal

pub returns : goal.returns
returns g c =
    let d = c.decimal-count in
    let digits : take d.result d.new.out ≡ decimal_of c.args.number = d.ensures.digits ∙ decimal_is _ _ d.ensures.len (omega arith) in
    record { is = c.push-2.ensures.is ∙ rw (c.push.ensures.is, digits) (pushed_pushed c.args.self.now (decimal_of c.args.number) c.args.end.now); room = omega arith }
