-- `vectors::differs`: an answer refuses nothing exactly where its refusal's number is 0, and of one that refuses nothing with the pattern the flags decide.
use Rattle.laws.proofs.Basics.{◌≡◌, refl, sym, arith, eq-eqb}
use Rattle.std.proofs.lemmas.Grind.{common_steps}
use Rattle.vectors.proofs.Differences.{told_by_number}
use Rattle.vectors.proofs.differs.Goals as goal

pub returns-then-answer-v : goal.returns-then-answer-v
returns-then-answer-v c = let told = rw (sym c.answer_of-answer.ensures) at (told_by_number c.args.v.operation c.args.v.direction) in grind (arith, common_steps, told)

pub returns-else-answer-v : goal.returns-else-answer-v
returns-else-answer-v c =
    let none : c.answer_of-answer.result.refusal.number ≡ 0 = grind (arith, common_steps) in
    rw (sym c.answer_of-answer.ensures, none, eq-eqb _ _ c.if-answer-v.false.1) refl
