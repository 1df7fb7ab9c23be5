-- `repair::repair` meets its contract: the call's answer tells a repair from a refusal.
use Rattle.laws.proofs.Basics.{◌≡◌, ℕ, arith, replicate, length-replicate}
use Rattle.std.proofs.lemmas.Grind.{common_steps}
use Rattle.printing.proofs.Texts.{adds_first}
use Rattle.repair.proofs.Writing.{Called, writes_table}
use Rattle.repair.proofs.repair.Goals as goal

pub returns : goal.returns
returns c =
    let r = c.repair_table-answer in
    let k : Called c.args.estimate c.args.bytes.now (replicate 2048 0) (replicate 2048 0) (record { answer = r.result; repaired = r.new.repaired; changed = r.new.changed }) =
    record { table_room = length-replicate {A = ℕ} 2048 0; marks_room = length-replicate {A = ℕ} 2048 0; outcome = r.ensures } in
    let n : r.result.refusal.number ≡ 0 = grind (arith, common_steps) in
    let whole = rw c.unwrap-read_back.ensures at c.as_array.ensures.cases in
    rw (adds_first c.requires.0.none c.push.ensures) (writes_table _ k n (rw whole.same at (adds_first c.requires.1.none c.push_changes.ensures)))
