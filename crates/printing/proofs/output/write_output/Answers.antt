-- `printing::output::write_output` meets its contract: what one write more takes stands behind what was taken before.
use Rattle.std.proofs.Common.{sym, subst, rules}
use Rattle.std.proofs.lemmas.List.{take_rest}
use Rattle.std.specs.Io.KnownBytes.{Appends}
use Rattle.std.proofs.KnownBytes.{Appends-trans}
use lib.Seq.{take-add}
use Rattle.printing.proofs.output.write_output.Goals as goal

pub loop-count-preserved : goal.loop-count-preserved
loop-count-preserved g c =
    let joined = sym (take-add c.loop-count.count c.in-Ok.more c.args.bytes.now) in
    (search rules, subst (Appends _ _) joined (Appends-trans _ _ _ _ _ c.loop-count.invariant.1 (rw take_rest at c.in-Ok.ensures.bytes)))
