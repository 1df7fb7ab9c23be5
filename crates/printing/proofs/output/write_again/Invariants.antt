-- `printing::output::write_again`: a write that failed hands nothing to a writer.
use Rattle.std.specs.Io.KnownBytes.{Keeps}
use Rattle.printing.proofs.output.write_again.Given as goal

abbrev pub invariant-loop : goal.invariant-loop
invariant-loop g l = Keeps (g.W.Write.contents l.initial.writer) (g.W.Write.contents l.writer)
