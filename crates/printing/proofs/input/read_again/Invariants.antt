-- `printing::input::read_again`: a read that failed takes nothing of a reader.
use Rattle.std.specs.Io.KnownBytes.{Keeps}
use Rattle.printing.proofs.input.read_again.Given as goal

abbrev pub invariant-loop : goal.invariant-loop
invariant-loop g l = Keeps (g.R.Read.remaining l.initial.reader) (g.R.Read.remaining l.reader)
