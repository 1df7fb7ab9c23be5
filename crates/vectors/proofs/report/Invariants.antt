-- `vectors::report`: the lines of the files so far.
use Rattle.vectors.proofs.Reports.{Listed}
use Rattle.vectors.proofs.report.Given as goal

abbrev pub invariant-loop-name : goal.invariant-loop-name
invariant-loop-name l = Listed l.name-index l.out l.total l.unread
