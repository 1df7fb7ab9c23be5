-- `vectors::run_file`: fewer bytes than the buffer holds are the whole file.
use Rattle.laws.proofs.Basics.{lt-leb, arith, ap}
use Rattle.std.proofs.Common.{Some}
use Rattle.vectors.proofs.run_file.Goals as goal

pub returns-in-Ok : goal.returns-in-Ok
returns-in-Ok c =
    record { buffer = c.read_file.new.bytes; count = Some c.in-Ok.count; told = rw (lt-leb 896001 c.in-Ok.count (omega arith)) (ap Some c.count_lines.ensures) }

pub count_lines-requires : goal.count_lines-requires
count_lines-requires c = omega arith
