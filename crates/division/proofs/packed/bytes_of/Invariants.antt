-- `bytes_of` meets its contract: two digits a byte, the last byte first.
use Rattle.division.proofs.PackedBytes.{SetFrom}
use Rattle.division.proofs.packed.bytes_of.Given as goal

abbrev pub invariant-loop-i : goal.invariant-loop-i
invariant-loop-i l = SetFrom l.number l.bytes l.rest l.i
