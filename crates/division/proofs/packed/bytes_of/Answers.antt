-- `bytes_of` meets its contract: two digits a byte, the last byte first.
use Rattle.laws.proofs.Basics.{arith}
use Rattle.division.proofs.PackedBytes.{set_more, set_all}
use Rattle.division.proofs.packed.bytes_of.Goals as goal

pub loop-i-preserved : goal.loop-i-preserved
loop-i-preserved c = set_more c.loop-i.invariant (omega arith)

pub returns : goal.returns
returns c = set_all c.loop-i.invariant (omega arith)
