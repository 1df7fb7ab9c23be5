use Rattle.laws.proofs.Basics.{◌≡◌, take, leb}
use Rattle.std.specs.List.{list_all}
use Rattle.selection.proofs.table.none_above.Given as goal

abbrev pub invariant-loop-byte : goal.invariant-loop-byte
invariant-loop-byte l = l.none ≡ list_all (λ b. leb b 4) (take l.byte-index l.table)
