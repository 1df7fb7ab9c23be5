-- `vectors::hex`: after i digits the value is what they spell, below 16^i.
use Rattle.std.proofs.Common.{◌≡◌, ◌^◌, ◌<◌, take}
use Rattle.vectors.specs.Vectors.{hex_of}
use Rattle.vectors.proofs.hex.Given as goal

abbrev pub invariant-loop-c : goal.invariant-loop-c
invariant-loop-c l = record { value : l.value ≡ hex_of (take l.c-index l.digits); small : l.value < 16 ^ l.c-index }
