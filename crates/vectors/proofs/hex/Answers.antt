-- `vectors::hex`: one digit more, for which there is room before the last of 16.
use Rattle.laws.proofs.Basics.{ℕ, ◌^◌, ◌<◌, arith}
use native.Mathlib.Nat.{pow-le-pow_right}
use Rattle.vectors.proofs.hex.Goals as goal

room : {v : ℕ} (i : ℕ) → v < 16 ^ i → i < 16 → v < 2 ^ 60
room i h l = omega (arith, pow-le-pow_right {n = 16} (omega arith) {i = i} {j = 15} (omega arith))

pub overflow_mul-value : goal.overflow_mul-value
overflow_mul-value c = omega (arith, room _ c.loop-c.invariant.small (omega arith))

pub overflow_add-value : goal.overflow_add-value
overflow_add-value c = omega (arith, room _ c.loop-c.invariant.small (omega arith))
