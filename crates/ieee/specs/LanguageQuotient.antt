-- The logic has its own account of IEEE 754 (lib.Ieee): what the language's f64, its `/` and its `<=` mean.
use Rattle.std.specs.Prelude.{ℕ, Float}
use Rattle.std.specs.Float.{binary64}
use Rattle.std.specs.Float.Ieee.{div, of_bits, to_bits}

-- what a pattern stands for
abbrev pub value_of : ℕ → Float
value_of p = of_bits binary64 p

-- the pattern of the language's own quotient
abbrev pub language_quotient : ℕ → ℕ → ℕ
language_quotient a b = to_bits binary64 (div binary64 (value_of a) (value_of b))

-- the pattern of 1
abbrev pub one : ℕ
one = 0x3FF0_0000_0000_0000
