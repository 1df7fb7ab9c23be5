-- How many bytes a read of the input has put at the start of the buffer, whether a read failed or not.
use Rattle.std.specs.Prelude.{ℕ, Result, Ok, Err}
use Rattle.printing.specs.declared.input.CutShort.{CutShort}

abbrev pub count_of : Result ℕ CutShort → ℕ
count_of (Ok n) = n
count_of (Err e) = e.count
