-- What `result_row`, which only our own crates call, asks of the 128 bytes that it is lent.
use Rattle.std.specs.Prelude.{◌≡◌, ℕ, List}
use Rattle.selection.specs.Cell.{row}
use Rattle.selection.specs.Table.{Passes}
use Rattle.selection.specs.computed.Table.{row_bytes}
use Rattle.selection.specs.declared.Estimate.TheVariants.{EightBits}

-- the bytes are the row of the divisor D in a table that passes
pub record Row (D : ℕ) (bytes : List ℕ) : Type 0 where
  pub table : List ℕ
  pub passes : Passes EightBits table
  pub is : bytes ≡ row_bytes table (row D)
