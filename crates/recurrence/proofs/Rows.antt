-- The row of a divisor in a table: its byte at a column, and that it is 128 digit bytes where the table passes.
use Rattle.laws.proofs.Basics.{◌≡◌, List, ℕ, ◌+◌, ◌*◌, ◌<◌, arith, get_or, length-take, length-drop}
use Rattle.std.proofs.Common.{get_or-drop, get_or-take}
use Rattle.selection.{specs.Cell.{row}, specs.Table.{Passes}, specs.computed.Table.{row_bytes}}
use Rattle.selection.specs.declared.Estimate.TheVariants.{EightBits}
use Rattle.recurrence.specs.computed.FastRun.{DigitBytes}

-- its byte at a column is the table's in that cell
pub row_at : (t : List ℕ) (r c : ℕ) → c < 128 → get_or (row_bytes t r) c 0 ≡ get_or t (128 * r + c) 0
row_at t r c h = rw (get_or-take, get_or-drop)

-- it is 128 digit bytes
pub row_digits : {t bytes : List ℕ} (D : ℕ) → Passes EightBits t → bytes ≡ row_bytes t (row D) → DigitBytes bytes
row_digits {t} D p e =
    rw e (record {
      size = rw (length-take, length-drop) (omega (arith, p.table.size));
      small = λ c l. rw (row_at t (row D) c l) (p.table.digits _);
    })
