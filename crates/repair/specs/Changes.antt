-- What the repair program writes, as lists of bytes: the specification, section 19.4. On standard output the repaired table, and on standard error its text: a line
-- of names, one line per changed cell in index order, values in decimal (row, column, the byte read back, the new byte), and the number of changes with the bits of the divider that they
-- are for. For refusal 8 it writes nothing on standard output, and on standard error the two lines of the refusal.
use Rattle.std.specs.Prelude.{◌≡◌, cond, List, [], ◌++◌, ℕ, zero, suc, ◌/◌, ◌%◌, eqb, length, get_or, take}
use Rattle.selection.specs.Answer.{refusal}
use Rattle.selection.specs.computed.Bits.{bits_of}
use Rattle.selection.specs.computed.Outcomes.{made_table, repair_of}
use Rattle.selection.specs.computed.RepairDemand.{read_back}
use Rattle.printing.specs.Text.{ascii, decimal_of, refusal_text}
use Rattle.selection.specs.declared.Estimate.{Estimate}
use Rattle.selection.specs.declared.Estimate.TheVariants.{EightBits}

-- of cell k: nothing where its byte b stays, and otherwise the four values
abbrev pub cell_text : ℕ → ℕ → ℕ → List ℕ
cell_text k b new = cond (eqb b new) [] ((decimal_of (k / 128) ++ ascii " ") ++ ((decimal_of (k % 128) ++ ascii " ") ++ ((decimal_of b ++ ascii " ") ++ (decimal_of new ++ ascii "\n"))))

-- of the first n cells, where the table t was read back and u is the repaired one
unfoldable pub cells_upto : List ℕ → List ℕ → ℕ → List ℕ
cells_upto t u zero = []
cells_upto t u (suc n) = cells_upto t u n ++ cell_text n (get_or t n 0) (get_or u n 0)

-- the whole text, with n changes
abbrev pub changes_text : Estimate → List ℕ → List ℕ → ℕ → List ℕ
changes_text E t u n = ascii "row column byte new\n" ++ (cells_upto t u 2048 ++ (ascii "changes " ++ ((decimal_of n ++ ascii " for ") ++ (decimal_of (bits_of E) ++ ascii " bits\n"))))

-- an example of a line: row 1, column 87, 2 read back, 4 in its place; and a cell that is not changed has none
pub record LineExample : Type 0 where
  pub changed : cell_text 215 2 4 ≡ ascii "1 87 2 4\n"
  pub same : cell_text 215 4 4 ≡ []

-- in a divider with the estimate E
module _ (E : Estimate) where
  -- x is all of standard output and y all of standard error, for the bytes t of standard input
  -- § 19.4 `repair` writes the changes and the repaired table.
  pub record Writes (t x y : List ℕ) : Type 0 where
    -- the table is what the call leaves in a buffer of 2,048 bytes, and the number of changes is its answer's
    pub repaired : length t ≡ 2048 → (rs cs : List ℕ) → length rs ≡ 2048 → length cs ≡ 2048 → (x ≡ (repair_of E t rs cs).repaired) × (y ≡ changes_text E t x (repair_of E t rs cs).answer.count)
    pub refused : (length t ≡ 2048 → ⊥) → (x ≡ []) × (y ≡ refusal_text (refusal 8 0))

  -- the same where a read of standard input has put n bytes at the start of the buffer s: for every input that gives these bytes, all of it or as much as the buffer holds. So the
  -- buffer has to hold one byte more than a table
  -- § 19.1 Input of another length is refusal 8.
  pub record WritesRead (s : List ℕ) (n : ℕ) (x y : List ℕ) : Type 0 where
    pub writes : (t : List ℕ) → take n s ≡ take (length s) t → Writes t x y

-- a whole text, and the table beside it: the made table read back with 9 for its byte 0 and 2 for its byte 215
-- § 19.4 A repair is printed whole.
pub record WholeExample : Type 0 where
  pub writes : (x y : List ℕ) → Writes EightBits (read_back EightBits) x y → (x ≡ made_table EightBits) × (y ≡ ascii "row column byte new\n0 0 9 2\n1 87 2 4\nchanges 2 for 8 bits\n")
  pub refused : (x y : List ℕ) → Writes EightBits [] x y → (x ≡ []) × (y ≡ ascii "refusal place\n8 0\n")
