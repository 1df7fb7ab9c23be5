-- What the listing program prints, as a list of bytes: the specification, section 19.2. A line of names, then one line per bad cell in index order, values
-- in decimal: row, column, digit, the witness's D, its P. For 8 or 9 it prints, instead of all that, the two lines of the refusal.
use Rattle.std.specs.Prelude.{◌≡◌, List, [], ◌++◌, ℕ, zero, suc, ◌/◌, ◌%◌, length, get_or, take, Option, Some, None, Result, Ok, Err}
use Rattle.selection.specs.Cell.{Allows, LeastWitness, digit}
use Rattle.selection.specs.Table.{Table}
use Rattle.selection.specs.computed.Table.{NoTable}
use Rattle.selection.specs.computed.Outcomes.{cell_of, report_of}
use Rattle.selection.specs.declared.Refusal.{Refusal}
use Rattle.selection.specs.declared.Witness.{Witness}
use Rattle.selection.specs.declared.table.TableVerdict.{TableVerdict}
use Rattle.printing.specs.Text.{ascii, decimal_of, signed_of, refusal_text}
use Rattle.listing.specs.declared.Line.{Line}
use Rattle.selection.specs.declared.Estimate.{Estimate}

-- a line's text: numbers parted by one space, and the end of the line
abbrev pub witness_text : Witness → List ℕ
witness_text w = (decimal_of w.divisor ++ ascii " ") ++ (signed_of w.remainder ++ ascii "\n")

abbrev pub line_text : Line → List ℕ
line_text l = (decimal_of l.row ++ ascii " ") ++ ((decimal_of l.column ++ ascii " ") ++ ((signed_of l.digit ++ ascii " ") ++ witness_text l.witness))

-- the text of what the listing has of a cell
abbrev pub text_of : Option Line → List ℕ
text_of None = []
text_of (Some l) = line_text l

-- the line of names
abbrev pub names : List ℕ
names = ascii "row column digit divisor remainder\n"

-- in a divider with the estimate E
module _ (E : Estimate) where
  -- the five values are those of cell k of the table t
  pub record CellValues (t : List ℕ) (k : ℕ) (l : Line) : Type 0 where
    pub row_is : l.row ≡ k / 128
    pub column_is : l.column ≡ k % 128
    pub digit_is : l.digit ≡ digit (get_or t k 0)
    pub witness_is : LeastWitness E l.row l.column l.digit l.witness.divisor l.witness.remainder

  -- l is what the listing has of cell k of the table t: nothing where its digit is allowed, and otherwise the five values
  abbrev pub LineMeaning : List ℕ → ℕ → Option Line → Type 0
  LineMeaning t k None = Allows E (k / 128) (k % 128) (digit (get_or t k 0))
  LineMeaning t k (Some l) = CellValues t k l

  pub record Listed (t : List ℕ) (k : ℕ) (l : Option Line) : Type 0 where
    pub means : LineMeaning t k l

  -- x is the text of the lines of the first n cells, in index order
  pub data Lines (t : List ℕ) : ℕ → List ℕ → Type 0 where
    none : Lines t 0 []
    more : {n : ℕ} {x : List ℕ} {l : Option Line} → Listed t n l → Lines t n x → Lines t (suc n) (x ++ text_of l)

  -- x is the line of names and the lines of the table t
  pub record TableLists (t x : List ℕ) : Type 0 where
    pub rest : List ℕ
    pub lines : Lines t 2048 rest
    pub whole : x ≡ names ++ rest

  -- x is all that is printed for the bytes t of standard input: of a table the line of names and the lines of its cells, and of no table the two lines of the refusal
  -- § 19.2 `listing` prints a line for each bad cell, and nothing else fits.
  pub record Lists (t x : List ℕ) : Type 0 where
    pub table : Table t → TableLists t x
    pub refused : (f : Refusal) → NoTable t f.number f.place → x ≡ refusal_text f

  -- x is all that is printed where a read of standard input has put n bytes at the start of the buffer s: it is the listing of every input that gives these
  -- bytes, all of it or as much as the buffer holds. So the buffer has to hold one byte more than a table
  -- § 19.1 Input of another length is refusal 8.
  pub record ListsRead (s : List ℕ) (n : ℕ) (x : List ℕ) : Type 0 where
    pub lists : (t : List ℕ) → take n s ≡ take (length s) t → Lists t x

-- The same, computed. A reader need not believe what is below: `line_listed`, `lists` show that it is the listing in the specification's words, and `listed_one`,
-- `lists_one` that there is no other

-- the line of cell k by the verdict on it. No cell of a table is refused
abbrev pub line_from : List ℕ → ℕ → Result (Option Witness) Refusal → Option Line
line_from t k (Ok None) = None
line_from t k (Ok (Some w)) = Some (record { row = k / 128; column = k % 128; digit = digit (get_or t k 0); witness = w })
line_from t k (Err f) = None

-- in a divider with the estimate E
module _ (E : Estimate) where
  unfoldable pub line_of : List ℕ → ℕ → Option Line
  line_of t k = line_from t k (cell_of E (k / 128) (k % 128) (get_or t k 0))

  -- the lines of the first n cells, in index order
  unfoldable pub lines_upto : List ℕ → ℕ → List ℕ
  lines_upto t zero = []
  lines_upto t (suc n) = lines_upto t n ++ text_of (line_of t n)

  -- a table's text: the line of names, and the lines of its 2,048 cells
  abbrev pub table_text : List ℕ → List ℕ
  table_text t = names ++ lines_upto t 2048

  -- all that is printed, by the check's answer to the bytes t
  abbrev pub text_for : List ℕ → Result TableVerdict Refusal → List ℕ
  text_for t (Ok a) = table_text t
  text_for t (Err f) = refusal_text f

  -- all that is printed for the bytes t of standard input
  unfoldable pub listing_of : List ℕ → List ℕ
  listing_of t = text_for t (report_of E t)
