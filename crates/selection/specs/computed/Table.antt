-- What is refused of a table, and the check's report: the specification, sections 4 and 18.
use Rattle.std.specs.Prelude.{◌≡◌, ℕ, ◌+◌, ◌*◌, ◌<◌, ◌≤◌, List, [], ◌∷◌, ◌++◌, length, take, drop, ℤ, slice_index, Result, Ok, Err}
use Rattle.laws.specs.Search.{First}
use Rattle.laws.specs.Counting.{Tally}
use Rattle.selection.specs.computed.Refusals.{Rule, differ, number, number_first, Wrongs, IsFirstRefusal}
use Rattle.selection.specs.computed.Allowed.{above_four, is_bad}
use Rattle.selection.specs.Cell.{LeastWitness, digit}
use Rattle.selection.specs.declared.table.Outcome.{Outcome}
use Rattle.selection.specs.declared.table.Outcome.TheVariants.{Passed, Bad}
use Rattle.selection.specs.declared.table.TableVerdict.{TableVerdict}
use Rattle.selection.specs.declared.Refusal.{Refusal}
use Rattle.selection.specs.declared.Estimate.{Estimate}
use Rattle.selection.specs.Table.{BadAt, Passes, Table}

-- the 128 bytes of row r
abbrev pub row_bytes : List ℕ → ℕ → List ℕ
row_bytes t r = take 128 (drop (128 * r) t)

-- refused as no table: 8, length not 2,048; 9, a byte above 4, the place is the first such index
abbrev pub form_rules : List ℕ → List Rule
form_rules t = number 8 (differ (length t) 2048) ∷ number_first 9 (λ k. 4 < slice_index t k) (above_four t) 2048 ∷ []

abbrev pub NoTable : List ℕ → ℕ → ℕ → Type 0
NoTable t n p = IsFirstRefusal (Wrongs (form_rules t)) n p

-- in a divider with the estimate E
module _ (E : Estimate) where
  -- what each call refuses that is lent a table, after its arguments: then 10, a bad cell; the place is the first
  -- § 18.1 Each condition has a number and a place.
  unfoldable pub table_rules : List ℕ → List Rule
  table_rules t = form_rules t ++ (number_first 10 (BadAt E t) (is_bad E t) 2048 ∷ [])

  -- the first bad cell, with its witness
  pub record FirstBad (t : List ℕ) (r c D : ℕ) (P : ℤ) : Type 0 where
    pub row : r ≤ 15
    pub column : c ≤ 127
    pub first : First (BadAt E t) (128 * r + c)
    pub witness : LeastWitness E r c (digit (slice_index t (128 * r + c))) D P

  -- what each outcome of the check says, with n as its count
  abbrev pub ReportMeaning : List ℕ → ℕ → Outcome → Type 0
  ReportMeaning t n Passed = Passes E t × (n ≡ 0)
  ReportMeaning t n (Bad b) = Table t × Tally (BadAt E t) 2048 n × FirstBad t b.row b.column b.witness.divisor b.witness.remainder

  -- what each answer of the check says
  abbrev pub AnswerMeaning : List ℕ → Result TableVerdict Refusal → Type 0
  AnswerMeaning t (Ok a) = ReportMeaning t a.count a.outcome
  AnswerMeaning t (Err f) = NoTable t f.number f.place

  -- a is the check's answer to the table t
  -- § 4.1 The check counts the bad cells and says passed, or shows the first with its witness.
  pub record Checked (t : List ℕ) (a : Result TableVerdict Refusal) : Type 0 where
    pub means : AnswerMeaning t a
