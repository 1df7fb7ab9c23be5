-- The answers, computed: `cell_of`, `row_limits_of`, `made_table`, `make_of`, `report_of`, `repair_of`. A reader need not believe them: `cell_checked`, `allows_decides`, `limits_right`,
-- `made_table_is`, `report_checked`, `limits_told`, `make_right` and `repairs_right` show that each is the answer in the specification's words, and
-- `cell_checked_one`, `limited_one`, `made_one`, `makes_one`, `checked_one`, `repairs_one` that there is no other.
use Rattle.std.specs.Prelude.{ℕ, ◌+◌, ◌/◌, ◌%◌, cond, List, [], ◌∷◌, ◌++◌, length, drop, nat_lt, slice_index, Option, Some, None, Result, Ok, Err}
use Rattle.laws.specs.Lists.{list_from, filled}
use Rattle.laws.specs.Search.{first_from}
use Rattle.laws.specs.Counting.{count_below}
use Rattle.selection.specs.Answer.{refusal}
use Rattle.selection.specs.computed.Answer.{answer_by}
use Rattle.selection.specs.computed.Cell.{cell_rules}
use Rattle.selection.specs.computed.Allowed.{allows_of, is_bad, is_faulty}
use Rattle.selection.specs.computed.Table.{form_rules}
use Rattle.selection.specs.computed.Maker.{limits_rules, limits_zeros, make_rules, MakeOutcome, make_refused}
use Rattle.selection.specs.computed.Repair.{repair_rules, RepairOutcome, repair_refused}
use Rattle.selection.specs.computed.Refusals.{first_refusal}
use Rattle.selection.specs.computed.CellTest.{multiples_of, test_of, cell_verdict_of}
use Rattle.selection.specs.declared.Refusal.{Refusal}
use Rattle.selection.specs.declared.Witness.{Witness}
use Rattle.selection.specs.declared.table.Outcome.TheVariants as O
use Rattle.selection.specs.declared.table.TableVerdict.{TableVerdict}
use Rattle.selection.specs.declared.maker.Limits.{Limits}
use Rattle.selection.specs.declared.cell.RowMultiples.TheInside.{Inside}
use Rattle.selection.specs.declared.Estimate.{Estimate}

-- the columns at which the made digits of a row change: -2 begins past the last column without a point, -1 and 0 past the last in which they are too low, 1 and 2 past
-- the last in which 0 and 1 are not too high, and 0 again past the last column with a point
abbrev pub limits_by : Inside → List ℕ
limits_by m = (m.minus8 + 1) ∷ (m.minus5 + 1) ∷ (m.minus2 + 1) ∷ (m.plus2 + 1) ∷ (m.plus5 + 1) ∷ (m.plus8 + 1) ∷ []

abbrev pub passed_report : TableVerdict
passed_report = record { count = 0; outcome = O.Passed }

-- the report of a table with n bad cells, the first of them (r, c), by the verdict on that cell: a bad cell has a witness
abbrev pub bad_report : ℕ → ℕ → ℕ → Option Witness → TableVerdict
bad_report n r c None = passed_report
bad_report n r c (Some w) = record { count = n; outcome = O.Bad (record { row = r; column = c; witness = w }) }

-- in a divider with the estimate E
module _ (E : Estimate) where
  -- the verdict on a cell of a table
  abbrev pub verdict_at : ℕ → ℕ → ℕ → Option Witness
  verdict_at r c b = cell_verdict_of (test_of (multiples_of E r) c b)

  abbrev pub cell_of : ℕ → ℕ → ℕ → Result (Option Witness) Refusal
  cell_of r c b = answer_by Err (Ok (verdict_at r c b)) (first_refusal (cell_rules r c b))

  -- the first allowed of 0, -1, 1, -2 and 2, as a byte
  unfoldable pub made_of : ℕ → ℕ → ℕ
  made_of r c =
      let zero : ℕ = cond (allows_of E r c 0) 0 4 in
      let three : ℕ = cond (allows_of E r c 3) 3 zero in
      let one : ℕ = cond (allows_of E r c 1) 1 three in
      cond (allows_of E r c 2) 2 one

  abbrev pub made_at : ℕ → ℕ
  made_at k = made_of (k / 128) (k % 128)

  -- § 5.4 The kept table is the one made for eight bits.
  unfoldable pub made_table : List ℕ
  made_table = list_from made_at 0 2048

  -- the maker's outcome, where the buffer held s
  abbrev pub make_of : List ℕ → MakeOutcome
  make_of s = answer_by (make_refused s) (record { answer = refusal 0 0; buffer = made_table ++ drop 2048 s }) (first_refusal (make_rules (length s)))

  unfoldable pub limits_of : ℕ → List ℕ
  limits_of r = limits_by (multiples_of E r)

  abbrev pub row_limits_of : ℕ → Limits
  row_limits_of r = answer_by limits_zeros (record { refusal = refusal 0 0; limits = limits_of r }) (first_refusal (limits_rules r))

  -- where it is at the index k of t
  abbrev pub report_at : ℕ → List ℕ → ℕ → TableVerdict
  report_at n t k = bad_report n (k / 128) (k % 128) (verdict_at (k / 128) (k % 128) (slice_index t k))

  -- the report of 2,048 bytes from 0 to 4
  abbrev pub table_report : List ℕ → TableVerdict
  table_report t =
      let bad = first_from (is_bad E t) 0 2048 in
      cond (nat_lt bad 2048) (report_at (count_below (is_bad E t) 2048) t bad) passed_report

  -- the check's answer
  unfoldable pub report_of : List ℕ → Result TableVerdict Refusal
  report_of t = answer_by Err (Ok (table_report t)) (first_refusal (form_rules t))

  -- the repair of cell k: the made digit where it is faulty, and any other byte as it is; and the mark of a changed cell
  unfoldable pub repaired_byte : List ℕ → ℕ → ℕ
  repaired_byte t k = cond (is_faulty E t k) (made_at k) (slice_index t k)

  unfoldable pub change_mark : List ℕ → ℕ → ℕ
  change_mark t k = cond (is_faulty E t k) 1 0

  -- the repair's outcome for the table t, where the two buffers held rs and cs
  abbrev pub repair_of : List ℕ → List ℕ → List ℕ → RepairOutcome
  repair_of t rs cs = answer_by (repair_refused rs cs)
      (record { answer = record { refusal = refusal 0 0; count = count_below (is_faulty E t) 2048 }; repaired = filled (repaired_byte t) 2048 rs; changed = filled (change_mark t) 2048 cs })
      (first_refusal (repair_rules (length t) (length rs) (length cs)))
