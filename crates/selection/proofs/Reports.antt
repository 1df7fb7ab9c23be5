-- The computed report is the check's answer in the specification's words, and a table is admitted exactly if it passes.
use Rattle.laws.proofs.Basics.{◌≡◌, refl, sym, subst, ap, ◌∙◌, List, [], ◌∷◌, ℕ, ◌+◌, ◌*◌, ◌/◌, ◌%◌, ◌≤◌, ◌<◌, arith, ltb, ltb→lt, nltb→le, lt-ltb, length, get_or, T, true}
use Rattle.laws.{proofs.Tests.{by_cond, Decides, less_decides}, specs.Search.{First, first_from}, specs.Counting.{count_below}, proofs.Counting.{count_tally, some_counted}, proofs.Comparisons.{equal}}
use Rattle.std.proofs.Common.{not-le_of_lt}
use Rattle.std.proofs.lemmas.Bool.{not-true}
use Rattle.std.specs.Prelude.{⊤, Option, Some, None, IsSome, Result, Ok, Err}
use Rattle.selection.specs.{computed.Refusals.{number_first, first_refusal, rank}, Cell.{Allows, digit}, computed.Cell.{CellChecked}, Table.{Table, BadAt, Passes}}
use Rattle.selection.specs.computed.{Table.{form_rules, Checked, ReportMeaning, AnswerMeaning, table_rules}, Allowed.{above_four, is_bad, is_bad_in}}
use Rattle.selection.specs.{computed.Outcomes.{verdict_at, bad_report, report_at, passed_report, table_report, report_of}, Answer.{refusal, report_zeros}}
use Rattle.selection.specs.{computed.Answer.{report_numbers, admission, admission_of, first_of, answer_by}, declared.Witness.{Witness}, declared.Refusal.{Refusal}}
use Rattle.selection.specs.declared.{table.Outcome.{Outcome}, table.TableVerdict.{TableVerdict}}
use Rattle.selection.specs.{computed.TableRow.{TableRow}, declared.Estimate.{Estimate}}
use Rattle.selection.specs.declared.table.Outcome.TheVariants as O
use Rattle.selection.proofs.{BiasedPoints.{not_allowed, allows_unless, test_checked}, Allowed.{bad_decides, bad_in_row}, Tables.{table_of, cell_at, cell_row, cell_column, first_bad_of}, CellTests.{disallowed_some}}
use Rattle.selection.proofs.{OneRule.{found, not_found, past}, Rules.{WellFormed, by_first, first_is, rules_append}, RuleByRule.{none_clear, cleared, clear_admits, refused_at}}
use Rattle.selection.proofs.{Counts.{row_first}, UniqueReport.{checked_one}}
pub use Rattle.selection.proofs.UniqueReport.{form_rules_law}

-- no rule of its form refuses a table
pub form_admitted : {t : List ℕ} → Table t → Ok tt ≡ first_refusal (form_rules t)
form_admitted {t} a = sym (clear_admits (form_rules_law t) (a.size, ((λ k h x. not-le_of_lt x (a.digits k)), tt)))

module _ (E : Estimate) where
  module _ (t : List ℕ) where
    -- and they pass if no cell is bad
    passes_of : Table t → ((k : ℕ) → k < 2048 → BadAt E t k → ⊥) → Passes E t
    passes_of a n = record { table = a; allowed = λ k h. allows_unless E (cell_at a k h) (λ D P x. n k h (record { byte = a.digits k; divisor = D; remainder = P; against = x })) }

    bad : Table t → let k = first_from (is_bad E t) 0 2048 in k < 2048 → Checked E t (Ok (report_at E (count_below (is_bad E t) 2048) t k))
    bad a h =
        let k = first_from (is_bad E t) 0 2048 in
        go k h (found (is_bad E t) 2048 (bad_decides E a) refl h).1 (verdict_at E (k / 128) (k % 128) (get_or t k 0)) (test_checked E (cell_at a k h))
      where
        go : (k : ℕ) → k < 2048 → First (BadAt E t) k → (v : Option Witness) → CellChecked E (k / 128) (k % 128) (get_or t k 0) (Ok v) → Checked E t (Ok (bad_report (count_below (is_bad E t) 2048) (k / 128) (k % 128) v))
        go k h f None j = absurd (not_allowed E f.here.against j.means.1)
        go k h f (Some w) j = record { means = (a, count_tally (is_bad E t) 2048 (bad_decides E a), first_bad_of E h f j.means.1) }

  -- the report of a first bad cell, by its row and its column
  pub report_in : (n : ℕ) (t : List ℕ) (r : ℕ) {c k : ℕ} {v w : Option Witness} → c ≡ k → k ≤ 127 → v ≡ verdict_at E r c (get_or t (128 * r + c) 0) → v ≡ w → bad_report n r c w ≡ report_at E n t (128 * r + k)
  report_in n t r {c} {k} f h e g = rw (cell_row r k h, cell_column r k h, ← f, ← g) (ap (bad_report n r c) e)

  -- and that cell has a witness
  pub bad_some : (t : List ℕ) (r : ℕ) {c : ℕ} {v : Option Witness} → c ≡ first_from (is_bad_in E t r) 0 128 → first_from (is_bad_in E t r) 0 128 ≤ 127 → v ≡ verdict_at E r c (get_or t (128 * r + c) 0) → IsSome v
  bad_some t r {c} f h e =
      let f' = is_bad_in E t r in
      let x = (found {P = λ j. f' j ≡ true} f' 128 (λ j l. record { yes = λ y. y; no = λ y q. subst T (sym q ∙ y) tt }) f (omega arith)).1 in
      rw e (disallowed_some E r c _ (not-true _ (bad_in_row E t r c (omega arith) ∙ x.here)))

  -- the report of the table, by the first row with a bad cell: of a row that is known by another name
  pub report_row : (t : List ℕ) (row : ℕ) {v : TableRow} {k n : ℕ} → v ≡ record { estimate = E; row = row } → row < 16 → 0 ≡ count_below (is_bad E t) (128 * row) → k ≡ count_below (is_bad_in v.estimate t v.row) 128 → 0 < k → n ≡ count_below (is_bad E t) 2048
      → report_at v.estimate n t (128 * v.row + first_from (is_bad_in v.estimate t v.row) 0 128) ≡ table_report E t
  report_row t row same h z e l f =
      let c = first_from (is_bad_in E t row) 0 128 in
      let some : c < 128 = some_counted (is_bad_in E t row) 128 (rw (e, same) at l) in
      rw (same, f, row_first (is_bad E t) row h z some, lt-ltb (128 * row + c) 2048 (omega arith))

  -- the computed report is the check's answer
  -- § 4.1 The check counts the bad cells and says passed, or shows the first with its witness.
  pub report_checked : (t : List ℕ) → Checked E t (report_of E t)
  unfolding report_of
  report_checked t = by_first (form_rules_law t) (λ v. Checked E t (answer_by Err (Ok (table_report E t)) v))
      (λ m.
      let c = none_clear (form_rules_law t) m in
      let a = table_of t c.0 c.1.0 in
      by_cond (λ a. Checked E t (Ok a)) (ltb (first_from (is_bad E t) 0 2048) 2048) _ _ (λ h. bad t a (ltb→lt _ _ h)) (λ h. record { means = (passes_of t a (not_found (is_bad E t) 2048 (bad_decides E a) (nltb→le _ _ h)), refl) }))
      (λ f m. record { means = m })

  -- a table is answered by its cells
  pub report_table : {t : List ℕ} → Table t → Ok (table_report E t) ≡ report_of E t
  unfolding report_of
  report_table {t} a = ap (answer_by Err (Ok (table_report E t))) (form_admitted a)

  -- a table that passes is answered so
  passes_report : {t : List ℕ} → Passes E t → report_of E t ≡ Ok passed_report
  passes_report {t} p = checked_one E _ _ (report_checked t) (record { means = (p, refl) })

  -- in numbers: no refusal, no cell and no witness
  pub report_passed : {t : List ℕ} → Passes E t → report_numbers (report_of E t) ≡ report_zeros (refusal 0 0)
  report_passed p = ap report_numbers (passes_report p)

  -- what the check's answer admits is what the rules of a table give
  pub table_rules_law : (t : List ℕ) → WellFormed (table_rules E t)
  unfolding table_rules rank
  table_rules_law t =
      let d : (k : ℕ) → k < 2048 → Decides (4 < get_or t k 0) (above_four t k) = λ k h. less_decides 4 (get_or t k 0) in
      record { sound = (tt, λ a. (d, λ b. (bad_decides E (table_of t (equal (length t) 2048 (λ n. a 0 (refl, n))) (past (number_first 9 _ (above_four t) 2048) d b)), λ _. tt))); in_order = tt }

  pub admission_rules : (t : List ℕ) → admission (report_of E t) ≡ first_refusal (table_rules E t)
  unfolding table_rules
  admission_rules t = answered (report_of E t) (report_checked t).means
    where
      go : (n : ℕ) (o : Outcome) → ReportMeaning E t n o → admission_of o ≡ first_refusal (table_rules E t)
      go n O.Passed w = sym (clear_admits (table_rules_law t) (w.0.table.size, ((λ k h x. not-le_of_lt x (w.0.table.digits k)), ((λ k h x. not_allowed E x.against (w.0.allowed k h)), tt))))
      go n (O.Bad b) w = sym (refused_at (table_rules_law t) 2 _ (w.0.size, ((λ k h x. not-le_of_lt x (w.0.digits k)), (omega (arith, w.2.row, w.2.column), w.2.first))))

      answered : (a : Result TableVerdict Refusal) → AnswerMeaning E t a → admission a ≡ first_refusal (table_rules E t)
      answered (Ok a) w = go a.count a.outcome w
      answered (Err f) w = sym (rules_append (form_rules t) (number_first 10 (BadAt E t) (is_bad E t) 2048 ∷ []) ∙ ap (λ (v : Result ⊤ Refusal). first_of v (first_refusal (number_first 10 (BadAt E t) (is_bad E t) 2048 ∷ []))) (first_is (form_rules_law t) _ _ w))

  -- a table passes exactly if it is admitted
  -- § 4.4 Calls that divide take a table exactly if it passes.
  pub passes_admitted : {t : List ℕ} → Passes E t → admission (report_of E t) ≡ Ok tt
  passes_admitted p = ap admission (passes_report p)

  -- § 4.4 Calls that divide take a table exactly if it passes.
  pub admitted_passes : {t : List ℕ} → admission (report_of E t) ≡ Ok tt → Passes E t
  unfolding table_rules
  admitted_passes {t} e = let c = cleared (table_rules_law t) (sym (admission_rules t) ∙ e) in passes_of t (table_of t c.0 c.1.0) c.1.1.0

  -- the digit of a table that passes, at a row and a column
  pub passes_at : {t : List ℕ} → Passes E t → (r c : ℕ) → r ≤ 15 → c ≤ 127 → Allows E r c (digit (get_or t (128 * r + c) 0))
  passes_at p r c hr hc = rw (cell_row r c hc, cell_column r c hc) at (p.allowed (128 * r + c) (omega arith))

  -- what the code of `passing` asks: what the report refuses, by its case
  pub report_refuses : (t : List ℕ) {a : TableVerdict} {o : Outcome} → Ok a ≡ report_of E t → a.outcome ≡ o → admission_of o ≡ first_refusal (table_rules E t)
  report_refuses t e f = ap admission_of (sym f) ∙ ap admission e ∙ admission_rules t

  -- what the report says, by its case
  pub report_means : (t : List ℕ) {a : TableVerdict} {o : Outcome} → Ok a ≡ report_of E t → a.outcome ≡ o → ReportMeaning E t a.count o
  report_means t {a} e f = subst (ReportMeaning E t a.count) f (subst (Checked E t) (sym e) (report_checked t)).means
