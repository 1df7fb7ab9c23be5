-- What the answers to a table and to a cell tell a caller, by their cases.
use Rattle.laws.proofs.Basics.{◌≡◌, refl, sym, subst, ◌∙◌, List, ℕ, ◌≤◌}
use Rattle.std.specs.Prelude.{Option, Result, Ok, Err}
use Rattle.selection.specs.{computed.Answer.{cell_numbers, cell_zeros}, declared.Refusal.{Refusal}, computed.Cell.{cell_rules, CellMeaning}, computed.CellTest.{multiples_of, test_of, cell_verdict_of}}
use Rattle.selection.specs.{computed.CellTest.Finding.{NoWitness, LeastAt}, computed.Outcomes.{cell_of, report_of}, Table.{Table}, declared.Witness.{Witness}}
use Rattle.selection.specs.declared.{table.BadCell.{BadCell}, table.TableVerdict.{TableVerdict}, Estimate.{Estimate}}
use Rattle.selection.proofs.{RefusalNames.{refusal, answer_by, Wrongs, first_refusal, Refuses, refuses}, BiasedPoints.{cell_rules_law, cell_checked, known_not_refused}, Reports.{report_means}}
use Rattle.selection.specs.declared.table.Outcome.TheVariants as O

module _ (E : Estimate) where
  -- the check's answer, by its case
  pub passed_table : (t : List ℕ) {a : TableVerdict} → Ok a ≡ report_of E t → a.outcome ≡ O.Passed → Table t
  passed_table t e f = (report_means E t e f).0.table

  pub bad_table : (t : List ℕ) {a : TableVerdict} {b : BadCell} → Ok a ≡ report_of E t → a.outcome ≡ O.Bad b → Table t
  bad_table t e f = (report_means E t e f).0

  -- a single cell's answer, by its case
  pub verdict_says : (r c b : ℕ) {v w : Result (Option Witness) Refusal} → v ≡ cell_of E r c b → v ≡ w → CellMeaning E r c b w
  verdict_says r c b e f = subst (CellMeaning E r c b) (sym e ∙ f) (cell_checked E r c b).means

  -- no cell and digit are refused
  pub never_refused : (r c b : ℕ) {v : Result (Option Witness) Refusal} {f : Refusal} {X : Type 0} → r ≤ 15 → c ≤ 127 → b ≤ 4 → v ≡ cell_of E r c b → v ≡ Err f → X
  never_refused r c b hr hc hb e f = known_not_refused (record { row = hr; column = hc; byte = hb }) (verdict_says r c b e f)

  -- a single cell refuses by its rules, with zeros besides
  pub cell_refuses : (r c b : ℕ) → Refuses (Wrongs (cell_rules r c b)) (λ x. x.refusal) cell_zeros (cell_numbers (cell_of E r c b))
  cell_refuses r c b =
      let v : Result (Option Witness) Refusal = Ok (cell_verdict_of (test_of (multiples_of E r) c b)) in
      let numbers = elim (first_refusal (cell_rules r c b)) as (λ a. cell_numbers (answer_by Err v a) ≡ answer_by cell_zeros (cell_numbers v) a) [ Ok u ↦ refl | Err f ↦ refl ] in
      let none = elim (test_of (multiples_of E r) c b) as (λ h. (cell_numbers (Ok (cell_verdict_of h))).refusal ≡ refusal 0 0) [ NoWitness ↦ refl | LeastAt d w ↦ refl ] in
      subst (Refuses (Wrongs (cell_rules r c b)) (λ x. x.refusal) cell_zeros) (sym numbers) (refuses (cell_rules_law r c b) (λ x. x.refusal) cell_zeros (cell_numbers v) none (λ f. refl) refl)
