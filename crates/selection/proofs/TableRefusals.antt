-- What a call makes of its arguments' refusal and the table's.
use Rattle.std.specs.Prelude.{⊤, Result, Ok, Err}
use Rattle.laws.proofs.Basics.{◌≡◌, refl, sym, ap, ◌∙◌, List, ◌++◌, ℕ, T}
use Rattle.selection.specs.{computed.Answer.{first_of, admission_in, answer_by}, computed.Table.{table_rules}, Table.{Passes}, computed.Outcomes.{made_table}, computed.Refusals.{Rule, first_refusal}}
use Rattle.selection.specs.declared.{Refusal.{Refusal}, Estimate.{Estimate}}
use Rattle.selection.proofs.{Rules.{WellFormed, ranked, rules_append, sound_append}, MadeTables.{kept_passes}, Reports.{passes_admitted, admission_rules, table_rules_law}}

module _ (E : Estimate) where
  -- the table's rules after a call's own
  pub lent : (rs : List Rule) (t : List ℕ) → WellFormed rs → T (ranked 0 (rs ++ table_rules E t)) → WellFormed (rs ++ table_rules E t)
  lent rs t c o = record { sound = sound_append rs (table_rules E t) c.sound (table_rules_law E t).sound; in_order = o }

  -- no table that passes is refused
  pub passed_last : {t : List ℕ} → Passes E t → (rs : List Rule) → first_refusal (rs ++ table_rules E t) ≡ first_refusal rs
  passed_last {t} p rs =
      rules_append rs (table_rules E t) ∙ ap (first_of (first_refusal rs)) (sym (admission_rules E t) ∙ passes_admitted E p)
      ∙ elim (first_refusal rs) as (λ v. first_of v (Ok tt) ≡ v) [ Ok u ↦ refl | Err f ↦ refl ]

  -- the first refusal of a call with a lent table: that of its arguments, or else that of the answer r of `passing`
  pub first_refused : (rs : List Rule) (t : List ℕ) {a : Result ⊤ Refusal} {f : Refusal} → a ≡ first_refusal rs → a ≡ Err f → first_refusal (rs ++ table_rules E t) ≡ Err f
  first_refused rs t e g = rules_append rs (table_rules E t) ∙ ap (λ (v : Result ⊤ Refusal). first_of v (first_refusal (table_rules E t))) (sym e ∙ g)

  pub first_lent : {X : Type 0} (rs : List Rule) (t : List ℕ) {a : Result ⊤ Refusal} {r v : Result X Refusal} → a ≡ first_refusal rs → a ≡ Ok tt → admission_in r ≡ first_refusal (table_rules E t) → r ≡ v
      → first_refusal (rs ++ table_rules E t) ≡ admission_in v
  first_lent rs t e f g h = rules_append rs (table_rules E t) ∙ ap (λ (v : Result ⊤ Refusal). first_of v (first_refusal (table_rules E t))) (sym e ∙ f) ∙ sym g ∙ ap admission_in h

  -- and of one over the kept table
  pub first_kept : (rs : List Rule) {a u : Result ⊤ Refusal} → a ≡ first_refusal rs → a ≡ u → first_refusal (rs ++ table_rules E (made_table E)) ≡ u
  first_kept rs e g = passed_last (kept_passes E) rs ∙ sym e ∙ g

  -- what is refused is the same through every table that passes, and so is what is read off the answer by h if it is so where nothing is refused
  pub same_through : {X Y : Type 0} (h : X → Y) (zeros : Refusal → X) {x y : X} {t u : List ℕ} → Passes E t → Passes E u → (rs : List Rule) → (first_refusal rs ≡ Ok tt → h x ≡ h y)
      → h (answer_by zeros x (first_refusal (rs ++ table_rules E t))) ≡ h (answer_by zeros y (first_refusal (rs ++ table_rules E u)))
  same_through h zeros {x} {y} p q rs e = rw (passed_last p rs, passed_last q rs)
      ((elim (first_refusal rs) as (λ v. (v ≡ Ok tt → h x ≡ h y) → h (answer_by zeros x v) ≡ h (answer_by zeros y v)) [ Ok u ↦ λ k. k refl | Err f ↦ λ k. refl ]) e)
