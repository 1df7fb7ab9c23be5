-- The arguments of a call, case by case: the first rule that refuses them, or none. A call has one answer if it has one in each case.
use Rattle.laws.proofs.{Basics.{◌≡◌, refl, ap, ◌∙◌, ⊎_elim, List, [], ◌∷◌, ◌++◌, ℕ, ◌<◌, arith, List·getD-eq-default}, Comparisons.{not_below}, Division.{le_or_lt}}
use Rattle.selection.proofs.{RefusalNames.{refusal, first_of, Rule, WellFormed, first_refusal, table_rules, clear_admits, refused_at}, OneRule.{Tells, Past, decided, past_not}, Rules.{rules_append}}
use Rattle.std.specs.Prelude.{⊤, Result, Ok, Err}
use Rattle.selection.specs.{computed.Refusals.{Wrong}, Table.{Table, Passes}, declared.Refusal.{Refusal}}
use Rattle.selection.{proofs.Reports.{table_rules_law, admission_rules, admitted_passes}, specs.declared.Estimate.{Estimate}}
use Rattle.demands.specs.{Calls.{OfTable}, Determined.{Determined}}

-- P is proved where the rule refuses, and where it is past; of the rules of a call, each where those before it are past
module _ {P : Type 0} where
  pub by_rule : (r : Rule) → Tells r → ((p : ℕ) → Wrong r p → P) → (Past r → P) → P
  by_rule r t f g = ⊎_elim (λ x. f x.0 x.1) (λ x. g x.0) (decided r t)

  pub one_rule : {r : Rule} → WellFormed (r ∷ []) → ((p : ℕ) → Wrong r p → P) → (Past r → P) → P
  one_rule {r} l = by_rule r l.sound.0

  pub two_rules : {r s : Rule} → WellFormed (r ∷ s ∷ []) → ((p : ℕ) → Wrong r p → P) → (Past r → (p : ℕ) → Wrong s p → P) → (Past r → Past s → P) → P
  two_rules {r} {s} l f g h = by_rule r l.sound.0 f (λ x. by_rule s (l.sound.1 (past_not r x)).0 (g x) (h x))

  pub three_rules : {r s t : Rule} → WellFormed (r ∷ s ∷ t ∷ []) → ((p : ℕ) → Wrong r p → P) → (Past r → (p : ℕ) → Wrong s p → P) → (Past r → Past s → (p : ℕ) → Wrong t p → P)
      → (Past r → Past s → Past t → P) → P
  three_rules {r} {s} {t} l f g h k = by_rule r l.sound.0 f (λ x. let m = l.sound.1 (past_not r x) in by_rule s m.0 (g x) (λ y. by_rule t (m.1 (past_not s y)).0 (h x y) (k x y)))

-- in a divider with the estimate E
module _ (E : Estimate) where
  -- a table is refused, with one number and place for every call; or it passes
  pub table_cases : (t : List ℕ) {P : Type 0} → ((n p : ℕ) → ((R : ℕ → ℕ → Type 0) → OfTable E t R → R n p) → P) → (Passes E t → P) → P
  unfolding table_rules
  table_cases t f g = three_rules (table_rules_law E t)
      (λ p w. f 8 0 (λ R o. o.size w.1))
      (λ e p w. f 9 p (λ R o. o.byte p e w.0 w.1.here (λ i h. not_below (w.1.before i h))))
      (λ e digits p w.
      let table : Table t = record { size = e; digits = λ k. ⊎_elim (λ l. rw (List·getD-eq-default t 0 {n = k} (omega arith)) (omega arith)) (λ l. not_below (digits k l)) (le_or_lt 2048 k) } in
      f 10 p (λ R o. o.cell p table w.0 w.1.here w.1.before))
      (λ e digits good. g (admitted_passes E (admission_rules E t ∙ clear_admits (table_rules_law E t) (e, (digits, (good, tt))))))

  -- what a call says of a table that it is lent, once for every call
  pub of_table : (t : List ℕ) (rs : List Rule) {R : ℕ → ℕ → Type 0} → first_refusal rs ≡ Ok tt
      → ((n p : ℕ) → 0 < n → first_refusal (rs ++ table_rules E t) ≡ Err (refusal n p) → R n p) → OfTable E t R
  unfolding table_rules
  of_table t rs a f =
      let last : first_refusal (rs ++ table_rules E t) ≡ first_refusal (table_rules E t) = rules_append rs (table_rules E t) ∙ ap (λ (v : Result ⊤ Refusal). first_of v (first_refusal (table_rules E t))) a in
      record {
        size = λ h. f 8 0 (omega arith) (last ∙ refused_at (table_rules_law E t) 0 0 (refl, h));
        byte = λ p e l h b. f 9 p (omega arith) (last ∙ refused_at (table_rules_law E t) 1 p (e, (l, record { here = h; before = λ j k g. omega (arith, b j k) })));
        cell = λ p w l h b. f 10 p (omega arith) (last ∙ refused_at (table_rules_law E t) 2 p (w.size, ((λ j k g. omega (arith, w.digits j)), (l, record { here = h; before = b }))));
      }

  -- of a table that passes nothing is refused
  pub none_refused : {t : List ℕ} {R : ℕ → ℕ → Type 0} → Passes E t → OfTable E t R
  none_refused ok = record {
    size = λ h. absurd (h ok.table.size);
    byte = λ p _ l h _. absurd (omega (arith, ok.table.digits p));
    cell = λ p _ l h _. absurd (h.against.broken (ok.allowed p l h.divisor h.remainder h.against.point));
  }

-- one answer, whole or part by part; and by a contract that says as much
module _ {X : Type 0} {C : X → Type 0} where
  pub sole : {v : X} → ((x : X) → C x → x ≡ v) → Determined C
  sole {v} f = record { answer = v; only = f }

  pub sole_by : {D : X → Type 0} → Determined D → ((x : X) → C x → D x) → Determined C
  sole_by d f = sole (λ x c. d.only x (f x c))

pub sole_pair : {X Y : Type 0} {C : X × Y → Type 0} {v : X} {w : Y} → ((z : X × Y) → C z → (z.0 ≡ v) × (z.1 ≡ w)) → Determined C
sole_pair {v} {w} f = sole {v = (v, w)} (λ z c. let e = f z c in λ i. (e.0 i, e.1 i))

pub sole_triple : {X Y Z : Type 0} {C : X × Y × Z → Type 0} {u : X} {v : Y} {w : Z} → ((z : X × Y × Z) → C z → (z.0 ≡ u) × (z.1 ≡ v) × (z.2 ≡ w)) → Determined C
sole_triple {u} {v} {w} f = sole {v = (u, v, w)} (λ z c. let e = f z c in λ i. (e.0 i, e.1 i, e.2 i))
