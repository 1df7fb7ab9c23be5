-- The check, the maker and the repair, as C is told.
use Rattle.laws.proofs.{Basics.{◌≡◌, refl, ap, ◌∙◌, ⊎_elim, List, [], ℕ, ◌/◌, ◌%◌, ◌<◌, arith, length}, Lists.{list_value, fill_at, fill_kept}}
use Rattle.selection.specs.{computed.Answer.{report_numbers, cell_numbers}, Maker.{Made}, computed.Outcomes.{report_of, cell_of, row_limits_of, make_of, made_at, made_table, repair_of}}
use Rattle.selection.specs.{computed.Maker.{MakeOutcome}, computed.Repair.{RepairOutcome}, Answer.{refusal, report_zeros}, declared.Refusal.{Refusal}, declared.numbers.Cell.{Cell}}
use Rattle.selection.{specs.declared.numbers.Report.{Report}, specs.declared.maker.Limits.{Limits}, proofs.RefusalNames.{refusal_of, answer_by, clear_admits, refused_at, refused_by}}
use Rattle.selection.proofs.{Reports.{report_checked, report_passed, table_rules_law}, RefusedExactly.{refused_exactly}, MadeTables.{made_table_is, make_done, limits_told}}
use Rattle.selection.proofs.{UniqueMade.{limits_rules_law, make_rules_law}, BiasedPoints.{cell_rules_law}, RepairDemand.{repair_demand}, RepairAnswers.{repair_rules_law}}
use Rattle.selection.specs.declared.Estimate.{Estimate}
use Rattle.demands.proofs.{Demand1.{demand_1}, Demand3.{demand_3}, ByCases.{of_table, table_cases}}
use Rattle.demands.specs.Calls.{OfTable, ChecksTable, ChecksCell, TellsLimits, MakesTable, RepairsTable}

-- in a divider with the estimate E
module _ (E : Estimate) where
  -- what the check refuses of a table
  told : (t : List ℕ) → OfTable E t (λ n p. ((report_numbers (report_of E t)).refusal ≡ refusal n p) × (n < 10 → report_numbers (report_of E t) ≡ report_zeros (refusal n p)))
  told t = of_table E t [] refl (λ n p h f.
      let d = demand_1.check_table E t in
      let i = ((refused_by (table_rules_law E t)).exactly n p h).0 (ap refusal_of f) in
      ((d.by.exactly n p h).1 i, λ l. d.besides n p (λ e. omega (arith, l, e)) i))

  pub checks_table : {t : List ℕ} {x : Report} → x ≡ report_numbers (report_of E t) → ChecksTable E t x
  checks_table {t} e = rw e (record {
    passed = (
      (λ z. table_cases E t (λ n p f. absurd (omega (arith, z, ap (λ (r : Refusal). r.number) (f _ (told t)).0, f (λ m q. 0 < m) (omega arith)))) (λ ok. ok)),
      (λ ok. ap (λ (x : Report). x.refusal.number) (report_passed E ok)),
    );
    nothing = report_passed E;
    refuses = told t;
    bad = λ h. refused_exactly E h (report_checked E t);
  })

  pub checks_cell : {r c b : ℕ} {x : Cell} → x ≡ cell_numbers (cell_of E r c b) → ChecksCell E r c b x
  checks_cell {r} {c} {b} e = rw e (record {
    outside = λ h. ap cell_numbers (ap (answer_by _ _) (refused_at (cell_rules_law r c b) 0 0 (refl, h)));
    byte = λ hr hc h. ap cell_numbers (ap (answer_by _ _) (refused_at (cell_rules_law r c b) 1 _ ((hr, hc), (refl, h))));
    verdict = λ hr hc hb. demand_3.cells E r c b (record { row = hr; column = hc; byte = hb });
  })

  pub tells_limits : {r : ℕ} {x : Limits} → x ≡ row_limits_of E r → TellsLimits E r x
  tells_limits {r} e = rw e (record {
    outside = λ h. ap (answer_by _ _) (refused_at (limits_rules_law r) 0 0 (refl, h));
    nothing = λ h. rw (clear_admits (limits_rules_law r) (h, tt)) refl;
    limits = λ h. (limits_told E r).limits (λ n p. ⊎_elim (λ w. omega (arith, w.1.1)) (λ z. z));
  })

  made_value : (k : ℕ) → k < 2048 → Made E (k / 128) (k % 128) (made_at E k)
  unfolding made_table
  made_value k h = rw (list_value (made_at E) 0 2048 k h) at ((made_table_is E).made k h)

  pub makes_table : {s : List ℕ} {x : MakeOutcome} → x ≡ make_of E s → MakesTable E s x.buffer x.answer
  makes_table {s} e = record {
    short = λ h. rw (e, refused_at (make_rules_law (length s)) 0 0 (refl, h)) (refl, refl);
    nothing = λ h. rw (e ∙ make_done E s h refl) refl;
    cells = λ h k l. rw (e ∙ make_done E s h refl, fill_at (made_at E) s 0 2048 k l) (made_value k l);
    kept = λ h. rw (e ∙ make_done E s h refl) (fill_kept (made_at E) 2048 s h);
  }

  pub repairs_table : {t rs cs : List ℕ} {x : RepairOutcome} → x ≡ repair_of E t rs cs → RepairsTable E t rs cs x.repaired x.changed x.answer
  repairs_table {t} {rs} {cs} e =
      let rules = repair_rules_law (length t) (length rs) (length cs) in
      rw e (record {
        room = λ h. rw (refused_at rules 0 0 (refl, h)) (refl, refl, refl);
        size = λ a b h. rw (refused_at rules 1 0 ((a, b), (refl, h))) (refl, refl, refl);
        done = λ h a b. let d = (repair_demand E).told t rs cs h a b in record {
          nothing = d.done;
          made = λ k l. (d.repaired.cell k l).made;
          copied = λ k l. (d.repaired.cell k l).copied;
          marked = λ k l. (d.repaired.cell k l).marked;
          unmarked = λ k l. (d.repaired.cell k l).unmarked;
          count = d.repaired.count;
          repaired_kept = d.repaired.repaired_kept;
          changed_kept = d.repaired.changed_kept;
          passes = d.claim.passes;
          least = d.claim.least;
        };
      })
