-- Demand 1: the answers of all calls are those of their lists of rules.
use Rattle.laws.proofs.{Basics.{◌≡◌, refl, sym, ap, subst, ◌∙◌, List, ◌++◌, ⊎_elim, ℕ, ◌+◌, ◌*◌, arith, ltb, ltb→lt, length}, Tests.{upto_at}}
use Rattle.selection.specs.{Answer.{refusal, report_zeros}, computed.Answer.{answer_by, admission, admission_of, outcome_numbers, cell_zeros, report_numbers}, computed.Bits.{bits_rules, estimate_of, check_table_for}}
use Rattle.selection.specs.computed.{Maker.{limits_zeros, make_refused}, Repair.{repair_refused}}
use Rattle.std.specs.Prelude.{⊤, Result, Ok, Err}
use Rattle.selection.{proofs.RefusalNames.{refusal_of, rank, table_rules, first_is, refused_by, refuses, passed_last}, specs.declared.Refusal.{Refusal}}
use Rattle.selection.specs.{computed.Table.{ReportMeaning, AnswerMeaning}, computed.Outcomes.{report_of}, declared.table.Outcome.{Outcome}, declared.table.TableVerdict.{TableVerdict}}
use Rattle.selection.proofs.{Verdicts.{cell_refuses}, Rules.{by_number}, ForBits.{bits_first, bits_besides, bits_refused_by, bits_refuses, bits_number}, MadeTables.{kept_passes, limits_told}}
use Rattle.selection.proofs.{BiasedPoints.{cell_rules_law}, UniqueMade.{limits_rules_law, make_rules_law}, RepairAnswers.{repair_rules_law}, Reports.{report_checked, table_rules_law, admission_rules}}
use Rattle.selection.specs.declared.{Estimate.{Estimate}, Estimate.TheVariants.{EightBits}}
use Rattle.selection.specs.declared.table.Outcome.TheVariants as O
use Rattle.recurrence.{specs.computed.Run.{run_rules}, proofs.Refusals.{run_rules_law, run_lent}, proofs.StepRange.{step_lent}, proofs.VisitCounts.{visits_lent}}
use Rattle.recurrence.{specs.computed.Recheck.{affected_run_rules, mark_zeros}, proofs.RecheckRun.{affected_run_rules_law, run_rechecks_right}}
use Rattle.division.{specs.computed.Whole.{whole_rules}, specs.computed.Format.{direction_rules}, proofs.DivisionCalls.{whole_rules_law, whole_lent, binary64_rules, binary64_lent}}
use Rattle.division.{proofs.SampleRuns.{samples_lent}, specs.computed.Recheck.{affected_refused}, proofs.Rechecking.{recheck_rules_law, rechecks_right}}
use Rattle.division.proofs.{RecheckingWhole.{recheck_whole_rules_law, whole_rechecks_right}, PackedCalls.{packed_refuses}, RatioCalls.{ratios_refuse}, RootCalls.{root_rules_law}}
use Rattle.demands.specs.computed.Demand1.{Carries, CheckRefuses, Demand1}
use Rattle.exposure.proofs.Averages.{averages_right}

-- the check, from its report
module _ (E : Estimate) (t : List ℕ) where
  besides : (m n p : ℕ) (o : Outcome) → admission_of o ≡ Err (refusal n p) → (n ≡ 10 → ⊥) → outcome_numbers m o ≡ report_zeros (refusal n p)
  besides m n p O.Passed e l = cc
  besides m n p (O.Bad b) e l = absurd (l (sym (ap (λ (v : Result ⊤ Refusal). (refusal_of v).number) e)))

  carries : (m p : ℕ) (o : Outcome) → ReportMeaning E t m o → admission_of o ≡ Err (refusal 10 p) → Carries E t p (outcome_numbers m o)
  carries m p O.Passed w e = let z : ◌≡◌ {A = ℕ} 0 1 = cc in absurd (omega arith)
  carries m p (O.Bad b) w e = let z : 128 * b.row + b.column ≡ p = ap (λ (v : Result ⊤ Refusal). (refusal_of v).place) e in record { count = w.1; cell = z; witness = rw z at w.2.witness }

  told : (a : Result TableVerdict Refusal) → (report_numbers a).refusal ≡ refusal_of (admission a)
  told (Ok a) = elim a.outcome as (λ o. (outcome_numbers a.count o).refusal ≡ refusal_of (admission_of o)) [ O.Passed ↦ refl | O.Bad b ↦ refl ]
  told (Err f) = refl

  zeros_besides : (n p : ℕ) (a : Result TableVerdict Refusal) → admission a ≡ Err (refusal n p) → (n ≡ 10 → ⊥) → report_numbers a ≡ report_zeros (refusal n p)
  zeros_besides n p (Ok a) e l = besides a.count n p a.outcome e l
  zeros_besides n p (Err f) e l = cc

  carried : (p : ℕ) (a : Result TableVerdict Refusal) → AnswerMeaning E t a → admission a ≡ Err (refusal 10 p) → Carries E t p (report_numbers a)
  carried p (Ok a) w e = carries a.count p a.outcome w e
  carried p (Err f) w e = let z : f.number ≡ 10 = cc in absurd (⊎_elim (λ u. omega (arith, u.0)) (⊎_elim (λ u. omega (arith, u.0)) (λ u. u)) w.holds)

  checked : CheckRefuses (table_rules E t) E t (report_numbers (report_of E t))
  checked = record {
    by = rw (told (report_of E t) ∙ ap refusal_of (admission_rules E t)) (refused_by (table_rules_law E t));
    besides = λ n p l x. zeros_besides n p (report_of E t) (admission_rules E t ∙ first_is (table_rules_law E t) n p x) l;
    carries = λ p x. carried p (report_of E t) (report_checked E t).means (admission_rules E t ∙ first_is (table_rules_law E t) 10 p x);
  }

-- and for a number of bits
checked_for : (bits : ℕ) (t : List ℕ) → CheckRefuses (bits_rules bits ++ table_rules (estimate_of bits) t) (estimate_of bits) t (check_table_for bits t)
unfolding rank table_rules
checked_for bits t =
    let E = estimate_of bits in
    let c = table_rules_law E t in
    let x = checked E t in
    record {
      by = bits_refused_by bits c tt report_zeros (report_numbers (report_of E t)) (λ x. x.refusal) (λ f. refl) x.by;
      besides = λ n p l. bits_besides bits c tt report_zeros (report_numbers (report_of E t)) n p (x.besides n p l);
      carries = λ p y. ⊎_elim
          (λ e. absurd (omega (arith, bits_number bits e)))
          (λ z. subst (λ (v : Result ⊤ Refusal). Carries E t p (answer_by report_zeros (report_numbers (report_of E t)) v)) (sym z.0) (x.carries p z.1))
          (bits_first bits c tt y);
    }

-- § 18.3 Each call refuses by its own rules, in that order.
-- § 21.1 Demand 1 holds.
pub demand_1 : Demand1
unfolding rank affected_run_rules
demand_1 =
    record {
      zeros = search;
      order = by_number;
      order_11 = omega arith;
      order_12 = omega arith;
      order_14 = omega arith;
      order_15 = omega arith;
      order_16 = omega arith;
      order_17 = λ m h. ltb→lt (rank 17) (rank (m + 1)) (upto_at (λ k. ltb (rank 17) (rank (k + 1))) 16 tt m h);
      check_cell = cell_refuses;
      row_limits = λ E r. (limits_told E r).refuses;
      make_table = λ E s. refuses (make_rules_law (length s)) _ _ _ refl (λ f. refl) refl;
      repair = λ E t rs cs. refuses (repair_rules_law (length t) (length rs) (length cs)) _ _ _ refl (λ f. refl) refl;
      check_table = checked;
      check_cell_for_law = λ bits r c b. bits_refuses bits (cell_rules_law r c b) tt cell_zeros _ (λ x. x.refusal) (λ f. refl) (cell_refuses (estimate_of bits) r c b);
      row_limits_for_law = λ bits r. bits_refuses bits (limits_rules_law r) tt limits_zeros _ (λ x. x.refusal) (λ f. refl) (limits_told (estimate_of bits) r).refuses;
      make_table_for = λ bits s. let c = make_rules_law (length s) in bits_refuses bits c tt (make_refused s) _ _ (λ f. refl) (refuses c _ _ _ refl (λ f. refl) refl);
      repair_for_law = λ bits t rs cs. let c = repair_rules_law (length t) (length rs) (length cs) in bits_refuses bits c tt (repair_refused rs cs) _ _ (λ f. refl) (refuses c _ _ _ refl (λ f. refl) refl);
      check_table_for_law = checked_for;
      admit = λ t. refused_by (table_rules_law EightBits t);
      run = λ t N D n b place. refuses (run_lent N D n (length b) place t) _ _ _ refl (λ f. refl) refl;
      step = λ s k D t. refuses (step_lent s k D t) _ _ _ refl (λ f. refl) refl;
      visits = λ t k n v. refuses (visits_lent k n (length v) t) _ _ _ refl (λ f. refl) refl;
      whole = λ t a b. refuses (whole_lent a b t) _ _ _ refl (λ f. refl) refl;
      binary64 = λ t direction a b. refuses (binary64_lent direction t) _ _ _ refl (λ f. refl) refl;
      samples = λ t direction currents sensitivities given. refuses (samples_lent direction (length currents) (length sensitivities) (length given) t) _ _ _ refl (λ f. refl) refl;
      recheck = λ E t currents sensitivities given. (rechecks_right E t currents sensitivities given).refuses;
      recheck_run = λ E t N D n. (run_rechecks_right E t N D n).refuses;
      recheck_whole = λ E t a b. (whole_rechecks_right E t a b).refuses;
      recheck_for = λ bits t currents sensitivities given.
          bits_refuses bits (recheck_rules_law (length t) (length currents) (length sensitivities) (length given)) tt (affected_refused given) _ (λ x. x.answer.refusal) (λ f. refl) (rechecks_right (estimate_of bits) t currents sensitivities given).refuses;
      recheck_run_for = λ bits t N D n. bits_refuses bits (affected_run_rules_law (length t) N D n) tt mark_zeros _ (λ x. x.refusal) (λ f. refl) (run_rechecks_right (estimate_of bits) t N D n).refuses;
      recheck_whole_for_law = λ bits t a b. bits_refuses bits (recheck_whole_rules_law (length t) a b) tt mark_zeros _ (λ x. x.refusal) (λ f. refl) (whole_rechecks_right (estimate_of bits) t a b).refuses;
      run_kept = λ N D n b place. refuses (run_rules_law N D n (length b) place) _ _ _ refl (λ f. refl) (passed_last EightBits (kept_passes EightBits) (run_rules N D n (length b) place));
      whole_kept = λ a b. refuses (whole_rules_law a b) _ _ _ refl (λ f. refl) (passed_last EightBits (kept_passes EightBits) (whole_rules a b));
      binary64_kept = λ direction a b. refuses (binary64_rules direction) _ _ _ refl (λ f. refl) (passed_last EightBits (kept_passes EightBits) (direction_rules direction));
      packed = packed_refuses;
      compare_ratios = ratios_refuse;
      root_whole = λ a. refuses (root_rules_law a) _ _ _ refl (λ f. refl) refl;
      root_binary64 = λ direction p. refuses (binary64_rules direction) _ _ _ refl (λ f. refl) refl;
      averages = λ xs w newest_first ms rs. (averages_right xs w newest_first ms rs).refuses;
    }
