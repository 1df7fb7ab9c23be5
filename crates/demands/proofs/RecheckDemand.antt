-- Which records a wrong table affected, and that all others are right.
use Rattle.laws.{proofs.Basics.{◌≡◌, refl, sym, ap, ◌∙◌, subst, List, ⊎_elim, ℕ, ◌+◌, ◌*◌, ◌≤◌, ◌<◌, arith, length, get_or}, specs.Lists.{list_from}, specs.Counting.{count_below}, specs.Sums.{sum_below}}
use Rattle.laws.proofs.Counting.{tally_as}
use lib.Count.{count_leading_zeros}
use Rattle.selection.{specs.computed.Allowed.{allows_of}, specs.Cell.{row, column}, specs.computed.Outcomes.{made_table, made_of}, proofs.MadeTables.{kept_passes}, specs.declared.Estimate.{Estimate}}
use Rattle.selection.specs.declared.Estimate.TheVariants.{EightBits}
use Rattle.recurrence.{specs.Recurrence.{Operands, after, next_of, result_of}, specs.computed.Recheck.{AffectedRunAccepts, strays_below, affected_run_rules, affected_run_of}, proofs.Digits.{divisor_after}}
use Rattle.recurrence.proofs.{RightRuns.{wrong_decides, run_mark_right, run_mark_claim, mark_is}, RecheckRun.{affected_run_admits, run_rechecks_right, run_rechecks_one}, RunDemand.{result_divides}}
use Rattle.division.specs.computed.{Binary64Steps.{ratio_through, binary64_through}, Binary64.{binary64_of}, Format.{binary64_values}, WholeSteps.{shifted_run}}
use Rattle.division.specs.{computed.Recheck.{RecheckAccepts, RecordClaim, is_affected, affected_of}, computed.RecheckWhole.{RecheckWholeAccepts, recheck_whole_of}, declared.format.Binary64.{Binary64}}
use Rattle.division.proofs.{AdmittedAnswers.{binary64_answer}, Classes.{nonzero_quotient}, Binary64Through.{binary64_through_law}}
use Rattle.division.proofs.Rechecking.{affected_decides, record_claim, operand_right, recheck_admits, rechecks_right, rechecks_one}
use Rattle.division.proofs.{RecheckingWhole.{whole_decides, whole_claim, recheck_whole_admits, whole_rechecks_right, whole_rechecks_one}, RecheckExamples.{recheck_examples}}
use Rattle.ieee.{specs.Directions.{Pinned}, proofs.Ieee754.{ieee_754}}
use Rattle.demands.specs.computed.RecheckDemand.{RecheckRunTold, RecheckTold, RecheckCallExample, EstimatesTold, RecheckDemand}

call_example : RecheckCallExample
unfolding made_table list_from made_of allows_of after next_of strays_below is_affected count_below sum_below count_leading_zeros
call_example = record { samples = refl; whole = refl; whole_unaffected = refl }

estimates : EstimatesTold
unfolding made_table list_from made_of allows_of after next_of strays_below is_affected affected_run_rules
estimates = record { by_seven = refl; by_eight = refl; run_by_seven = refl; run_by_eight = refl }

-- in a divider with the estimate E
module _ (E : Estimate) where
  -- an unmarked record is what the call over the kept table answers, and what IEEE 754 asks for
  as_kept : (t : List ℕ) (a b direction : ℕ) {m : ℕ} → RecordClaim E t a b m → m ≡ 0 → direction ≤ 3
      → (binary64_values (binary64_through E t direction a b) ≡ binary64_of (made_table EightBits) direction a b) × Pinned direction a b (binary64_through E t direction a b).pattern
  as_kept t a b direction c e h =
      let k = ap binary64_values (c.same e EightBits (made_table EightBits) (kept_passes EightBits) direction ∙ binary64_through_law EightBits (made_table EightBits) direction a b (kept_passes EightBits)) ∙ sym (binary64_answer (made_table EightBits) (kept_passes EightBits) direction a b h) in
      (k, subst (λ (x : Binary64). Pinned direction a b x.pattern) (sym k) (ieee_754.kept.pinned direction a b h))

  told : (t currents sensitivities given : List ℕ) → length t ≡ 2048 → length currents ≡ length sensitivities → length currents ≤ length given → RecheckTold E t currents sensitivities given
  told t currents sensitivities given size pairs room =
      let accepted : RecheckAccepts (length t) (length currents) (length sensitivities) (length given) = record { pairs = pairs; room = room; size = size } in
      let marks = (rechecks_right E t currents sensitivities given).rechecks accepted in
      let claim : (j : ℕ) → j < length currents → RecordClaim E t (get_or currents j 0) (get_or sensitivities j 0) (get_or (affected_of E t currents sensitivities given).affected j 0) = λ j h. record_claim E t (get_or currents j 0) (get_or sensitivities j 0) (marks.each j h) in
      record {
        done = rw (recheck_admits (length t) (length currents) (length sensitivities) (length given) accepted) refl;
        rechecked = marks;
        claim = claim;
        mark = λ j h. mark_is _ (affected_decides E t (get_or currents j 0) (get_or sensitivities j 0)) (marks.each j h);
        count = tally_as (λ j h. (marks.each j h).marked) (λ j h. (claim j h).affected) marks.count;
        by_class = λ j h n. (marks.each j h).unmarked (λ a. ⊎_elim (λ f. f a.dividend) (λ f. f a.divisor) n);
        unmarked = λ j h a b. ((claim j h).run a b).right;
        marked = λ j h a b. ((claim j h).run a b).wrong;
        cell = λ j h e. let w = (claim j h).affected e in let r = ((claim j h).run w.dividend w.divisor).faulty e in (r.step, r.early, r.faulty);
        kept = λ j h e direction l. (as_kept t _ _ direction (claim j h) e l).0;
        pinned = λ j h e direction l. (as_kept t _ _ direction (claim j h) e l).1;
      }

  run_told : (t : List ℕ) (N D n : ℕ) → length t ≡ 2048 → Operands N D → 1 ≤ n → n ≤ 31 → RecheckRunTold E t N D n
  run_told t N D n size o h l =
      let accepted : AffectedRunAccepts (length t) N D n = record { operands = o; some = h; most = l; size = size } in
      let m = (run_rechecks_right E t N D n).rechecks accepted in
      let c = run_mark_claim E t N D n o h m in
      record {
        done = rw (affected_run_admits (length t) N D n accepted) refl;
        claim = c;
        mark = mark_is _ (wrong_decides E t N D n o h) m;
        unmarked = (λ z. let r = c.right.0 z in (r.digits, r.result), λ x. c.right.1 (record { digits = x.0; result = x.1 }));
        marked = c.wrong;
        words = c.words;
        neither = λ z f. ⊎_elim (λ x. absurd (omega (arith, f x.step x.early, x.above))) (λ x. (x.number, x.less_one)) (c.neither z);
      }

  -- § 17.1 The burned table is taken as it is, whatever its bytes.
  pub recheck_demand : RecheckDemand E
  unfolding ratio_through shifted_run result_of after next_of
  recheck_demand = record {
    byte = λ t N D i. ap (λ (d : ℕ). get_or t (128 * row d + column E (after E t N D i).sum (after E t N D i).carry) 0) (divisor_after E t N D i);
    step = λ t N D i. refl;
    result = λ t N D n. refl;
    run = λ t N D n o h. run_mark_claim E t N D n o h (run_mark_right E t N D n o h);
    passes = λ t p N D n o h. (run_mark_claim E t N D n o h (run_mark_right E t N D n o h)).right.1 (record { digits = λ i l. p.table.digits _; result = result_divides E t N D n p o h });
    run_answer = run_rechecks_right E;
    run_one = λ t N D n x r. run_rechecks_one E t N D n x (affected_run_of E t N D n) r (run_rechecks_right E t N D n);
    run_told = run_told;
    operand = operand_right;
    formed = λ t a b. refl;
    rounds = λ t direction a b h k. rw (nonzero_quotient a b h k) refl;
    answer = rechecks_right E;
    one = λ t currents sensitivities given x r. rechecks_one E t currents sensitivities given x (affected_of E t currents sensitivities given) r (rechecks_right E t currents sensitivities given);
    told = told;
    whole_answer = whole_rechecks_right E;
    whole_one = λ t a b x r. whole_rechecks_one E t a b x (recheck_whole_of E t a b) r (whole_rechecks_right E t a b);
    whole_told = λ t a b e h p l.
        let accepted : RecheckWholeAccepts (length t) a b = record { dividend = h; divisor = l; some = p; size = e } in
        let m = (whole_rechecks_right E t a b).rechecks accepted in
        let k = whole_claim E t a b h p l m in
        record {
          done = rw (recheck_whole_admits (length t) a b accepted) refl;
          claim = k;
          mark = mark_is _ (whole_decides E t a b h p l) m;
          unmarked = k.right;
          marked = k.wrong;
          cell = λ x. let r = k.run.faulty x in (r.step, r.early, r.faulty);
          formed = refl;
          digits = refl;
        };
    examples = recheck_examples;
    call_example = call_example;
    estimates = estimates;
  }
