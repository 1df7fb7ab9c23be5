-- Demand 3, whole.
use Rattle.laws.proofs.Basics.{refl, sym, ap, ◌∙◌}
use Rattle.selection.{proofs.RefusalNames.{admits, passed_last}, specs.computed.Outcomes.{cell_of, report_of, made_table}, specs.declared.numbers.Report.{Report}, proofs.UniqueReport.{checked_one}}
use Rattle.selection.proofs.{Reports.{report_checked, report_passed, admitted_passes, table_rules_law, admission_rules}, MadeTables.{kept_passes}, BiasedPoints.{cell_checked}}
use Rattle.selection.{proofs.RefusedExactly.{refused_exactly, cell_told}, proofs.TableRefusals.{same_through}, specs.declared.Estimate.TheVariants.{EightBits}}
use Rattle.recurrence.proofs.RunDemand.{run_claim, runs_right, results_same, run_same}
use Rattle.division.{specs.computed.Whole.{whole_rules, whole_zeros, whole_values}, specs.computed.Format.{direction_rules}, proofs.WholeThrough.{whole_divides}, proofs.Binary64Through.{binary64_through_law}}
use Rattle.division.proofs.{DivisionCalls.{whole_spans}, SampleRuns.{samples_same}}
use Rattle.demands.specs.computed.Demand3.{Demand3}
use Rattle.demands.proofs.Demand1.{demand_1}

-- § 21.3 Demand 3 holds.
pub demand_3 : Demand3
demand_3 =
    record {
      runs = run_claim;
      steps = runs_right;
      results = results_same;
      same = λ t u p q. record {
        run = run_same t u p q;
        whole = λ a b. same_through EightBits (λ x. x) whole_zeros p q (whole_rules a b) (λ e.
            let s = whole_spans a b e in
            ap whole_values (whole_divides EightBits t a b p s.0 s.1 s.2 ∙ sym (whole_divides EightBits u a b q s.0 s.1 s.2)));
        binary64 = λ direction a b.
            rw (passed_last EightBits p (direction_rules direction), passed_last EightBits q (direction_rules direction), binary64_through_law EightBits t direction a b p, binary64_through_law EightBits u direction a b q) refl;
        samples = samples_same t u p q;
      };
      refused = λ E t h a c. refused_exactly E h c;
      answered = λ E t. (report_of E t, report_checked E t, λ b c. checked_one E b (report_of E t) c (report_checked E t));
      -- no refusal is the answer to a table that passes
      passed = λ E t a c.
          rw (checked_one E a (report_of E t) c (report_checked E t))
          (λ e. admitted_passes E (admission_rules E t ∙ admits (table_rules_law E t) ((demand_1.check_table E t).by.none.0 e)), λ p. ap (λ (x : Report). x.refusal) (report_passed E p));
      cells = λ E r c b k. cell_told E k (cell_of E r c b) (cell_checked E r c b);
      some = λ E. (made_table E, kept_passes E);
    }
