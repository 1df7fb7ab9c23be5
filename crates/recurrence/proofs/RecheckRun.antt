-- Whether a wrong table affected a run: the refusals of the call, its answer, and that no other answer fits.
use Rattle.std.specs.Prelude.{Ok}
use Rattle.laws.proofs.Basics.{◌≡◌, refl, List, ℕ, arith, length}
use Rattle.selection.{proofs.RefusalNames.{first_refusal, rank, WellFormed, refuses_one, refuses, cleared, clear_admits}}
use Rattle.selection.specs.declared.Estimate.{Estimate}
use Rattle.recurrence.specs.{computed.Recheck.{affected_run_rules, mark_zeros, mark_values, AffectedRunAccepts, RunRechecks, run_mark, affected_run_of}, declared.recheck.AffectedMark.{AffectedMark}}
use Rattle.recurrence.proofs.RightRuns.{wrong_decides, run_mark_right, mark_one}

-- ---- refusals

module _ (len N D n : ℕ) where
  pub affected_run_rules_law : WellFormed (affected_run_rules len N D n)
  unfolding affected_run_rules rank
  affected_run_rules_law = record { sound = (tt, λ _. (tt, λ _. (tt, λ _. tt))); in_order = tt }

  -- nothing is refused exactly if all is accepted
  pub affected_run_accepts : first_refusal (affected_run_rules len N D n) ≡ Ok tt → AffectedRunAccepts len N D n
  unfolding affected_run_rules
  affected_run_accepts e = let c = cleared affected_run_rules_law e in omega arith

  pub affected_run_admits : AffectedRunAccepts len N D n → first_refusal (affected_run_rules len N D n) ≡ Ok tt
  unfolding affected_run_rules
  affected_run_admits x = clear_admits affected_run_rules_law (omega arith)

-- ---- the call

-- in a divider with the estimate E
module _ (E : Estimate) where
  module _ (t : List ℕ) (N D n : ℕ) where
    pub run_rechecks_right : RunRechecks E t N D n (affected_run_of E t N D n)
    run_rechecks_right = record {
      refuses = refuses (affected_run_rules_law (length t) N D n) (λ y. y.refusal) mark_zeros (mark_values (run_mark E t N D n)) refl (λ f. refl) refl;
      rechecks = λ x. rw (affected_run_admits (length t) N D n x) (run_mark_right E t N D n x.operands x.some);
    }

    -- no other answer fits
    -- § 17.6 No other mark of a run fits.
    pub run_rechecks_one : (f g : AffectedMark) → RunRechecks E t N D n f → RunRechecks E t N D n g → f ≡ g
    run_rechecks_one f g x y = refuses_one (affected_run_rules_law (length t) N D n) x.refuses y.refuses (λ e r.
        let k = affected_run_accepts (length t) N D n e in
        let m = mark_one _ (wrong_decides E t N D n k.operands k.some) (x.rechecks k) (y.rechecks k) in
        λ i. record { refusal = r i; affected = m i })
