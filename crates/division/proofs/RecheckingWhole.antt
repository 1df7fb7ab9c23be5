-- Whether a wrong table affected a division of whole numbers: its mark, what it claims, the refusals of the call, and that no other answer fits.
use Rattle.laws.{proofs.Basics.{◌≡◌, refl, ap, ◌∙◌, List, inl, inr, ⊎_elim, ℕ, ◌+◌, ◌-◌, ◌*◌, ◌/◌, ◌%◌, ◌^◌, ◌≤◌, ◌<◌, arith, length}, proofs.Tests.{Decides}, specs.Shifts.{shift_to}}
use Rattle.std.proofs.Common.{mod-lt, pos_of_ne-zero, lt_of_mul-lt-mul_right, div-add-mod', le-div_iff_mul-le, mul-div_cancel, pow_pos}
use Rattle.std.specs.Prelude.{Ok}
use Rattle.selection.proofs.RefusalNames.{first_refusal, rank, WellFormed, refuses_one, refuses, cleared, clear_admits}
use Rattle.selection.specs.declared.Estimate.{Estimate}
use Rattle.recurrence.specs.{computed.Recheck.{exact_result, ShowsWrong, Marks, mark_zeros, mark_values, runs_wrong, run_mark}, Recurrence.{result_of}}
use Rattle.recurrence.{proofs.RightRuns.{wrong_decides, run_mark_right, run_mark_claim, mark_is, mark_one}, specs.declared.recheck.AffectedMark.{AffectedMark}}
use Rattle.division.specs.computed.WholeSteps.{digits_after, shifted_run, shifted_through}
use Rattle.division.specs.computed.RecheckWhole.{whole_dividend, whole_divisor, whole_count, WholeAffected, WholeRight, recheck_whole_rules, RecheckWholeAccepts, WholeRechecks, WholeClaim, whole_mark, recheck_whole_of}
use Rattle.division.specs.declared.whole.WholeResult.{WholeResult}
use Rattle.division.proofs.WholeThrough.{whole_operands, whole_dividend_law, whole_exact}

-- ---- refusals

module _ (len a b : ℕ) where
  pub recheck_whole_rules_law : WellFormed (recheck_whole_rules len a b)
  unfolding rank
  recheck_whole_rules_law = record { sound = (tt, λ _. (tt, λ _. (tt, λ _. tt))); in_order = tt }

  -- nothing is refused exactly if all is accepted
  pub recheck_whole_accepts : first_refusal (recheck_whole_rules len a b) ≡ Ok tt → RecheckWholeAccepts len a b
  recheck_whole_accepts e = let c = cleared recheck_whole_rules_law e in record { dividend = c.0.0; divisor = c.0.1; some = pos_of_ne-zero c.1.0; size = c.1.1.0 }

  pub recheck_whole_admits : RecheckWholeAccepts len a b → first_refusal (recheck_whole_rules len a b) ≡ Ok tt
  recheck_whole_admits x = clear_admits recheck_whole_rules_law ((x.dividend, x.divisor), ((λ e. omega (arith, x.some)), (x.size, tt)))

-- in a divider with the estimate E
module _ (E : Estimate) where
  module _ (t : List ℕ) (a b : ℕ) where
    module _ (ha : a < 2 ^ 60) (pb : 0 < b) (hb : b < 2 ^ 60) where
      pub whole_decides : Decides (WholeAffected E t a b) (runs_wrong E t (whole_dividend a b) (whole_divisor b) (whole_count a b))
      whole_decides = wrong_decides E t _ _ _ (whole_operands a b ha pb hb) (omega arith)

      pub whole_mark_right : Marks (WholeAffected E t a b) (whole_mark E t a b)
      whole_mark_right = run_mark_right E t _ _ _ (whole_operands a b ha pb hb) (omega arith)

      -- a run with the right result gives a / b and a % b
      whole_right : result_of E t (whole_dividend a b) (whole_divisor b) (whole_count a b) ≡ exact_result (whole_dividend a b) (whole_divisor b) (whole_count a b) → WholeRight E t a b
      unfolding shifted_through shifted_run
      whole_right e = let f = e ∙ whole_exact a b ha pb hb in rw (f, mul-div_cancel (a % b) (pow_pos (shift_to 60 b)))

      -- and one whose result shows itself wrong does not
      whole_wrong : ShowsWrong (whole_dividend a b * 4 ^ (whole_count a b - 1)) (whole_divisor b) (result_of E t (whole_dividend a b) (whole_divisor b) (whole_count a b)) → WholeRight E t a b → ⊥
      unfolding shifted_through shifted_run
      whole_wrong w e =
          let s = shift_to 60 b in
          let x = result_of E t (whole_dividend a b) (whole_divisor b) (whole_count a b) in
          let q : x.quotient ≡ a / b = ap (λ (y : WholeResult). y.quotient) e in
          let r : x.remainder / 2 ^ s ≡ a % b = ap (λ (y : WholeResult). y.remainder) e in
          ⊎_elim
          (λ (h : b * 2 ^ s ≤ x.remainder). omega (arith, (le-div_iff_mul-le {k = 2 ^ s} {x = b} {y = x.remainder} (pow_pos s)).1 h, mod-lt a pb))
          (λ (h : whole_dividend a b * 4 ^ (whole_count a b - 1) < x.quotient * (b * 2 ^ s)).
          let l : a * 2 ^ s < a / b * b * 2 ^ s = omega (arith, whole_dividend_law a b ha pb hb, ap (λ (z : ℕ). z * (b * 2 ^ s)) q) in
          omega (arith, lt_of_mul-lt-mul_right (2 ^ s) l, div-add-mod' a b))
          w

      -- § 17.5 The mark of whole numbers is 1 exactly if Q or R is wrong; no other fits.
      pub whole_claim : {m : ℕ} → Marks (WholeAffected E t a b) m → WholeClaim E t a b m
      whole_claim {m} r =
          let c = run_mark_claim E t _ _ _ (whole_operands a b ha pb hb) (omega arith) r in
          let is = mark_is _ whole_decides r in
          record {
            right = (
              λ z. let x = c.right.0 z in (x.digits, whole_right x.result),
              λ x. ⊎_elim (λ z. z) (λ z. absurd (⊎_elim (λ y. omega (arith, x.0 y.step y.early, y.above)) (λ y. whole_wrong y x.1) (c.shown z))) is,
            );
            wrong = (
              λ z. ⊎_elim inl (λ y. inr (whole_wrong y)) (c.shown z),
              λ y. ⊎_elim (λ z. let x = c.right.0 z in absurd (⊎_elim (λ y. omega (arith, x.digits y.step y.early, y.above)) (λ f. f (whole_right x.result)) y)) (λ z. z) is,
            );
            run = c;
          }

    -- what the code asks: its words are those of the definition
    pub whole_words : {s k n d r : ℕ} → s ≡ shift_to 60 b → k ≡ digits_after a s + 1 → n ≡ a * 2 ^ (s - 2 * digits_after a s) → d ≡ b * 2 ^ s → r ≡ run_mark E t n d k → r ≡ whole_mark E t a b
    whole_words es ek en ed e = rw (en, ed, ek, es) at e

  -- ---- the call

  module _ (t : List ℕ) (a b : ℕ) where
    pub whole_rechecks_right : WholeRechecks E t a b (recheck_whole_of E t a b)
    whole_rechecks_right = record {
      refuses = refuses (recheck_whole_rules_law (length t) a b) (λ y. y.refusal) mark_zeros (mark_values (whole_mark E t a b)) refl (λ f. refl) refl;
      rechecks = λ x. rw (recheck_whole_admits (length t) a b x) (whole_mark_right t a b x.dividend x.some x.divisor);
    }

    -- no other answer fits
    -- § 17.5 The mark of whole numbers is 1 exactly if Q or R is wrong; no other fits.
    pub whole_rechecks_one : (f g : AffectedMark) → WholeRechecks E t a b f → WholeRechecks E t a b g → f ≡ g
    whole_rechecks_one f g x y = refuses_one (recheck_whole_rules_law (length t) a b) x.refuses y.refuses (λ e r.
        let k = recheck_whole_accepts (length t) a b e in
        let m = mark_one _ (whole_decides t a b k.dividend k.some k.divisor) (x.rechecks k) (y.rechecks k) in
        λ i. record { refusal = r i; affected = m i })
