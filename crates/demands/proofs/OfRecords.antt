-- Affected records, as C is told.
use Rattle.laws.proofs.{Basics.{◌≡◌, refl, sym, ap, ◌∙◌, ◌⊎◌, inl, inr, ⊎_elim, ℤ, pos, ◌-ℤ◌, List, ℕ, ◌+◌, ◌*◌, ◌^◌, ◌<◌, ◌≤◌, arith, length, get_or, lit<}, Powers.{four_pow, lifted, pow_cancel}}
use Rattle.laws.{specs.Shifts.{shift_to}, proofs.Tests.{cond_in}, proofs.Lists.{list_length}}
use native.Mathlib.Nat.{eq-zero-or-pos, lt_of_le_of_lt, mul-le-mul_right}
use lib.{Count.{leading_top, leading_of_zero}, Pow.{pow-add}, Signed.{non_neg}}
use Rattle.selection.{proofs.RefusalNames.{answer_by, refused_at}, specs.declared.Estimate.{Estimate}}
use Rattle.recurrence.specs.{Recurrence.{cell_at, after, digit_of, digits, value, end_remainder, corrected_quotient}, computed.Recheck.{RunMarkClaim, affected_run_rules, affected_run_of}}
use Rattle.recurrence.{specs.declared.recheck.AffectedMark.{AffectedMark}, specs.declared.RunResult.{RunResult}, proofs.Digits.{digit_at}, proofs.RecheckRun.{affected_run_rules_law}}
use Rattle.division.specs.computed.{Recheck.{run_operand, AffectedOutcome, affected_of}, RecheckWhole.{whole_dividend, whole_count, recheck_whole_of}, WholeSteps.{digits_after}}
use Rattle.division.proofs.{WholeThrough.{whole_operands, whole_dividend_law, whole_exact}, Rechecking.{recheck_rules_law}, RecheckingWhole.{recheck_whole_rules_law}}
use Rattle.demands.proofs.{RecheckDemand.{recheck_demand}, OfRuns.{steps_of}}
use Rattle.demands.specs.Calls.{MarksRun, AffectsSamples, AffectsWhole, AffectsRun}

-- with fewer digits the dividend would not fit
pub fewest : (a b : ℕ) → a < 2 ^ 60 → 0 < b → b < 2 ^ 60 → (m : ℕ) → a * 2 ^ shift_to 60 b < 2 ^ 61 * 4 ^ m → digits_after a (shift_to 60 b) + 1 ≤ m + 1
fewest a b ha hz hb m h =
    let s = shift_to 60 b in
    ⊎_elim
    (λ (z : a ≡ 0). rw (z, leading_of_zero 64) (omega (arith, (lifted 60 b (lit< tt) hz hb).1)))
    (λ (g : 0 < a).
    let top = leading_top 64 a g (omega arith) in
    let l : 2 ^ (top.0 + s) < 2 ^ (61 + (m + m)) = rw (pow-add 2 top.0 s, pow-add 2 61 (m + m), ← four_pow m) (lt_of_le_of_lt (mul-le-mul_right (2 ^ s) top.2) h) in
    omega (arith, top.1, pow_cancel l))
    (eq-zero-or-pos a)

-- the quotient that S and a remainder form is S or S − 1
pub corrected_either : (S R : ℤ) → (corrected_quotient S R ≡ S) ⊎ (corrected_quotient S R ≡ S -ℤ pos 1)
corrected_either S R = cond_in (λ (q : ℤ). (q ≡ S) ⊎ (q ≡ S -ℤ pos 1)) (non_neg R) (inl refl) (inr refl)

-- in a divider with the estimate E
module _ (E : Estimate) where
  -- what is claimed of a mark, in numbers
  marks_run : {t : List ℕ} {N D n m : ℕ} → RunMarkClaim E t N D n m → (m ≡ 0) ⊎ (m ≡ 1) → MarksRun E t N D n m
  marks_run {t} {N} {D} {n} {m} c either = record {
    cell = λ i. cell_at E (after E t N D i);
    steps = steps_of E t N D n;
    digits = digits E t N D n;
    many = list_length (digit_of E t N D) 0 n;
    bytes = digit_at E t N D n;
    no_digit = λ i h a. c.wrong.1 (inl (record { step = i; early = h; above = rw (digit_at E t N D n i h) at a }));
    wrong = λ no less. ⊎_elim
        (λ (z : m ≡ 0). let q = ap (λ (x : RunResult). pos x.quotient) (c.right.0 z).result in absurd (⊎_elim (λ e. no (sym e ∙ sym (c.quotient z) ∙ q)) (λ e. less (sym e ∙ sym (c.quotient z) ∙ q)) (corrected_either (value (digits E t N D n)) (end_remainder E t N D n))))
        (λ (o : m ≡ 1). o)
        either;
    right = λ ds q. ⊎_elim
        (λ (z : m ≡ 0). z)
        (λ (o : m ≡ 1). ⊎_elim
        (λ w. absurd (omega (arith, w.above, ds w.step w.early, digit_at E t N D n w.step w.early)))
        (λ w. absurd (⊎_elim w.number w.less_one q))
        (c.neither o))
        either;
    faulty = λ o. let w = c.faulty o in (w.step, w.early, w.faulty);
  }

  pub affects_samples : {t currents sensitivities given : List ℕ} {x : AffectedOutcome} → x ≡ affected_of E t currents sensitivities given → AffectsSamples E t currents sensitivities given x.affected x.answer
  affects_samples {t} {currents = xs} {sensitivities = ys} {given} e =
      let rules = recheck_rules_law (length t) (length xs) (length ys) (length given) in
      rw e
      (record {
        lengths = λ h. rw (refused_at rules 0 0 (refl, h)) (refl, refl);
        room = λ s h. rw (refused_at rules 1 0 (s, (refl, h))) (refl, refl);
        size = λ s r h. rw (refused_at rules 2 0 (s, (r, (refl, h)))) (refl, refl);
        marked = λ s r h. let m = (recheck_demand E).told t xs ys given h s r in record {
          nothing = m.done;
          by_class = m.by_class;
          marks = λ j l a b. record {
            N = run_operand (get_or xs j 0);
            D = run_operand (get_or ys j 0);
            dividend = (recheck_demand E).operand (get_or xs j 0) a;
            divisor = (recheck_demand E).operand (get_or ys j 0) b;
            marks = marks_run ((m.claim j l).run a b) (m.mark j l);
          };
          count = m.count;
          kept = m.rechecked.kept;
        };
      })

  pub affects_whole : {t : List ℕ} {a b : ℕ} {x : AffectedMark} → x ≡ recheck_whole_of E t a b → AffectsWhole E t a b x
  affects_whole {t} {a} {b} e = rw e (record {
    large = λ h. ap (answer_by _ _) (refused_at (recheck_whole_rules_law (length t) a b) 0 0 (refl, h));
    by_zero = λ ha z. ap (answer_by _ _) (refused_at (recheck_whole_rules_law (length t) a b) 1 0 (omega arith, (refl, z)));
    size = λ ha hz hb h. ap (answer_by _ _) (refused_at (recheck_whole_rules_law (length t) a b) 2 0 (omega arith, (omega arith, (refl, h))));
    nothing = λ ha hz hb h. ((recheck_demand E).whole_told t a b h ha hz hb).done;
    marked = λ ha hz hb h.
        let d = (recheck_demand E).whole_told t a b h ha hz hb in
        let o = whole_operands a b ha hz hb in
        record {
          s = shift_to 60 b;
          n = whole_count a b;
          N = whole_dividend a b;
          divisor = (o.least, o.most);
          some = omega arith;
          dividend = whole_dividend_law a b ha hz hb;
          fewest = fewest a b ha hz hb;
          quotient = ap (λ (x : RunResult). x.quotient) (whole_exact a b ha hz hb);
          below = o.dividend;
          marks = marks_run d.claim.run d.mark;
        };
  })

  pub affects_run : {t : List ℕ} {N D n : ℕ} {x : AffectedMark} → x ≡ affected_run_of E t N D n → AffectsRun E t N D n x
  unfolding affected_run_rules
  affects_run {t} {N} {D} {n} e =
      let rules = affected_run_rules_law (length t) N D n in
      rw e
      (record {
        digits = λ h. ap (answer_by _ _) (refused_at rules 0 0 (refl, h));
        operands = λ some most h. ap (answer_by _ _) (refused_at rules 1 0 (omega arith, (refl, ⊎_elim (λ x. inl (inl x)) (⊎_elim (λ x. inl (inr (omega arith))) (λ x. inr (omega arith))) h)));
        size = λ some most a b c h. ap (answer_by _ _) (refused_at rules 2 0 (omega arith, (omega arith, (refl, h))));
        nothing = λ some most a b c h. ((recheck_demand E).run_told t N D n h (omega arith) some most).done;
        marked = λ some most a b c h. let d = (recheck_demand E).run_told t N D n h (omega arith) some most in marks_run d.claim d.mark;
      })
