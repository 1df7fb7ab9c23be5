-- The mark of a run through a table as it was burned: 0 exactly if each byte read is a digit and quotient and remainder are right.
use Rattle.laws.proofs.Basics.{◌≡◌, refl, sym, ap, ap₂, ◌∙◌, subst, Bool, true, false, cond, ◌⊎◌, inl, inr, ⊎_elim, List, ℕ, ◌-◌, ◌*◌, ◌/◌, ◌%◌, ◌^◌, ◌≤◌, ◌<◌, arith, ℤ, pos, nat_abs, ◌-ℤ◌, ◌*ℤ◌}
use Rattle.laws.proofs.{Diff.{diff, diffs}, Division.{quotient}, Tests.{Decides, either}, Search.{first_below}}
use Rattle.std.proofs.Common.{mod-lt, div-add-mod'}
use Rattle.selection.{specs.computed.Allowed.{is_faulty}, specs.Repair.{FaultyAt}, proofs.RepairCells.{faulty_decides, copied_byte}, specs.declared.Estimate.{Estimate}}
use Rattle.recurrence.specs.Recurrence.{Operands, residue, cell_at, next_of, after, digit_of, digits, value, end_remainder, corrected_quotient, corrected_remainder, result_of}
use Rattle.recurrence.specs.{computed.Recheck.{ReadsNoDigit, RightRun, WrongRun, ReadsFaulty, NeitherRight, ShowsWrong, Marks, RunMarkClaim, runs_wrong, run_mark}, declared.RunResult.{RunResult}}
use Rattle.recurrence.proofs.{Correction.{exact_result_law}, Invariant.{invariant-while}, Steps.{good_digit_allowed}, Visiting.{cell_below}}
use Rattle.recurrence.proofs.Straying.{outside_result, outside_neither, exact_words, exact_end, outside_end}

-- ---- marks

-- the mark of a test
pub mark_right : {P : Type 0} (x : Bool) → Decides P x → Marks P (cond x 1 0)
mark_right true d = record { marked = λ p. refl; unmarked = λ n. absurd (n (d.yes refl)) }
mark_right false d = record { marked = λ p. absurd (d.no refl p); unmarked = λ n. refl }

-- it is 0 or 1
pub mark_is : {P : Type 0} {m : ℕ} (x : Bool) → Decides P x → Marks P m → (m ≡ 0) ⊎ (m ≡ 1)
mark_is true d r = inr (r.marked (d.yes refl))
mark_is false d r = inl (r.unmarked (d.no refl))

-- what a mark says, where a test decides
pub mark_some : {P : Type 0} {m : ℕ} (x : Bool) → Decides P x → Marks P m → m ≡ 1 → P
mark_some true d r e = d.yes refl
mark_some false d r e = absurd (omega (arith, r.unmarked (d.no refl)))

-- and there is one
pub mark_one : {P : Type 0} {m n : ℕ} (x : Bool) → Decides P x → Marks P m → Marks P n → m ≡ n
mark_one true d u v = u.marked (d.yes refl) ∙ sym (v.marked (d.yes refl))
mark_one false d u v = u.unmarked (d.no refl) ∙ sym (v.unmarked (d.no refl))

-- ---- a run

-- a remainder that is not below the divisor, or a quotient that is too large, is not right
wrong_differs : (M D n : ℕ) {x : RunResult} → 0 < D → ShowsWrong M D x → x ≡ record { quotient = M / D; remainder = M % D; count = n } → ⊥
wrong_differs M D n p w e = ⊎_elim (λ (h : D ≤ M % D). omega (arith, mod-lt M p)) (λ (h : M < M / D * D). omega (arith, div-add-mod' M D)) (subst (ShowsWrong M D) e w)

-- in a divider with the estimate E
module _ (E : Estimate) where
  module _ (t : List ℕ) (N D n : ℕ) (o : Operands N D) (h : 1 ≤ n) where
    -- no step strays
    record Formed : Type 0 where
      run : RightRun E t N D n
      quotient : pos (result_of E t N D n).quotient ≡ corrected_quotient (value (digits E t N D n)) (end_remainder E t N D n)
      remainder : pos (result_of E t N D n).remainder ≡ corrected_remainder (end_remainder E t N D n) D
      words : (i : ℕ) → i ≤ n → residue (after E t N D i) ≡ pos (N * 4 ^ i) -ℤ pos 4 *ℤ (value (digits E t N D i) *ℤ pos D)

    right_run : runs_wrong E t N D n ≡ false → Formed
    unfolding after next_of result_of end_remainder
    right_run e =
        let x = exact_end (after E t N D) (digit_of E t N D) N D o refl (λ i. refl) n h e in
        let S = x.made in
        let M = N * 4 ^ (n - 1) in
        let c = x.corrected in
        let k = quotient c.divides c.below in
        let f : pos M -ℤ pos S *ℤ pos D ≡ diff M (S * D) = simp diffs (omega arith) in
        let q : corrected_quotient (value (digits E t N D n)) (end_remainder E t N D n) ≡ pos (M / D) = rw (x.makes, f, k.0) c.quotient in
        let r : corrected_remainder (end_remainder E t N D n) D ≡ pos (M % D) = rw (x.makes, f, k.1) c.remainder in
        record {
          run = record { digits = x.small; result = ap₂ (λ (a b : ℤ). record { quotient = nat_abs a; remainder = nat_abs b; count = n }) q r };
          quotient = ap (λ (a : ℤ). pos (nat_abs a)) q ∙ sym q;
          remainder = ap (λ (a : ℤ). pos (nat_abs a)) r ∙ sym r;
          words = λ i l. exact_words (after E t N D) (digit_of E t N D) N D o refl (λ i. refl) n i e l;
        }

    -- one does
    wrong_run : runs_wrong E t N D n ≡ true → ReadsNoDigit E t N D n ⊎ (ShowsWrong (N * 4 ^ (n - 1)) D (result_of E t N D n) × NeitherRight E t N D n)
    unfolding after next_of result_of end_remainder
    wrong_run e = ⊎_elim (λ x. inl (record { step = x.step; early = x.early; above = x.above }))
        (λ x. let f = outside_neither (N * 4 ^ (n - 1)) D (omega (arith, o.least)) x in inr (outside_result (N * 4 ^ (n - 1)) D n x, record { number = f.0; less_one = f.1 }))
        (outside_end (after E t N D) (digit_of E t N D) N D o refl (λ i. refl) n h e)

    -- steps that read good cells only
    good_run : ((i : ℕ) → i < n → FaultyAt E t (cell_at E (after E t N D i)) → ⊥) → RightRun E t N D n
    good_run f = record {
      digits = λ i l. (copied_byte E t (cell_at E (after E t N D i)) (cell_below E (after E t N D i)) (f i l)).0;
      result = exact_result_law E t N D n _ (invariant-while E t N D o n (λ i l. good_digit_allowed E t (after E t N D i) (f i l))).1 h;
    }

    pub right_not_wrong : RightRun E t N D n → WrongRun E t N D n → ⊥
    right_not_wrong r = ⊎_elim (λ x. omega (arith, r.digits x.step x.early, x.above)) (λ f. f r.result)

    -- § 17.2 A mark is 0 exactly if the run is right, and 1 exactly if it is wrong.
    pub wrong_decides : Decides (WrongRun E t N D n) (runs_wrong E t N D n)
    wrong_decides = record {
      yes = λ e. ⊎_elim inl (λ x. inr (wrong_differs (N * 4 ^ (n - 1)) D n (omega (arith, o.least)) x.0)) (wrong_run e);
      no = λ e. right_not_wrong (right_run e).run;
    }

    pub run_mark_right : Marks (WrongRun E t N D n) (run_mark E t N D n)
    run_mark_right = mark_right (runs_wrong E t N D n) wrong_decides

    -- a wrong run has read a faulty cell
    wrong_reads : WrongRun E t N D n → ReadsFaulty E t N D n
    wrong_reads w =
        ⊎_elim (λ x. absurd (right_not_wrong (good_run x.1) w)) (λ x. record { step = _; early = x.0; faulty = x.1.here })
        (first_below (λ i. is_faulty E t (cell_at E (after E t N D i))) n (λ i l. faulty_decides E t (cell_at E (after E t N D i)) (cell_below E (after E t N D i))))

    -- what a mark claims
    -- § 17.3 With mark 0 the words hold the true remainder.
    pub run_mark_claim : {m : ℕ} → Marks (WrongRun E t N D n) m → RunMarkClaim E t N D n m
    run_mark_claim {m} r = go (either (runs_wrong E t N D n))
      where
        go : (runs_wrong E t N D n ≡ true) ⊎ (runs_wrong E t N D n ≡ false) → RunMarkClaim E t N D n m
        go (inl e) =
            let w = wrong_decides.yes e in
            let k : m ≡ 1 = r.marked w in
            record {
              right = (λ z. absurd (omega arith), λ x. absurd (right_not_wrong x w));
              wrong = (λ z. w, λ x. k);
              words = λ z. absurd (omega arith);
              quotient = λ z. absurd (omega arith);
              remainder = λ z. absurd (omega arith);
              shown = λ z. ⊎_elim inl (λ x. inr x.0) (wrong_run e);
              neither = λ z. ⊎_elim inl (λ x. inr x.1) (wrong_run e);
              faulty = λ z. wrong_reads w;
            }
        go (inr e) =
            let x = right_run e in
            let k : m ≡ 0 = r.unmarked (right_not_wrong x.run) in
            record {
              right = (λ z. x.run, λ y. k);
              wrong = (λ z. absurd (omega arith), λ w. absurd (right_not_wrong x.run w));
              words = λ z. x.words;
              quotient = λ z. x.quotient;
              remainder = λ z. x.remainder;
              shown = λ z. absurd (omega arith);
              neither = λ z. absurd (omega arith);
              faulty = λ z. absurd (omega arith);
            }
