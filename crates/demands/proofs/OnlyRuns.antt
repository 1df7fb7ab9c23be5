-- One answer fits: the run, the step.
use Rattle.laws.proofs.{Basics.{◌≡◌, refl, sym, subst, ap, ◌∙◌, inl, inr, ⊎_elim, List, ℕ, zero, suc, ◌+◌, ◌-◌, ◌<◌, ◌≤◌, arith, length, get_or, T, ℤ, ◌*ℤ◌, pos}, Division.{le_or_lt, quotient}}
use Rattle.laws.proofs.Tests.{either}
use lib.{Seq.{ext_get_or}, Signed.{◌<ℤ◌, ◌≤ℤ◌, lt_z, lt_z_yes, lt_z_no}}
use Rattle.selection.{specs.Word.{signed, Within}, specs.computed.Outcomes.{made_table}, proofs.MadeTables.{made_table_is, kept_passes}, proofs.UniqueMade.{made_one}}
use Rattle.selection.specs.declared.{Estimate.{Estimate}, Estimate.TheVariants.{EightBits}}
use Rattle.recurrence.{specs.computed.Run.{run_rules}, specs.computed.Step.{step_rules}, specs.declared.Ran.{Ran}, proofs.Refusals.{run_rules_law}, proofs.StepRange.{step_rules_law}}
use Rattle.recurrence.proofs.StepDemand.{step_demand}
use Rattle.demands.specs.{Calls.{Steps, RunTakes, DividedRun, Runs, RunsKept, StepsOnce}, Determined.{Determined}}
use Rattle.demands.proofs.{ByCases.{two_rules, three_rules, table_cases, none_refused, sole, sole_by, sole_pair}, OfRuns.{runs}}

-- ---- steps

-- in a divider with the estimate E
module _ (E : Estimate) where
  -- the two words after i steps
  words_one : {t : List ℕ} {N D n : ℕ} {f g : ℕ → ℕ} (u : Steps E t N D n f) (v : Steps E t N D n g) (i : ℕ) → i ≤ n → (u.sum i ≡ v.sum i) × (u.carry i ≡ v.carry i)
  words_one u v zero h = (u.start.0 ∙ sym v.start.0, u.start.1 ∙ sym v.start.1)
  words_one {t} {N} {D} {n} {f} {g} u v (suc i) h =
      let w = words_one u v i (omega arith) in
      let c : f i ≡ g i = u.cells i (omega arith) ∙ rw (w.0, w.1) refl ∙ sym (v.cells i (omega arith)) in
      (u.next_sum i (omega arith) ∙ rw (w.0, w.1, c) refl ∙ sym (v.next_sum i (omega arith)), u.next_carry i (omega arith) ∙ rw (w.0, w.1, c) refl ∙ sym (v.next_carry i (omega arith)))

  pub cells_one : {t : List ℕ} {N D n : ℕ} {f g : ℕ → ℕ} → Steps E t N D n f → Steps E t N D n g → (i : ℕ) → i < n → f i ≡ g i
  cells_one u v i h = let w = words_one u v i (omega arith) in u.cells i h ∙ rw (w.0, w.1) refl ∙ sym (v.cells i h)

-- ---- the run

ran_one : {t : List ℕ} {N D n : ℕ} {b : List ℕ} {place : ℕ} {out other : List ℕ} (x y : Ran) → DividedRun t N D n b place out x → DividedRun t N D n b place other y → (x ≡ y) × (out ≡ other)
ran_one {t} {N} {D} {n} {b} {place} {out} {other} x y u v =
    let p = quotient (sym u.divides) u.below in
    let q = quotient (sym v.divides) v.below in
    let within : (j : ℕ) → place ≤ j → j < place + n → get_or out j 0 ≡ get_or other j 0 = λ j h l.
    let i = j - place in
    let e : j ≡ place + i = omega arith in
    rw e (u.digits i (omega arith) ∙ ap (λ (k : ℕ). get_or t k 0) (cells_one EightBits u.steps v.steps i (omega arith)) ∙ sym (v.digits i (omega arith))) in
    let each : (j : ℕ) → get_or out j 0 ≡ get_or other j 0 = λ j. ⊎_elim
    (λ (h : place + n ≤ j). u.behind j h ∙ sym (v.behind j h))
    (λ (l : j < place + n). ⊎_elim (λ (h : place ≤ j). within j h l) (λ (h : j < place). u.before j h ∙ sym (v.before j h)) (le_or_lt place j))
    (le_or_lt (place + n) j) in (
      (λ i. record { refusal = (u.nothing ∙ sym v.nothing) i; quotient = (sym p.0 ∙ q.0) i; remainder = (sym p.1 ∙ q.1) i; digits = (u.count ∙ sym v.count) i }),
      ext_get_or 0 out other (u.size ∙ sym v.size) (λ j h. each j),
    )

pub run_only : (t : List ℕ) (N D n : ℕ) (b : List ℕ) (place : ℕ) → Determined (λ (z : Ran × List ℕ). Runs t N D n b place z.1 z.0)
unfolding run_rules
run_only t N D n b place = three_rules (run_rules_law N D n (length b) place)
    (λ p w. sole_pair (λ z k. k.refuses.digits w.1))
    (λ count p w. sole_pair (λ z k. k.refuses.operands (omega arith) count.1 (⊎_elim (λ x. ⊎_elim inl (λ y. inr (inl (omega (arith, y)))) x) (λ y. inr (inr (omega (arith, y)))) w.1)))
    (λ count spans p w. sole_pair (λ z k. k.refuses.room (omega arith) count.1 (omega arith) spans.0.0 (omega arith) w.1))
    (λ count spans room. let r : RunTakes N D n b place = omega arith in table_cases EightBits t
    (λ m p f. sole_pair (λ z k. f _ (k.table r)))
    (λ ok. sole_pair (λ z k. ran_one z.0 _ (k.ran r ok) ((runs {t = t} {N = N} {D = D} {n = n} {b = b} {place = place} refl).ran r ok))))

pub run_kept_only : (N D n : ℕ) (b : List ℕ) (place : ℕ) → Determined (λ (z : Ran × List ℕ). RunsKept N D n b place z.1 z.0)
run_kept_only N D n b place = sole_by (run_only (made_table EightBits) N D n b place) (λ z k. record {
  refuses = k.refuses;
  table = λ r. none_refused EightBits (kept_passes EightBits);
  ran = λ r _. subst (λ (t : List ℕ). DividedRun t N D n b place z.1 z.0) (made_one EightBits k.made (made_table_is EightBits)) (k.ran r);
})

-- ---- one step

not_lt_z : (a b : ℤ) → (a <ℤ b → ⊥) → b ≤ℤ a
not_lt_z a b n = ⊎_elim (λ e. absurd (n (lt_z_yes (subst T (sym e) tt)))) (λ e. lt_z_no (rw e tt)) (either (lt_z a b))

pub step_only : (s k D : ℕ) (t : List ℕ) → Determined (StepsOnce s k D t)
unfolding step_rules
step_only s k D t = two_rules (step_rules_law s k D)
    (λ p w. sole (λ x c. c.divisor (⊎_elim inl (λ y. inr (omega (arith, y))) w.1)))
    (λ spans p w. sole (λ x c. c.outside spans.0 (omega arith) w.1))
    (λ spans h. let r : Within 8 D (pos 3 *ℤ signed (s + k)) = record { low = not_lt_z _ _ h.0; high = not_lt_z _ _ h.1 } in table_cases EightBits t
    (λ n p f. sole (λ x c. f _ (c.table spans.0 (omega arith) r)))
    (λ ok. sole (λ x c.
    let d = step_demand.step s k D t ok spans.0 (omega arith) r in
    let e = c.step spans.0 (omega arith) r ok in
    λ i. record { refusal = (e.done ∙ sym d.done) i; digit = (e.selected ∙ sym d.selected) i; sum = (e.sum ∙ sym d.sum) i; carry = (e.carry ∙ sym d.carry) i })))

pub ruleset only_runs = (run_only, run_kept_only, step_only)
