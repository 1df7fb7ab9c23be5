-- The run, the step and the visits, as C is told.
use Rattle.laws.proofs.Basics.{◌≡◌, refl, sym, ap, ◌∙◌, inl, inr, ⊎_elim, List, ◌++◌, ℕ, ◌+◌, ◌-◌, ◌<◌, ◌≤◌, arith, length, get_or, take, drop, length-append, length-take, length-drop}
use lib.{ListN.{get_or-append}, Seq.{get_or-append-add, get_or-drop, get_or-take}, Signed.{clash_ℤ}}
use Rattle.selection.{proofs.RefusalNames.{answer_by, clear_admits, refused_at}, proofs.MadeTables.{made_table_is, kept_passes}, specs.computed.Outcomes.{made_table}, specs.declared.Estimate.{Estimate}}
use Rattle.selection.specs.declared.Estimate.TheVariants.{EightBits}
use Rattle.recurrence.specs.{Recurrence.{cell_at, next_of, after, digits}, computed.Run.{run_rules, RunOutcome, run_of}, computed.Step.{step_rules, step_of}}
use Rattle.recurrence.specs.{computed.Visits.{is_at, run_visits, all_visits, visits_rules, VisitsOutcome, visits_of, operand}, declared.step.Stepped.{Stepped}}
use Rattle.recurrence.proofs.{Digits.{divisor_after, digit_at}, Refusals.{run_lent, no_refusal}, RunDemand.{run_claim}, StepRange.{step_rules_law, step_lent}, StepDemand.{step_demand}}
use Rattle.recurrence.proofs.VisitCounts.{visits_rules_law, visits_lent, visits_demand}
use Rattle.demands.specs.Calls.{Steps, Runs, RunsKept, StepsOnce, CountsVisits}
use Rattle.demands.proofs.ByCases.{of_table}

-- in a divider with the estimate E
module _ (E : Estimate) where
  -- the steps of the run are such steps
  abbrev pub steps_of : (t : List ℕ) (N D n : ℕ) → Steps E t N D n (λ i. cell_at E (after E t N D i))
  unfolding after next_of
  steps_of t N D n = record {
    sum = λ i. (after E t N D i).sum;
    carry = λ i. (after E t N D i).carry;
    start = (refl, refl);
    cells = λ i h. rw (divisor_after E t N D i) refl;
    next_sum = λ i h. rw (divisor_after E t N D i) refl;
    next_carry = λ i h. rw (divisor_after E t N D i) refl;
  }

-- ---- the run

-- a list with a part replaced, by its places
module _ (b ds : List ℕ) (place n : ℕ) (many : length ds ≡ n) (room : place + n ≤ length b) where
  taken : length (take place b) ≡ place
  taken = rw length-take (omega arith)

  part_length : length (take place b ++ (ds ++ drop (place + n) b)) ≡ length b
  part_length = rw (length-append, length-append, length-drop, taken, many) (omega arith)

  part_before : (j : ℕ) → j < place → get_or (take place b ++ (ds ++ drop (place + n) b)) j 0 ≡ get_or b j 0
  part_before j h = get_or-append (take place b) (ds ++ drop (place + n) b) 0 j (omega (arith, taken)) ∙ get_or-take place b j 0 h

  part_from : (i : ℕ) → get_or (take place b ++ (ds ++ drop (place + n) b)) (place + i) 0 ≡ get_or (ds ++ drop (place + n) b) i 0
  part_from i = rw taken at (get_or-append-add (take place b) (ds ++ drop (place + n) b) i 0)

  part_at : (i : ℕ) → i < n → get_or (take place b ++ (ds ++ drop (place + n) b)) (place + i) 0 ≡ get_or ds i 0
  part_at i h = part_from i ∙ get_or-append ds (drop (place + n) b) 0 i (omega (arith, many))

  part_behind : (j : ℕ) → place + n ≤ j → get_or (take place b ++ (ds ++ drop (place + n) b)) j 0 ≡ get_or b j 0
  part_behind j h =
      let k = j - (place + n) in
      let e : place + (n + k) ≡ j = omega arith in
      rw e at (part_from (n + k)) ∙ rw many at (get_or-append-add ds (drop (place + n) b) k 0) ∙ get_or-drop (place + n) b k 0 ∙ ap (λ (m : ℕ). get_or b m 0) (omega arith)

pub runs : {t : List ℕ} {N D n : ℕ} {b : List ℕ} {place : ℕ} {x : RunOutcome} → x ≡ run_of t N D n b place → Runs t N D n b place x.buffer x.answer
unfolding run_rules steps_of after
runs {t} {N} {D} {n} {b} {place} e =
    let rules = run_lent N D n (length b) place t in
    rw e
    (record {
      refuses = record {
        digits = λ h. rw (refused_at rules 0 0 (refl, h)) (refl, refl);
        operands = λ some most h. rw (refused_at rules 1 0 (omega arith, (refl, ⊎_elim (λ x. inl (inl x)) (⊎_elim (λ x. inl (inr (omega arith))) (λ x. inr (omega arith))) h))) (refl, refl);
        room = λ some most dividend least divisor h. rw (refused_at rules 2 0 (omega arith, (omega arith, (refl, h)))) (refl, refl);
      };
      table = λ r. of_table EightBits t (run_rules N D n (length b) place) (no_refusal N D n (length b) place (omega arith) r.some r.most r.room) (λ k p _ f. rw f (refl, refl));
      ran = λ r ok. let c = run_claim t ok N D n b place (omega arith) r.some r.most r.room in record {
        nothing = c.answer.done;
        count = c.answer.count;
        divides = sym c.answer.divides;
        below = c.answer.below;
        cell = λ i. cell_at EightBits (after EightBits t N D i);
        steps = steps_of EightBits t N D n;
        digits = λ i h. rw c.written (part_at b (digits EightBits t N D n) place n c.steps.many r.room i h ∙ digit_at EightBits t N D n i h);
        range = c.steps.range;
        size = rw c.written (part_length b (digits EightBits t N D n) place n c.steps.many r.room);
        before = λ j h. rw c.written (part_before b (digits EightBits t N D n) place n c.steps.many r.room j h);
        behind = λ j h. rw c.written (part_behind b (digits EightBits t N D n) place n c.steps.many r.room j h);
      };
    })

pub runs_kept : {N D n : ℕ} {b : List ℕ} {place : ℕ} {x : RunOutcome} → x ≡ run_of (made_table EightBits) N D n b place → RunsKept N D n b place x.buffer x.answer
runs_kept {N} {D} {n} {b} {place} e =
    let k = runs {t = made_table EightBits} {N = N} {D = D} {n = n} {b = b} {place = place} e in
    record { refuses = k.refuses; table = made_table EightBits; made = made_table_is EightBits; ran = λ r. k.ran r (kept_passes EightBits) }

-- ---- one step

pub steps_once : {s k D : ℕ} {t : List ℕ} {x : Stepped} → x ≡ step_of s k D t → StepsOnce s k D t x
unfolding step_rules
steps_once {s} {k} {D} {t} e = rw e (record {
  divisor = λ h. ap (answer_by _ _) (refused_at (step_lent s k D t) 0 0 (refl, ⊎_elim inl (λ x. inr (omega arith)) h));
  outside = λ least most h. ap (answer_by _ _) (refused_at (step_lent s k D t) 1 0 (omega arith, (refl, h)));
  table = λ least most w. of_table EightBits t (step_rules s k D) (clear_admits (step_rules_law s k D) ((least, omega arith), (((λ x. clash_ℤ x w.low), λ x. clash_ℤ x w.high), tt))) (λ n p _ f. ap (answer_by _ _) f);
  step = λ least most w ok. step_demand.step s k D t ok least most w;
})

-- ---- visits

pub counts_visits : {t : List ℕ} {k n : ℕ} {v : List ℕ} {x : VisitsOutcome} → x ≡ visits_of t k n v → CountsVisits t k n v x.visits x.answer
unfolding visits_rules all_visits run_visits is_at
counts_visits {t} {k} {n} {v} e =
    let rules = visits_lent k n (length v) t in
    rw e (record {
      digits = λ h. rw (refused_at rules 0 0 (refl, h)) (refl, refl);
      bits = λ some most h. rw (refused_at rules 1 0 (omega arith, (refl, h))) (refl, refl);
      room = λ some most least few h. rw (refused_at rules 2 0 (omega arith, (omega arith, (refl, h)))) (refl, refl);
      table = λ some most least few h. of_table EightBits t (visits_rules k n (length v)) (clear_admits (visits_rules_law k n (length v)) (omega arith)) (λ m p _ g. rw g (refl, refl));
      counted = λ some most least few h ok. let s = visits_demand.shown t k n v some most least few h ok in record {
        nothing = s.accepted;
        cell = λ x y i. cell_at EightBits (after EightBits t (operand k x) (operand k y) i);
        steps = λ x y. steps_of EightBits t (operand k x) (operand k y) n;
        counts = s.shown;
        total = s.total;
        kept = s.kept;
      };
    })
