-- One step for a caller: what its answer says, and that the steps of someone who feeds each pair back are the run's.
use Rattle.laws.proofs.Lists.{list_value}
use Rattle.laws.proofs.Basics.{◌≡◌, refl, sym, ap, ◌∙◌, ⊎_elim, List, ◌++◌, ℕ, zero, suc, ◌+◌, ◌*◌, ◌^◌, ◌≤◌, ◌<◌, arith, length, get_or, take, drop, length-take, T, leb, leb→le, ltb, ltb→lt, pos, neg_ℤ}
use Rattle.laws.proofs.Basics.{◌*ℤ◌}
use Rattle.laws.{proofs.Diff.{diffs}, specs.Lists.{list_from}}
use lib.{ListN.{get_or-append}, Seq.{get_or-append-add}, Signed.{le_z, le_z_yes, clash_ℤ}}
use Rattle.selection.{proofs.RefusalNames.{answer_by, passed_last}, specs.Cell.{row, column, digit}, specs.Table.{Passes}, specs.Word.{signed, Within}, proofs.BiasedPoints.{digit_diff}}
use Rattle.selection.{specs.computed.Allowed.{allows_of}, specs.computed.Outcomes.{made_table, made_of}, proofs.MadeTables.{kept_passes}, proofs.TableRefusals.{same_through}}
use Rattle.selection.specs.declared.Estimate.TheVariants.{EightBits}
use Rattle.recurrence.specs.{Recurrence.{Operands, cell_at, step_by, state_from, next_of, after, digit_of, digits}, computed.Step.{step_rules, step_zeros, step_values, step_of, fed_back}}
use Rattle.recurrence.specs.{Step.{StepTaken}, computed.StepDemand.{FeedsRun, StepDemand, StepExample}, declared.step.Stepped.{Stepped}}
use Rattle.recurrence.proofs.{Steps.{biased, residue_biased, InRange, range_of, next_in_range, step_law, step_residue, table_digit_allowed}, Digits.{divisor_after}, StepRange.{by_neither}}
use Rattle.recurrence.proofs.RunDemand.{range, run_claim}

-- ---- one step

module _ (s k D : ℕ) (t : List ℕ) (ok : Passes EightBits t) (least : 2 ^ 60 ≤ D) (most : D < 2 ^ 61) (w : Within 8 D (pos 3 *ℤ signed (s + k))) where
  pub step_done : step_of s k D t ≡ step_values (next_of EightBits t (state_from s k D))
  step_done =
      ap (answer_by step_zeros (step_values (next_of EightBits t (state_from s k D))))
      (passed_last EightBits ok (step_rules s k D) ∙ by_neither s k D least most (⊎_elim (λ x. clash_ℤ x w.low) (λ x. clash_ℤ x w.high)))

  in_range : InRange (biased (state_from s k D)) D
  in_range =
      let e = residue_biased (state_from s k D) in
      record { least = least; most = most; above = omega (arith, simp diffs at (rw e at w.low)); below = omega (arith, simp diffs at (rw e at w.high)) }

  stepped : StepTaken s k D (get_or t (128 * row D + column EightBits s k) 0) (step_of s k D t)
  unfolding next_of
  stepped =
      let p = state_from s k D in
      let d = get_or t (cell_at EightBits p) 0 in
      let f = table_digit_allowed EightBits t p ok in_range in
      rw step_done
      (record {
        done = refl;
        selected = refl;
        least = rw (digit_diff d) (simp diffs (omega arith));
        most = rw (digit_diff d) (simp diffs (omega (arith, f.byte)));
        sum = refl;
        carry = refl;
        next = step_residue d p in_range f;
        range = range_of (step_by d p) (next_in_range in_range f (step_law d p in_range f));
      })

-- ---- each pair fed back

-- a byte of the part that the run writes
part_at : (b ds rest : List ℕ) (place i : ℕ) → place ≤ length b → i < length ds → get_or (take place b ++ (ds ++ rest)) (place + i) 0 ≡ get_or ds i 0
part_at b ds rest place i h l =
    let e : length (take place b) ≡ place = rw length-take (omega arith) in
    ap (λ (m : ℕ). get_or (take place b ++ (ds ++ rest)) (m + i) 0) (sym e) ∙ get_or-append-add (take place b) (ds ++ rest) i 0 ∙ get_or-append ds rest 0 i l

module _ (t : List ℕ) (N D : ℕ) (ok : Passes EightBits t) (o : Operands N D) where
  -- a step asks nothing of a state but its words and its divisor
  from_state : (i : ℕ) → step_of (after EightBits t N D i).sum (after EightBits t N D i).carry D t ≡ step_values (after EightBits t N D (suc i))
  unfolding after next_of
  from_state i =
      let p = after EightBits t N D i in
      step_done p.sum p.carry D t ok o.least o.most (range EightBits t N D ok o i) ∙ ap (λ (x : ℕ). step_values (next_of EightBits t (state_from p.sum p.carry x))) (sym (divisor_after EightBits t N D i))

  pub fed_back_law : (i : ℕ) → fed_back t N D i ≡ step_values (after EightBits t N D (suc i))
  unfolding fed_back after
  fed_back_law zero = from_state 0
  fed_back_law (suc i) = rw (fed_back_law i) (from_state (suc i))

  feeds : (n : ℕ) (b : List ℕ) (place : ℕ) → 1 ≤ n → n ≤ 28 → place + n ≤ length b → FeedsRun t N D n b place
  feeds n b place h l r =
      let c = run_claim t ok N D n b place o h l r in
      record {
        done = λ i m. rw (fed_back_law i);
        digits = λ i m. rw (fed_back_law i, c.written, part_at b (digits EightBits t N D n) (drop (place + n) b) place i (omega arith) (omega (arith, c.steps.many)), list_value (digit_of EightBits t N D) 0 n i m);
      }

-- ---- all as one statement

-- § 7.2 Words that are handed in again give the run's digits.
pub step_demand : StepDemand
step_demand = record {
  step = stepped;
  same = λ t u p q s k D. same_through EightBits (λ (x : Stepped). x.refusal) step_zeros p q (step_rules s k D) (λ e. refl);
  feeds = λ t ok N D n b place o. feeds t N D ok o n b place;
}

-- ---- worked steps

-- a step through the made table, with words and divisor in their spans
worked : (s k D : ℕ) {x : Stepped} → T (leb (2 ^ 60) D) → T (ltb D (2 ^ 61)) → T (le_z (neg_ℤ (pos (8 * D))) (pos 3 *ℤ signed (s + k))) → T (le_z (pos 3 *ℤ signed (s + k)) (pos (8 * D)))
    → step_values (next_of EightBits (made_table EightBits) (state_from s k D)) ≡ x → step_of s k D (made_table EightBits) ≡ x
worked s k D l m low high e = step_done s k D (made_table EightBits) (kept_passes EightBits) (leb→le _ _ l) (ltb→lt _ _ m) (record { low = le_z_yes low; high = le_z_yes high }) ∙ e

-- § 7.1 A step for each digit is worked in numbers.
pub step_example : StepExample
unfolding made_table list_from made_of allows_of next_of digit signed
step_example = record {
  two = worked _ _ _ tt tt tt tt refl;
  one = worked _ _ _ tt tt tt tt refl;
  zero = worked _ _ _ tt tt tt tt refl;
  minus_one = worked _ _ _ tt tt tt tt refl;
  minus_two = worked _ _ _ tt tt tt tt refl;
}
