-- Demand 3 of the run: the claim about all its steps, and the same answer through every table that passes, refusals included.
use Rattle.laws.{proofs.Basics.{◌≡◌, refl, sym, ap, ◌∙◌, List, ℕ, ◌+◌, ◌*◌, ◌^◌, ◌≤◌, ◌<◌, arith, cond, length, get_or, pos, non_neg, ◌-ℤ◌, ◌*ℤ◌}, specs.Lists.{list_from}, proofs.Diff.{diffs}}
use Rattle.laws.proofs.Lists.{list_length}
use Rattle.selection.{proofs.RefusalNames.{passed_last}, specs.Cell.{row, column, digit}, specs.Table.{Passes}, specs.computed.Allowed.{allows_of}, specs.computed.Outcomes.{made_table, made_of}}
use Rattle.selection.{specs.Word.{Within}, proofs.TableRefusals.{same_through}, specs.declared.Estimate.{Estimate}, specs.declared.Estimate.TheVariants.{EightBits}}
use Rattle.recurrence.specs.Recurrence.{Operands, residue, cell_at, next_of, after, digit_of, digits, value, end_remainder, corrected_quotient, corrected_remainder, result_of}
use Rattle.recurrence.specs.computed.{Run.{longest, most_digits, run_rules, RunOutcome, run_refused, run_values, run_of}, OnTheFly.{PairDemand, PairExample}, Demand.{RunsRight, RunClaim}}
use Rattle.recurrence.specs.computed.Recheck.{exact_result}
use Rattle.recurrence.proofs.{Steps.{residue_biased, range_of, table_digit_allowed, step_residue}, Digits.{divisor_after, digit_at}, Invariant.{fits_word, word_after, invariant-after, quarter}}
use Rattle.recurrence.proofs.{Pair.{renews_next, pair_after, chosen}, Correction.{end_remainder_law, result_by_sign, corrected_result, exact_result_law}, Refusals.{spans, no_refusal}}

-- § 6.6 Bench case 9 is shown step by step.
pub pair_example : PairExample
unfolding made_table list_from made_of allows_of next_of after
pair_example = record { one = (refl, refl); two = (refl, refl); three = (refl, refl) }

-- in a divider with the estimate E
module _ (E : Estimate) where
  -- after i steps the remainder is in range
  pub range : (t : List ℕ) (N D : ℕ) → Passes E t → Operands N D → (i : ℕ) → Within 8 D (pos 3 *ℤ residue (after E t N D i))
  range t N D p o i = rw (divisor_after E t N D i) at (range_of (after E t N D i) (invariant-after E t N D p o i).1.word.in_range)

  -- ---- after the last of n steps

  module _ (t : List ℕ) (N D n : ℕ) (p : Passes E t) (o : Operands N D) (h : 1 ≤ n) where
    -- quotient and remainder are those of N·4^(n−1) by D
    pub result_divides : result_of E t N D n ≡ exact_result N D n
    result_divides = exact_result_law E t N D n _ (invariant-after E t N D p o n).1 h

    -- and they are the numbers that S and the end remainder form, neither of them negative
    pub result_formed : (pos (result_of E t N D n).quotient ≡ corrected_quotient (value (digits E t N D n)) (end_remainder E t N D n)) × (pos (result_of E t N D n).remainder ≡ corrected_remainder (end_remainder E t N D n) D)
    result_formed =
        let k = (invariant-after E t N D p o n).1 in
        let c = corrected_result E t N D n _ k h in
        rw (k.makes, end_remainder_law E t N D n _ k h) (sym c.quotient, sym c.remainder)

    -- the quotient is the number of the last pair that the end remainder's sign chooses
    quotient_chosen : n ≤ longest → (result_of E t N D n).quotient ≡ cond (non_neg (end_remainder E t N D n)) (after E t N D n).value (after E t N D n).decremented
    quotient_chosen m =
        let k = (invariant-after E t N D p o n).1 in
        let f : (result_of E t N D n).quotient < 2 ^ 64 = rw (← (result_by_sign E) t N D n _ k h) (omega (arith, fits_word k.word m)) in
        chosen _ (value (digits E t N D n)) (end_remainder E t N D n) (after E t N D n) f result_formed.0 (pair_after E t N D p.table.digits n)

    -- the end remainder is a quarter of the last remainder
    close : Within 2 D (pos 3 *ℤ end_remainder E t N D n)
    close =
        let k = (invariant-after E t N D p o n).1 in
        let m = word_after E t N D k in
        let q = quarter N n h in
        rw (end_remainder_law E t N D n _ k h)
        (record { low = simp diffs (omega (arith, m.in_range.above, m.meets)); high = simp diffs (omega (arith, m.in_range.below, m.meets)) })

-- in a divider with either estimate
-- § 6.8 All this holds of the steps of a divider with either estimate.
pub runs_right : (E : Estimate) (t : List ℕ) (N D n : ℕ) → Passes E t → Operands N D → 1 ≤ n → RunsRight E t N D n
unfolding after next_of
runs_right E t N D n p o h =
    let f = result_formed E t N D n p o h in
    record {
      many = list_length (digit_of E t N D) 0 n;
      selected = λ i m. digit_at E t N D n i m ∙ ap (λ (x : ℕ). get_or t (128 * row x + column E (after E t N D i).sum (after E t N D i).carry) 0) (divisor_after E t N D i);
      step = λ i m.
          let s = after E t N D i in
          let g = (invariant-after E t N D p o i).1.word.in_range in
          rw (digit_at E t N D n i m) (step_residue _ s g (table_digit_allowed E t s p g) ∙ ap (λ (x : ℕ). pos 4 *ℤ (residue s -ℤ digit (get_or t (cell_at E s) 0) *ℤ pos x)) (divisor_after E t N D i));
      -- the two words' signed sum is the true remainder
      exact = λ i m. let k = (invariant-after E t N D p o i).1 in residue_biased (after E t N D i) ∙ rw k.makes (simp diffs (omega (arith, (word_after E t N D k).meets)));
      range = λ i m. range E t N D p o i;
      pair = λ i m. pair_after E t N D p.table.digits i;
      renews = λ i m. renews_next E t p.table.digits (after E t N D i);
      close = close E t N D n p o h;
      quotient = f.0;
      remainder = f.1;
      result = result_divides E t N D n p o h;
    }

-- in either divider and through every table that passes for it the result is the same
pub results_same : (E F : Estimate) (t u : List ℕ) (N D n : ℕ) → Passes E t → Passes F u → Operands N D → 1 ≤ n → result_of E t N D n ≡ result_of F u N D n
results_same E F t u N D n p q o h = result_divides E t N D n p o h ∙ sym (result_divides F u N D n q o h)

-- § 6.8 All this holds of a caller's run, with every byte of its buffer.
pub run_claim : (t : List ℕ) → Passes EightBits t → (N D n : ℕ) (b : List ℕ) (place : ℕ) → Operands N D → 1 ≤ n → n ≤ most_digits → place + n ≤ length b → RunClaim t N D n b place
unfolding result_of
run_claim t p N D n b place o h l r =
    let g = passed_last EightBits p (run_rules N D n (length b) place) ∙ no_refusal N D n (length b) place o h l r in
    let c = corrected_result EightBits t N D n _ (invariant-after EightBits t N D p o n).1 h in
    let f = result_formed EightBits t N D n p o h in
    record {
      written = rw g refl;
      steps = runs_right EightBits t N D n p o h;
      answer = rw g (record { done = refl; count = refl; quotient = f.0; chosen = quotient_chosen EightBits t N D n p o h (omega arith); remainder = f.1; divides = c.divides; below = c.below });
    }

-- § 6.6 Each step makes both values anew by two appended bits; they stay one apart.
pub pair_demand : PairDemand
pair_demand = record {
  start = λ N D. (refl, refl);
  renews = λ t p. renews_next EightBits t p.table.digits;
  pair = λ t p N D. pair_after EightBits t N D p.table.digits;
  chosen = λ t p N D n o h l. quotient_chosen EightBits t N D n p o h l;
}

-- the same answer through every table that passes, whatever the arguments
-- § 6.9 Through any two tables that pass the answers are the same.
pub run_same : (t u : List ℕ) → Passes EightBits t → Passes EightBits u → (N D n : ℕ) (b : List ℕ) (place : ℕ) → (run_of t N D n b place).answer ≡ (run_of u N D n b place).answer
run_same t u p q N D n b place =
    same_through EightBits (λ (x : RunOutcome). x.answer) (run_refused b) p q (run_rules N D n (length b) place)
    (λ e. let s = spans N D n (length b) place e in ap run_values (results_same EightBits EightBits t u N D n p q s.0 s.1))
