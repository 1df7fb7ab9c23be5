-- One answer fits: packed numbers and affected records.
use Rattle.laws.proofs.{Basics.{◌≡◌, sym, ap, ◌∙◌, ◌⊎◌, inl, inr, ⊎_elim, pos, List, ℕ, ◌+◌, ◌-◌, ◌*◌, ◌%◌, ◌/◌, ◌^◌, ◌<◌, ◌≤◌, arith, length, get_or, ltb, ◌||◌}, Comparisons.{not_below}}
use Rattle.laws.{proofs.Lists.{kept_one, list_length}, proofs.Counting.{tally_one}, proofs.Division.{same_or_other}, proofs.Powers.{pow_cancel}, specs.Shifts.{shift_to}}
use native.Mathlib.Nat.{pos_of_ne-zero, le_antisymm, le_of_mul-le-mul_right, mul-lt-mul_of_pos_right, mul-le-mul_right}
use lib.{Pow.{pow-add, pow_pos}, Seq.{ext_get_or}}
use Rattle.selection.{proofs.RefusalNames.{below, either_of, holds_decides}, specs.computed.Refusals.{Rule, number_first}, specs.declared.Estimate.{Estimate}}
use Rattle.recurrence.{specs.Recurrence.{Operands, digit_of, digits, value, end_remainder}, specs.computed.Recheck.{byte_read, RunMarkClaim, affected_run_rules}, proofs.RecheckRun.{affected_run_rules_law}}
use Rattle.recurrence.{specs.declared.RunResult.{RunResult}, proofs.Digits.{digit_at}}
use Rattle.division.specs.{Packed.{packed_number, Decimal}, Format.{FiniteNonzero}, Recheck.{OperandOf}, computed.Recheck.{affected_of}, computed.RecheckWhole.{whole_dividend, whole_count}}
use Rattle.division.{specs.declared.recheck.AffectedCount.{AffectedCount}, specs.computed.WholeSteps.{digits_after}, proofs.Classes.{nonzero_class, by_kind}}
use Rattle.division.proofs.{WholeThrough.{whole_operands, whole_dividend_law}, Roots.{four_pos}, Rechecking.{recheck_rules_law}, RecheckingWhole.{recheck_whole_rules_law}}
use Rattle.demands.proofs.{PackedDemand.{packed_demand}, RecheckDemand.{recheck_demand}, ByCases.{by_rule, three_rules, sole, sole_pair}, OfRuns.{steps_of}}
use Rattle.demands.proofs.{OfRecords.{fewest, corrected_either}, OnlyRuns.{cells_one}}
use Rattle.demands.specs.{Calls.{DividesPacked, MarksRun, AffectsSamples, AffectsWhole, AffectsRun}, Determined.{Determined}}

-- ---- packed numbers

-- a half of byte i is above 9
abbrev no_digit_rule : List ℕ → Rule
no_digit_rule bs = number_first 15 (λ i. (9 < get_or bs i 0 / 16) ⊎ (9 < get_or bs i 0 % 16)) (λ i. ltb 9 (get_or bs i 0 / 16) || ltb 9 (get_or bs i 0 % 16)) 8

decimal : {bs : List ℕ} → ((i : ℕ) → i < 8 → (9 < get_or bs i 0 / 16) ⊎ (9 < get_or bs i 0 % 16) → ⊥) → Decimal bs
decimal n = record { high = λ i h. not_below (λ l. n i h (inl l)); low = λ i h. not_below (λ l. n i h (inr l)) }

pub packed_only : (xs ys : List ℕ) → length xs ≡ 8 → length ys ≡ 8 → Determined (DividesPacked xs ys)
packed_only xs ys lx ly = by_rule (no_digit_rule xs) (λ k h. holds_decides (either_of (below 9 (get_or xs k 0 / 16)) (below 9 (get_or xs k 0 % 16))))
    (λ p w. sole (λ x k. k.dividend p (record { within = w.0; here = w.1.here; before = w.1.before })))
    (λ nx. by_rule (no_digit_rule ys) (λ k h. holds_decides (either_of (below 9 (get_or ys k 0 / 16)) (below 9 (get_or ys k 0 % 16))))
    (λ p w. sole (λ x k. k.divisor p (decimal nx) (record { within = w.0; here = w.1.here; before = w.1.before })))
    (λ ny. ⊎_elim
    (λ z. sole (λ x k. k.by_zero (decimal nx) (decimal ny) z))
    (λ some.
    let d = packed_demand.divides xs ys (record { eight = lx; decimal = decimal nx }) (record { eight = ly; decimal = decimal ny }) (pos_of_ne-zero some) in
    sole (λ x k.
    let m = k.divided lx ly (decimal nx) (decimal ny) (pos_of_ne-zero some) in
    let o = d.only x.quotient x.remainder m.quotient m.remainder m.divides m.below in
    λ i. record { refusal = (m.nothing ∙ sym d.done) i; quotient = o.0 i; remainder = o.1 i }))
    (same_or_other (packed_number ys) 0)))

-- ---- operands

cancel : {m n : ℕ} (k : ℕ) → 0 < k → m * k ≡ n * k → m ≡ n
cancel k h e = le_antisymm (le_of_mul-le-mul_right (omega (arith, e)) h) (le_of_mul-le-mul_right (omega (arith, e)) h)

-- two numbers from 2^60 on and below 2^61 that are the same times powers of two
power_most : {N M e f : ℕ} → N < 2 ^ 61 → 2 ^ 60 ≤ M → N * 2 ^ e ≡ M * 2 ^ f → f ≤ e
power_most {N} {M} {e} {f} high low alike =
    let l : 2 ^ f < 2 ^ (e + 1) = rw (pow-add 2 e 1) (omega (arith, mul-lt-mul_of_pos_right high (pow_pos e), mul-le-mul_right (2 ^ f) low)) in
    omega (arith, pow_cancel l)

operand_one : {p N M : ℕ} → OperandOf p N → OperandOf p M → N ≡ M
operand_one {p} {N} {M} u v =
    let e : N * 2 ^ u.exp ≡ M * 2 ^ v.exp = u.same ∙ sym v.same in
    let x : v.exp ≡ u.exp = le_antisymm (power_most u.high v.low e) (power_most v.high u.low (sym e)) in
    cancel (2 ^ u.exp) (pow_pos u.exp) (e ∙ ap (λ (k : ℕ). M * 2 ^ k) x)

-- ---- marks

-- a pattern is finite and not 0, or it is not
nonzero_or_not : (p : ℕ) → FiniteNonzero p ⊎ (FiniteNonzero p → ⊥)
nonzero_or_not p = by_kind p (λ e. inr (λ h. (nonzero_class p h).0 e)) inl (λ e. inr (λ h. (nonzero_class p h).1 e)) (λ e. inr (λ h. (nonzero_class p h).2 e))

both_nonzero : (p q : ℕ) → (FiniteNonzero p × FiniteNonzero q) ⊎ ((FiniteNonzero p → ⊥) ⊎ (FiniteNonzero q → ⊥))
both_nonzero p q = ⊎_elim (λ a. ⊎_elim (λ b. inl (a, b)) (λ b. inr (inr b)) (nonzero_or_not q)) (λ a. inr (inl a)) (nonzero_or_not p)

-- in a divider with the estimate E
module _ (E : Estimate) where
  -- m, and a mark k of which it is claimed
  mark_one : {t : List ℕ} {N D n m k : ℕ} → MarksRun E t N D n m → RunMarkClaim E t N D n k → (k ≡ 0) ⊎ (k ≡ 1) → m ≡ k
  mark_one {t} {N} {D} {n} {m} {k} u c either =
      let read : (i : ℕ) → i < n → get_or u.digits i 0 ≡ byte_read E t N D i = λ i h. u.bytes i h ∙ ap (λ (x : ℕ). get_or t x 0) (cells_one E u.steps (steps_of E t N D n) i h) in
      let alike : u.digits ≡ digits E t N D n = ext_get_or 0 u.digits (digits E t N D n) (u.many ∙ sym (list_length (digit_of E t N D) 0 n))
      (λ i h. let l : i < n = omega (arith, h, u.many) in read i l ∙ sym (digit_at E t N D n i l)) in
      ⊎_elim
      (λ (z : k ≡ 0).
      let r = c.right.0 z in
      let q = sym (c.quotient z) ∙ ap (λ (x : RunResult). pos x.quotient) r.result in
      u.right (λ i h. rw (read i h) (r.digits i h)) (⊎_elim (λ e. inl (rw alike (sym e ∙ q))) (λ e. inr (rw alike (sym e ∙ q))) (corrected_either (value (digits E t N D n)) (end_remainder E t N D n))) ∙ sym z)
      (λ (z : k ≡ 1). ⊎_elim (λ w. u.no_digit w.step w.early (rw (read w.step w.early) w.above)) (λ w. u.wrong (λ e. w.number (rw alike at e)) (λ e. w.less_one (rw alike at e))) (c.neither z) ∙ sym z)
      either

  pub affected_only : (t currents sensitivities given : List ℕ) → Determined (λ (z : AffectedCount × List ℕ). AffectsSamples E t currents sensitivities given z.1 z.0)
  affected_only t xs ys given = three_rules (recheck_rules_law (length t) (length xs) (length ys) (length given))
      (λ p w. sole_pair (λ z k. k.lengths w.1))
      (λ s p w. sole_pair (λ z k. k.room s w.1))
      (λ s r p w. sole_pair (λ z k. k.size s r w.1))
      (λ s r h. let d = (recheck_demand E).told t xs ys given h s r in let o = affected_of E t xs ys given in sole_pair {v = o.answer} (λ z k.
      let m = k.marked s r h in
      let each : (j : ℕ) → j < length xs → get_or z.1 j 0 ≡ get_or o.affected j 0 = λ j l. ⊎_elim
      (λ n.
      let u = m.marks j l n.0 n.1 in
      let e = operand_one u.dividend ((recheck_demand E).operand (get_or xs j 0) n.0) in
      let f = operand_one u.divisor ((recheck_demand E).operand (get_or ys j 0) n.1) in
      mark_one (rw (e, f) at u.marks) ((d.claim j l).run n.0 n.1) (d.mark j l))
      (λ n. m.by_class j l n ∙ sym (d.by_class j l n))
      (both_nonzero (get_or xs j 0) (get_or ys j 0)) in
      let e = kept_one m.kept d.rechecked.kept each in
      ((λ i. record { refusal = (m.nothing ∙ sym d.done) i; count = tally_one (rw e at m.count) d.count i }), e)))

  -- ---- whole numbers

  pub affected_whole_only : (t : List ℕ) (a b : ℕ) → Determined (AffectsWhole E t a b)
  affected_whole_only t a b = three_rules (recheck_whole_rules_law (length t) a b)
      (λ p w. sole (λ x k. k.large w.1))
      (λ small p w. sole (λ x k. k.by_zero small.0 w.1))
      (λ small some p w. sole (λ x k. k.size small.0 (pos_of_ne-zero some) small.1 w.1))
      (λ small some h.
      let ha = small.0 in
      let hb = small.1 in
      let hz = pos_of_ne-zero some in
      let d = (recheck_demand E).whole_told t a b h ha hz hb in
      let s = shift_to 60 b in
      let k = digits_after a s in
      let o = whole_operands a b ha hz hb in
      let own = whole_dividend_law a b ha hz hb in
      sole (λ x c.
      let u = c.marked ha hz hb h in
      let places : u.s ≡ s = le_antisymm
      (power_most {N = b * 2 ^ u.s} {M = b * 2 ^ s} {e = s} {f = u.s} u.divisor.1 o.least (omega arith))
      (power_most {N = b * 2 ^ s} {M = b * 2 ^ u.s} {e = u.s} {f = s} o.most u.divisor.0 (omega arith)) in
      let mine : u.N * 4 ^ (u.n - 1) ≡ a * 2 ^ s = u.dividend ∙ ap (λ (x : ℕ). a * 2 ^ x) places in
      let less : u.n ≤ k + 1 - 1 + 1 = u.fewest (k + 1 - 1) (rw places (rw (← own) (mul-lt-mul_of_pos_right o.dividend (four_pos (k + 1 - 1))))) in
      let more : k + 1 ≤ u.n - 1 + 1 = fewest a b ha hz hb (u.n - 1) (rw (← mine) (mul-lt-mul_of_pos_right u.below (four_pos (u.n - 1)))) in
      let count : u.n ≡ whole_count a b = omega (arith, less, more, u.some) in
      let start : u.N ≡ whole_dividend a b = cancel (4 ^ (whole_count a b - 1)) (four_pos (whole_count a b - 1)) (ap (λ (x : ℕ). u.N * 4 ^ (x - 1)) (sym count) ∙ mine ∙ sym own) in
      λ i. record { refusal = (c.nothing ha hz hb h ∙ sym d.done) i; affected = mark_one (rw (start, places, count) at u.marks) d.claim.run d.mark i }))

  -- ---- a run

  pub affected_run_only : (t : List ℕ) (N D n : ℕ) → Determined (AffectsRun E t N D n)
  unfolding affected_run_rules
  affected_run_only t N D n = three_rules (affected_run_rules_law (length t) N D n)
      (λ p w. sole (λ x k. k.digits w.1))
      (λ count p w. sole (λ x k. k.operands (omega arith) count.1 (⊎_elim (λ v. ⊎_elim inl (λ y. inr (inl (omega (arith, y)))) v) (λ y. inr (inr (omega (arith, y)))) w.1)))
      (λ count spans p w. sole (λ x k. k.size (omega arith) count.1 (omega arith) spans.0.0 (omega arith) w.1))
      (λ count spans h.
      let some : 1 ≤ n = omega arith in
      let o : Operands N D = omega arith in
      let d = (recheck_demand E).run_told t N D n h o some count.1 in
      sole (λ x k. λ i. record {
        refusal = (k.nothing some count.1 o.dividend o.least o.most h ∙ sym d.done) i;
        affected = mark_one (k.marked some count.1 o.dividend o.least o.most h) d.claim d.mark i;
      }))

pub ruleset only_records = (packed_only, affected_only, affected_whole_only, affected_run_only)
