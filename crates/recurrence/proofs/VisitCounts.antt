-- The visits of all runs: the answer of the call, and what is claimed of it.
use Rattle.laws.{proofs.Basics.{◌≡◌, refl, sym, ap, ◌∙◌, ◌↔◌, List, ◌++◌, ℕ, ◌+◌, ◌-◌, ◌*◌, ◌/◌, ◌^◌, ◌≤◌, ◌<◌, arith, length}, specs.Lists.{list_from}, proofs.Lists.{fill_right, filled_one}}
use Rattle.laws.{specs.Sums.{sum_below}, proofs.Sums.{sum_as}}
use Rattle.std.specs.Prelude.{Ok}
use Rattle.std.proofs.Common.{div-lt_iff_lt-mul, div-add-mod', le-div_iff_mul-le}
use native.Mathlib.Nat.{eq_of_mul-eq-mul_right, mul-mod_left}
use Rattle.selection.proofs.RefusalNames.{Wrongs, first_refusal, rank, table_rules, WellFormed, clear, admits, refuses_one, refuses, none_clear, clear_admits, lent, passed_last}
use Rattle.selection.specs.{computed.Allowed.{allows_of}, computed.Outcomes.{made_table, made_of}, Table.{Passes}, declared.Estimate.TheVariants.{EightBits}}
use Rattle.recurrence.specs.Recurrence.{next_of, after}
use Rattle.recurrence.specs.computed.Visits.{is_at, run_visits, all_visits, visits_rules, VisitsOutcome, visits_refused, visits_of, Visits, Significant, OperandOnce, VisitsShown, VisitsDemand, VisitsExample}
use Rattle.recurrence.proofs.VisitSums.{visits_claim}
use Rattle.recurrence.proofs.Visiting.{unit_some, units, operand_span}

-- ---- the call

module _ (k n len : ℕ) where
  pub visits_rules_law : WellFormed (visits_rules k n len)
  unfolding visits_rules rank
  visits_rules_law = record { sound = (tt, λ _. (tt, λ _. (tt, λ _. tt))); in_order = tt }

  pub visits_lent : (t : List ℕ) → WellFormed (visits_rules k n len ++ table_rules EightBits t)
  unfolding visits_rules table_rules rank
  visits_lent t = lent EightBits (visits_rules k n len) t visits_rules_law tt

  -- arguments in their spans have no refusal of their own
  visits_clear : 1 ≤ n → n ≤ 28 → 1 ≤ k → k ≤ 6 → 2048 ≤ len → first_refusal (visits_rules k n len) ≡ Ok tt
  unfolding visits_rules
  visits_clear some most h l r = clear_admits visits_rules_law (omega arith)

module _ (t : List ℕ) (k n : ℕ) (v : List ℕ) where
  room : ((m p : ℕ) → Wrongs (visits_rules k n (length v) ++ table_rules EightBits t) m p → ⊥) → 2048 ≤ length v
  unfolding visits_rules
  room a = (none_clear (visits_lent k n (length v) t) a).1.1.0

  -- § 15.1 The list holds how often each cell is met.
  pub visits_right : Visits t k n v (visits_of t k n v)
  visits_right =
      let c = visits_lent k n (length v) t in
      record { refuses = refuses c (λ (x : VisitsOutcome). x.answer) (visits_refused v) _ refl (λ f. refl) refl; counts = λ a. rw (admits c a) (fill_right (all_visits t k n) 2048 v (room a)) }

-- what is accepted, and what the list then shows
visits_shown : (t : List ℕ) (k n : ℕ) (v : List ℕ) → 1 ≤ n → n ≤ 28 → 1 ≤ k → k ≤ 6 → 2048 ≤ length v → Passes EightBits t → VisitsShown t k n v (visits_of t k n v)
visits_shown t k n v some most h l r p =
    let e = passed_last EightBits p (visits_rules k n (length v)) ∙ visits_clear k n (length v) some most h l r in
    let w = fill_right (all_visits t k n) 2048 v r in
    let claim = visits_claim t k n in
    rw e (record {
      accepted = refl;
      shown = w.each;
      kept = w.kept;
      total = sum_as _ (all_visits t k n) 2048 w.each ∙ claim.total;
      zero = λ c i. (λ z. (claim.zero c).0 (sym (w.each c i) ∙ z), λ f. w.each c i ∙ (claim.zero c).1 f);
    })

-- ---- the operands: all numbers of k significant bits, each once

operands_once : (k N : ℕ) → 1 ≤ k → k ≤ 6 → Significant k N ↔ OperandOnce k N
operands_once k N h l = (
  λ s.
      let m = 2 ^ (k - 1) in
      let unit = 2 ^ (61 - k) in
      let q = N / unit in
      let r = units k h l in
      let some = unit_some m unit r in
      let e : q * unit ≡ N = omega (arith, div-add-mod' N unit, s.zeros) in
      let low : m ≤ q = (le-div_iff_mul-le some).1 (omega (arith, r, s.least)) in
      let high : q < m + m = (div-lt_iff_lt-mul some).1 (omega (arith, r, s.most)) in
      let a : m + (q - m) ≡ q = omega (arith, low) in
      record {
        x = q - m;
        bits = omega (arith, low, high);
        is = ap (λ (j : ℕ). j * unit) a ∙ e;
        only = λ y g. let z : m + y ≡ q = eq_of_mul-eq-mul_right unit some (m + y) q (g ∙ sym e) in omega arith;
      },
  λ o.
      let p = operand_span k h l o.x o.bits in
      rw (← o.is) (record { least = p.0; most = p.1; zeros = mul-mod_left (2 ^ (k - 1) + o.x) (2 ^ (61 - k)) }),
)

-- § 15.2 The counts add up to n·4^(k−1), and one is 0 exactly where no run goes.
pub visits_demand : VisitsDemand
visits_demand = record { operands = operands_once; claim = visits_claim; shown = visits_shown }

-- no other answer fits
-- § 15.1 The list holds how often each cell is met.
pub visits_one : {t : List ℕ} {k n : ℕ} {v : List ℕ} (a b : VisitsOutcome) → Visits t k n v a → Visits t k n v b → a ≡ b
visits_one {t} {k} {n} {v} a b x y =
    let c = visits_lent k n (length v) t in
    refuses_one c x.refuses y.refuses (λ e f i. record { answer = f i; visits = filled_one (x.counts (clear c e)) (y.counts (clear c e)) i })

-- § 15.1 Two bits and three digits are counted in numbers.
pub visits_example : VisitsExample
unfolding all_visits run_visits sum_below is_at made_table list_from made_of allows_of after next_of
visits_example = record { row_0 = (refl, refl, refl, refl); row_8 = (refl, refl, refl, refl) }
