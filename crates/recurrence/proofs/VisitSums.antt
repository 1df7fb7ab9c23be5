-- The visits of all runs: what they add up to, and where there are none.
use Rattle.laws.proofs.Basics.{◌≡◌, ◌∙◌, List, ℕ, ◌-◌, ◌*◌, ◌^◌, arith}
use Rattle.laws.{proofs.Powers.{four_pow}, specs.Sums.{sum_below}, proofs.Sums.{sum_all, sum_nothing, sum_zero, sum_swap}}
use Rattle.std.proofs.Common.{pow-add}
use Rattle.selection.specs.declared.Estimate.TheVariants.{EightBits}
use Rattle.recurrence.specs.Recurrence.{cell_at, after}
use Rattle.recurrence.specs.computed.Visits.{is_at, operand, run_visits, all_visits, VisitsClaim}
use Rattle.recurrence.proofs.Visiting.{sum_at, at_here, at_other, cell_below, dividend_visits, all_most}

run_total : (t : List ℕ) (N D n : ℕ) → sum_below (run_visits t N D n) 2048 ≡ n
unfolding run_visits
run_total t N D n = sum_swap (λ i. is_at (cell_at EightBits (after EightBits t N D i))) n 2048 ∙ sum_all _ 1 n (λ i h. sum_at (cell_at EightBits (after EightBits t N D i)) 2048 (cell_below EightBits (after EightBits t N D i))) ∙ omega arith

pub visits_claim : (t : List ℕ) (k n : ℕ) → VisitsClaim t k n
unfolding all_visits run_visits
visits_claim t k n =
    let m = 2 ^ (k - 1) in
    record {
      total = sum_swap (dividend_visits t k n) m 2048 ∙ sum_all _ (m * n) m (λ x h. sum_swap (λ y. run_visits t (operand k x) (operand k y) n) m 2048 ∙ sum_all _ n m (λ y g. run_total t (operand k x) (operand k y) n)) ∙ rw (four_pow (k - 1), pow-add 2 (k - 1) (k - 1)) (omega arith);
      zero = λ c. (
        λ z a.
            let x = sum_zero _ m z a.x a.dividend in
            let y = sum_zero _ m x a.y a.divisor in
            omega (arith, sum_zero _ n y a.i a.taken, at_here _ c a.here),
        λ f. sum_nothing _ m (λ x hx. sum_nothing _ m (λ y hy. sum_nothing _ n (λ i hi. at_other _ c (λ q. f (record { x = x; y = y; i = i; dividend = hx; divisor = hy; taken = hi; here = q }))))),
      );
      most = all_most t k n;
    }
