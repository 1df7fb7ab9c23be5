-- Roots are right.
use Rattle.laws.proofs.Basics.{refl}
use Rattle.demands.specs.computed.RootDemand.{RootDemand}
use Rattle.division.proofs.{AdmittedAnswers.{root_answer}, RootCalls.{root_clear}, Roots.{whole_root_law, whole_root_one}, IeeeRoots.{ieee_root, ieee_root_one, root_plain}}

-- § 12 All of it holds of both calls.
pub root_demand : RootDemand
root_demand = record {
  whole = λ a h.
      let w = whole_root_law a h in
      rw (root_clear a h) (record { done = refl; under = w.0; next = w.1; remainder = refl; only = λ s u v. whole_root_one a s h u v });
  binary64 = λ direction p h.
      rw (root_answer direction p h)
      (record {
        done = refl;
        meaning = ieee_root direction p;
        only = λ x i. ieee_root_one direction p i (ieee_root direction p);
        plain = λ s k. root_plain p k direction ((ieee_root direction p).root s k);
      });
}
