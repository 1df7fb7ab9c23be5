-- The averages, as C is told.
use Rattle.laws.proofs.Basics.{◌≡◌, refl, Bool, List, ℕ, arith, length}
use Rattle.selection.proofs.RefusalNames.{refused_at}
use Rattle.exposure.{specs.computed.Averages.{Accepts, AveragesOutcome}, specs.computed.Outcomes.{averages_of}, proofs.Refusals.{averages_rules_law}}
use Rattle.demands.proofs.AveragesDemand.{averages_demand}
use Rattle.demands.specs.Calls.{AveragesTakes, AveragesWindows}

accepts : {xs : List ℕ} {w : ℕ} {ms rs : List ℕ} → AveragesTakes xs w ms rs → Accepts xs w (length ms) (length rs)
accepts a = record { some = a.some; most = a.most; full = a.full; small = a.small; means_room = a.means_room; remainders_room = a.remainders_room }

pub averages_windows : {xs : List ℕ} {w : ℕ} {newest_first : Bool} {ms rs : List ℕ} {x : AveragesOutcome}
    → x ≡ averages_of xs w newest_first ms rs → AveragesWindows xs w newest_first ms rs x.means x.remainders x.answer
averages_windows {xs} {w} {newest_first = newest} {ms} {rs} e =
    let rules = averages_rules_law xs w (length ms) (length rs) in
    let call = averages_demand.call xs w newest ms rs in
    rw e
    (record {
      width = λ h. rw (refused_at rules 0 0 (refl, h)) (refl, refl, refl);
      reading = λ some most full p h l s. rw (refused_at rules 1 p (omega arith, (h, record { here = l; before = λ i k x. omega (arith, s i k) }))) (refl, refl, refl);
      room = λ some most full s h. rw (refused_at rules 2 0 (omega arith, ((λ i k x. omega (arith, s i k)), (refl, h)))) (refl, refl, refl);
      nothing = λ a. call.accepted.1 (accepts a);
      oldest = λ a o j h. let v = call.oldest_first o (call.accepted.1 (accepts a)) j h in record { sum = v.sum; below = v.below };
      newest = λ a o j b h. let v = call.newest_first_law o (call.accepted.1 (accepts a)) j b h in record { sum = v.sum; below = v.below };
      means_kept = λ a. (call.answer.averages (accepts a)).means_kept;
      remainders_kept = λ a. (call.answer.averages (accepts a)).remainders_kept;
    })
