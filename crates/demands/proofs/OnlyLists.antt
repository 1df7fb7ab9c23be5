-- One answer fits: samples, averages, visits.
use Rattle.laws.proofs.{Basics.{◌≡◌, refl, sym, ap, ◌∙◌, ⊎_elim, Bool, true, false, cond, List, ℕ, ◌+◌, ◌-◌, ◌<◌, ◌≤◌, arith, length, get_or, eqb}, Comparisons.{not_most}, Division.{quotient}}
use Rattle.laws.proofs.{Lists.{kept_one}, Sums.{sum_as}, Tests.{either}}
use Rattle.selection.specs.declared.{Refusal.{Refusal}, Estimate.TheVariants.{EightBits}}
use Rattle.recurrence.{specs.computed.Visits.{visits_rules}, proofs.VisitCounts.{visits_rules_law}}
use Rattle.division.{specs.Samples.{Joined}, specs.declared.samples.Samples.{Samples}, specs.declared.format.Binary64Result.{Binary64Result}, proofs.IeeeOne.{ieee_one}}
use Rattle.division.proofs.{JoinedFlags.{joined_one}, SampleRuns.{samples_rules_law}}
use Rattle.exposure.proofs.Refusals.{averages_rules_law}
use Rattle.demands.specs.{Calls.{DividesSamples, MeanOf, AveragesTakes, AveragesWindows, CountsVisits}, Determined.{Determined}}
use Rattle.demands.proofs.{ByCases.{three_rules, table_cases, sole_pair, sole_triple}, OnlyRuns.{cells_one}, OfDivision.{divides_samples}, OfExposure.{averages_windows}, OfRuns.{counts_visits}}

-- ---- samples

joined_as : {f g : ℕ → ℕ} {n x : ℕ} → ((j : ℕ) → j < n → f j ≡ g j) → Joined f n x → Joined g n x
joined_as e k = record {
  below = k.below;
  each = λ i h. (
    (λ r. let w = (k.each i h).0 r in (w.0, w.1, rw (e w.0 w.1) at w.2)),
    (λ w. (k.each i h).1 (w.0, w.1, rw (e w.0 w.1) w.2)),
  );
}

pub samples_only : (t : List ℕ) (direction : ℕ) (currents sensitivities given : List ℕ)
    → Determined (λ (z : Samples × List ℕ). DividesSamples t direction currents sensitivities given z.1 z.0)
samples_only t d xs ys given = three_rules (samples_rules_law d (length xs) (length ys) (length given))
    (λ p w. sole_pair (λ z k. k.unknown w.1))
    (λ h p w. sole_pair (λ z k. k.lengths h w.1))
    (λ h s p w. sole_pair (λ z k. k.room h s w.1))
    (λ h s r. table_cases EightBits t
    (λ n p f. sole_pair (λ z k. f _ (k.table h s r)))
    (λ ok. let v = (divides_samples {t = t} {direction = d} {currents = xs} {sensitivities = ys} {given = given} refl).divided h s r ok in sole_pair (λ z k.
    let u = k.divided h s r ok in
    let f = joined_one (joined_as (λ j l. ap (λ (x : Binary64Result). x.flags) (ieee_one d _ _ (u.quotient j l) (v.quotient j l))) u.flags) v.flags in (
      (λ i. record { refusal = (u.nothing ∙ sym v.nothing) i; flags = f i; count = (u.count ∙ sym v.count) i }),
      kept_one u.kept v.kept (λ j l. ap (λ (x : Binary64Result). x.pattern) (ieee_one d _ _ (u.quotient j l) (v.quotient j l))),
    ))))

-- ---- averages

mean_one : {xs : List ℕ} {w b m n r s : ℕ} → MeanOf xs w b m r → MeanOf xs w b n s → (m ≡ n) × (r ≡ s)
mean_one u v = let p = quotient u.sum u.below in let q = quotient v.sum v.below in (sym p.0 ∙ q.0, sym p.1 ∙ q.1)

windows_one : {xs : List ℕ} {w : ℕ} {newest_first : Bool} {ms rs a b c d : List ℕ} {f g : Refusal} → AveragesTakes xs w ms rs
    → AveragesWindows xs w newest_first ms rs a b f → AveragesWindows xs w newest_first ms rs c d g → (f ≡ g) × (a ≡ c) × (b ≡ d)
windows_one {xs} {w} {newest_first} {a} {b} {c} {d} h u v =
    let each : (j : ℕ) → j < length xs - w + 1 → (get_or a j 0 ≡ get_or c j 0) × (get_or b j 0 ≡ get_or d j 0) = λ j l. ⊎_elim
    (λ (o : newest_first ≡ true). let e : length xs - w - j + w + j ≡ length xs = omega (arith, h.full) in mean_one (u.newest h o j (length xs - w - j) e) (v.newest h o j (length xs - w - j) e))
    (λ (o : newest_first ≡ false). mean_one (u.oldest h o j (omega (arith, h.full))) (v.oldest h o j (omega (arith, h.full))))
    (either newest_first) in
    (u.nothing h ∙ sym (v.nothing h), kept_one (u.means_kept h) (v.means_kept h) (λ j l. (each j l).0), kept_one (u.remainders_kept h) (v.remainders_kept h) (λ j l. (each j l).1))

pub averages_only : (xs : List ℕ) (w : ℕ) (newest_first : Bool) (ms rs : List ℕ) → Determined (λ (z : Refusal × List ℕ × List ℕ). AveragesWindows xs w newest_first ms rs z.1 z.2 z.0)
averages_only xs w newest ms rs = three_rules (averages_rules_law xs w (length ms) (length rs))
    (λ p x. sole_triple (λ z k. k.width x.1))
    (λ width p x. sole_triple (λ z k. k.reading (omega arith) width.1.0 width.1.1 p x.0 x.1.here (λ i h. not_most (x.1.before i h))))
    (λ width large p x. sole_triple (λ z k. k.room (omega arith) width.1.0 width.1.1 (λ i h. not_most (large i h)) x.1))
    (λ width large room.
    let h : AveragesTakes xs w ms rs = record { some = omega arith; most = width.1.0; full = width.1.1; small = λ i h. not_most (large i h); means_room = room.0; remainders_room = room.1 } in
    sole_triple (λ z k. windows_one h k (averages_windows {xs = xs} {w = w} {newest_first = newest} {ms = ms} {rs = rs} refl)))

-- ---- visits

pub visits_only : (t : List ℕ) (k n : ℕ) (v : List ℕ) → Determined (λ (z : Refusal × List ℕ). CountsVisits t k n v z.1 z.0)
unfolding visits_rules
visits_only t k n v = three_rules (visits_rules_law k n (length v))
    (λ p w. sole_pair (λ z c. c.digits w.1))
    (λ count p w. sole_pair (λ z c. c.bits (omega arith) count.1 w.1))
    (λ count bits p w. sole_pair (λ z c. c.room (omega arith) count.1 (omega arith) bits.1 w.1))
    (λ count bits room. let some : 1 ≤ n = omega arith in let least : 1 ≤ k = omega arith in table_cases EightBits t
    (λ m p f. sole_pair (λ z c. f _ (c.table some count.1 least bits.1 room)))
    (λ ok. let b = (counts_visits {t = t} {k = k} {n = n} {v = v} refl).counted some count.1 least bits.1 room ok in sole_pair (λ z c.
    let a = c.counted some count.1 least bits.1 room ok in (
      a.nothing ∙ sym b.nothing,
      kept_one a.kept b.kept (λ m h. a.counts m h
          ∙ sum_as _ _ _ (λ x _. sum_as _ _ _ (λ y _. sum_as _ _ n (λ i l. ap (λ (e : ℕ). cond (eqb e m) 1 0) (cells_one EightBits (a.steps x y) (b.steps x y) i l)))) ∙ sym (b.counts m h)),
    ))))

pub ruleset only_lists = (samples_only, averages_only, visits_only)
