-- One answer fits every call.
use Rattle.laws.proofs.{Basics.{⊎_elim, List, ℕ, ◌≤◌, arith}, Division.{same_or_other}}
use Rattle.selection.{proofs.RefusalNames.{below, either_of}, specs.computed.Refusals.{number}, specs.declared.Estimate.{Estimate}, specs.declared.Estimate.TheVariants.{SevenBits, EightBits}}
use Rattle.selection.specs.declared.{Refusal.{Refusal}, repair.Repaired.{Repaired}}
use Rattle.division.specs.declared.recheck.AffectedCount.{AffectedCount}
use Rattle.demands.specs.{Calls.{ForBits, ChecksTableFor, ChecksCellFor, TellsLimitsFor, MakesTableFor, RepairsTableFor, AffectsSamplesFor, AffectsWholeFor, AffectsRunFor}, Determined.{Determined, EachDetermined}}
use Rattle.demands.proofs.{OnlySelection.{only_tables, table_only, cell_only, limits_only, make_only, repair_only}, OnlyRuns.{only_runs}, OnlyWhole.{only_numbers}, OnlyLists.{only_lists}}
use Rattle.demands.proofs.{OnlyRecords.{only_records, affected_only, affected_whole_only, affected_run_only}, ByCases.{by_rule, sole, sole_by, sole_pair, sole_triple}}

-- for a number of bits: where the refused answer is one, and that of each estimate
bits_only : (n : ℕ) {X : Type 0} {Only : X → Type 0} {C : Estimate → X → Type 0} → Determined Only → ((E : Estimate) → Determined (C E)) → Determined (λ (x : X). ForBits n (Only x) (λ E. C E x))
bits_only n refused each = by_rule (number 17 (either_of (below n 7) (below 8 n))) tt
    (λ p w. sole_by refused (λ x k. k.neither w.1))
    (λ (h : (7 ≤ n) × (n ≤ 8)). ⊎_elim (λ e. sole_by (each SevenBits) (λ x k. k.seven e)) (λ o. sole_by (each EightBits) (λ x k. k.eight (omega arith))) (same_or_other n 7))

table_for_only : (bits : ℕ) (t : List ℕ) → Determined (ChecksTableFor bits t)
table_for_only bits t = bits_only bits (sole (λ x e. e)) (λ E. table_only E t)

cell_for_only : (bits r c b : ℕ) → Determined (ChecksCellFor bits r c b)
cell_for_only bits r c b = bits_only bits (sole (λ x e. e)) (λ E. cell_only E r c b)

limits_for_only : (bits r : ℕ) → Determined (TellsLimitsFor bits r)
limits_for_only bits r = bits_only bits (sole (λ x e. e)) (λ E. limits_only E r)

make_for_only : (bits : ℕ) (s : List ℕ) → Determined (λ (z : Refusal × List ℕ). MakesTableFor bits s z.1 z.0)
make_for_only bits s = bits_only bits (sole_pair (λ z e. e)) (λ E. make_only E s)

repair_for_only : (bits : ℕ) (t rs cs : List ℕ) → Determined (λ (z : Repaired × List ℕ × List ℕ). RepairsTableFor bits t rs cs z.1 z.2 z.0)
repair_for_only bits t rs cs = bits_only bits (sole_triple (λ z e. e)) (λ E. repair_only E t rs cs)

affected_for_only : (bits : ℕ) (t currents sensitivities given : List ℕ) → Determined (λ (z : AffectedCount × List ℕ). AffectsSamplesFor bits t currents sensitivities given z.1 z.0)
affected_for_only bits t currents sensitivities given = bits_only bits (sole_pair (λ z e. e)) (λ E. affected_only E t currents sensitivities given)

affected_whole_for_only : (bits : ℕ) (t : List ℕ) (a b : ℕ) → Determined (AffectsWholeFor bits t a b)
affected_whole_for_only bits t a b = bits_only bits (sole (λ x e. e)) (λ E. affected_whole_only E t a b)

affected_run_for_only : (bits : ℕ) (t : List ℕ) (N D n : ℕ) → Determined (AffectsRunFor bits t N D n)
affected_run_for_only bits t N D n = bits_only bits (sole (λ x e. e)) (λ E. affected_run_only E t N D n)

ruleset only_bits = (table_for_only, cell_for_only, limits_for_only, make_for_only, repair_for_only, affected_for_only, affected_whole_for_only, affected_run_for_only)

-- § 21.4 The contract of each call admits one answer and one content of each list.
pub determined : EachDetermined
determined = search (only_tables, only_runs, only_numbers, only_lists, only_records, only_bits)
