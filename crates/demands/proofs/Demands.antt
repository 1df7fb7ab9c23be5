-- What the unit promises, whole.
use Rattle.laws.proofs.Basics.{◌≡◌, refl, ⊎_elim, ℕ, ◌+◌, ◌-◌, ◌≤◌}
use Rattle.std.specs.Prelude.{Ok}
use native.Mathlib.Nat.{le_refl, le_of_lt}
use Rattle.selection.specs.{Cell.{Allows, digit}, Maker.{Made}, computed.CellTest.{multiples_of, test_of, cell_verdict_of}, computed.Outcomes.{cell_of}, declared.Estimate.{Estimate}}
use Rattle.selection.proofs.{CellTests.{row_tested as tested-in}, RepairDemand.{repair_demand}, Burned.{burned_tables}, MadeTables.{made_table_is}}
use Rattle.recurrence.proofs.{RunDemand.{pair_demand, pair_example}, StepDemand.{step_demand, step_example}, VisitCounts.{visits_demand, visits_example}}
use Rattle.division.proofs.WholeDigits.{whole_digits}
use Rattle.ieee.proofs.{Ieee754.{ieee_754}, RootOrder.{root_ordered}, RootPinned.{root_pinned}}
use Rattle.demands.specs.computed.Demands.{Demands}
use Rattle.demands.proofs.{Demand1.{demand_1}, Demand2.{demand_2}, Demand3.{demand_3}, RootDemand.{root_demand}, PackedDemand.{packed_demand}, RatioDemand.{ratio_demand}}
use Rattle.demands.proofs.{RecheckDemand.{recheck_demand}, Reversal.{reversal_demand}, AveragesDemand.{averages_demand, averages_example}, BenchCases.{bench_cases}}
use Rattle.demands.proofs.{RootExamples.{root_examples}, FlagExamples.{flag_examples}, FlagDemand.{flag_demand}, Determined.{determined}, PointDemand.{point_demand}}
use Rattle.demands.proofs.WordsInNumbers.{words_in_numbers}

made_nearest : (E : Estimate) (r c a b : ℕ) → Made E r c b → a ≤ 4 → Allows E r c (digit a) → (b - 2) + (2 - b) ≤ (a - 2) + (2 - a)
made_nearest E r c a b m h w = ⊎_elim (λ e. rw e (le_refl _)) (λ l. le_of_lt l) (m.nearest a h w)

row_tested : (E : Estimate) (r c b : ℕ) → r ≤ 15 → c ≤ 127 → b ≤ 4 → Ok (cell_verdict_of (test_of (multiples_of E r) c b)) ≡ cell_of E r c b
row_tested E r c b hr hc hb = tested-in {m = multiples_of E r} (record { small = hr; is = refl }) hc hb

ruleset calls = (point_demand, row_tested, words_in_numbers, determined, demand_1, demand_2, demand_3, root_demand, flag_demand, packed_demand, ratio_demand, averages_demand, reversal_demand, recheck_demand)

ruleset layers = (repair_demand, burned_tables, pair_demand, step_demand, visits_demand, whole_digits, ieee_754, root_ordered, root_pinned)

ruleset worked = (made_table_is, made_nearest, bench_cases, root_examples, flag_examples, averages_example, pair_example, step_example, visits_example)

-- § 21 Everything that is promised is one record, and it is proved:
pub demands : Demands
demands = search (calls, layers, worked)
