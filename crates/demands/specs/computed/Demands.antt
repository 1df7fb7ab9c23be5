-- What the unit promises, whole: each statement under the name of its theorem. Those that speak of one layer alone are stated in that layer's crate.
use Rattle.std.specs.Prelude.{◌≡◌, List, ℕ, ◌+◌, ◌-◌, ◌≤◌, Ok}
use Rattle.selection.specs.Cell.{Allows, digit}
use Rattle.selection.specs.Maker.{Made, MadeTable}
use Rattle.selection.specs.computed.CellTest.{multiples_of, test_of, cell_verdict_of}
use Rattle.selection.specs.computed.Outcomes.{cell_of, made_table}
use Rattle.selection.specs.computed.RepairDemand.{RepairDemand}
use Rattle.selection.specs.computed.Burned.{BurnedTables}
use Rattle.recurrence.specs.computed.OnTheFly.{PairDemand, PairExample}
use Rattle.recurrence.specs.computed.StepDemand.{StepDemand, StepExample}
use Rattle.recurrence.specs.computed.Visits.{VisitsDemand, VisitsExample}
use Rattle.division.specs.computed.WholeDigits.{WholeDigits}
use Rattle.ieee.specs.computed.Ieee754.{Ieee754}
use Rattle.ieee.specs.computed.RootOrder.{RootOrder}
use Rattle.ieee.specs.computed.RootPinned.{RootPinned}
use Rattle.demands.specs.computed.Demand1.{Demand1}
use Rattle.demands.specs.computed.Demand2.{Demand2}
use Rattle.demands.specs.computed.Demand3.{Demand3}
use Rattle.demands.specs.computed.PointDemand.{PointDemand}
use Rattle.demands.specs.computed.WordsInNumbers.{WordsInNumbers}
use Rattle.demands.specs.computed.RootDemand.{RootDemand}
use Rattle.demands.specs.computed.PackedDemand.{PackedDemand}
use Rattle.demands.specs.computed.RatioDemand.{RatioDemand}
use Rattle.demands.specs.computed.RecheckDemand.{RecheckDemand}
use Rattle.demands.specs.computed.AveragesDemand.{AveragesDemand, ReversalDemand, AveragesExample}
use Rattle.demands.specs.computed.BenchCases.{BenchCases}
use Rattle.demands.specs.computed.RootExamples.{RootExamples}
use Rattle.demands.specs.computed.FlagExamples.{FlagExamples}
use Rattle.demands.specs.computed.FlagDemand.{FlagDemand}
use Rattle.demands.specs.Determined.{EachDetermined}
use Rattle.selection.specs.declared.Estimate.{Estimate}
use Rattle.selection.specs.declared.Estimate.TheVariants.{EightBits}

-- § 21 Everything that is promised is one record, and it is proved:
pub record Demands : Type 0 where
  -- what a C program is told by each call (Calls) leaves no choice
  pub determined : EachDetermined
  pub demand_1 : Demand1
  pub demand_2 : Demand2
  pub demand_3 : Demand3
  pub root_demand : RootDemand
  pub flag_demand : FlagDemand
  pub packed_demand : PackedDemand
  pub ratio_demand : RatioDemand
  pub averages_demand : AveragesDemand
  pub reversal_demand : ReversalDemand
  pub repair_demand : (E : Estimate) → RepairDemand E
  pub recheck_demand : (E : Estimate) → RecheckDemand E
  pub burned_tables : BurnedTables
  pub point_demand : PointDemand
  -- § 4.3 Given its row's multiples, the test of a cell returns the verdict and witness of the single cell.
  pub row_tested : (E : Estimate) (r c b : ℕ) → r ≤ 15 → c ≤ 127 → b ≤ 4 → Ok (cell_verdict_of (test_of (multiples_of E r) c b)) ≡ cell_of E r c b
  pub words_in_numbers : WordsInNumbers
  pub pair_demand : PairDemand
  pub step_demand : StepDemand
  pub visits_demand : VisitsDemand
  pub whole_digits : WholeDigits
  pub ieee_754 : Ieee754
  pub root_ordered : RootOrder
  pub root_pinned : RootPinned
  -- worked in numbers
  pub made_table_is : (E : Estimate) → MadeTable E (made_table E)
  pub made_nearest : (E : Estimate) (r c a b : ℕ) → Made E r c b → a ≤ 4 → Allows E r c (digit a) → (b - 2) + (2 - b) ≤ (a - 2) + (2 - a)
  pub bench_cases : (t : List ℕ) → MadeTable EightBits t → BenchCases t
  pub root_examples : RootExamples
  pub flag_examples : FlagExamples
  pub averages_example : AveragesExample
  pub pair_example : PairExample
  pub step_example : StepExample
  pub visits_example : VisitsExample
