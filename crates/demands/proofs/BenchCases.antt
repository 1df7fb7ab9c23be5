-- Bench cases 1 to 12: one collection, one result.
use Rattle.laws.{proofs.Basics.{refl, sym, subst, List, ℕ, lit≤, lit<}, specs.Lists.{list_from}}
use Rattle.selection.specs.{Word.{signed}, Cell.{digit, estimate}, Maker.{MadeTable}, computed.Allowed.{allows_of}, computed.Outcomes.{made_table, made_of}}
use Rattle.selection.proofs.{CellCases.{case_1, case_2, case_3, case_4, case_5, case_5_seven, case_6, case_7, case_7_seven}, MadeTables.{made_bytes, kept_passes}}
use Rattle.selection.specs.declared.Estimate.TheVariants.{EightBits}
use Rattle.recurrence.specs.Recurrence.{after, next_of, value, end_remainder, result_of}
use Rattle.division.{specs.computed.Rounding.{finite_rounded}, proofs.AdmittedAnswers.{whole_answer, binary64_answer}}
use Rattle.demands.specs.computed.BenchCases.{Case8, Case9, BenchCases}

case_8 : Case8 (made_table EightBits)
unfolding made_table list_from made_of allows_of after next_of value end_remainder result_of digit estimate signed
case_8 = record { shown = refl; result = refl; second_estimate = refl; second_remainder = refl }

case_9 : Case9 (made_table EightBits)
unfolding made_table list_from made_of allows_of after next_of value end_remainder result_of digit
case_9 = record { shown = refl; total = refl; result = refl }

-- § 21.5 All twelve cases follow from the definitions.
pub bench_cases : (t : List ℕ) → MadeTable EightBits t → BenchCases t
unfolding finite_rounded
bench_cases t m =
    subst BenchCases (sym (made_bytes EightBits m))
    (record {
      case1 = case_1;
      case2 = case_2;
      case3 = case_3;
      case4 = case_4;
      case5 = case_5;
      case5_seven = case_5_seven;
      case6 = case_6;
      case7 = case_7;
      case7_seven = case_7_seven;
      case8 = case_8;
      case9 = case_9;
      case10 = whole_answer (made_table EightBits) (kept_passes EightBits) 4195835 3145727 (lit< tt) (lit< tt) (lit< tt);
      case11 = binary64_answer (made_table EightBits) (kept_passes EightBits) 0 0x3FF0000000000000 0x4008000000000000 (lit≤ tt);
      case12 = (binary64_answer (made_table EightBits) (kept_passes EightBits) 0 1 0x4000000000000000 (lit≤ tt), binary64_answer (made_table EightBits) (kept_passes EightBits) 2 1 0x4000000000000000 (lit≤ tt));
    })
