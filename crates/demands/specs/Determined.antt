-- The callers' contracts leave no choice: to each list of arguments one answer fits, and one content of each lent list. So an export that meets them can answer nothing else, whatever its own
-- contract says.
use Rattle.std.specs.Prelude.{◌≡◌, Bool, List, ℕ, length}
use Rattle.demands.specs.Calls.{ChecksTable, ChecksCell, TellsLimits, MakesTable, Runs, RunsKept, StepsOnce, DividesWhole, DividesWholeKept, DividesBinary64, DividesBinary64Kept, DividesSamples, AveragesWindows, RootsWhole, RootsBinary64, DividesPacked, RepairsTable, CountsVisits, ComparesRatios, ChecksTableFor, ChecksCellFor, TellsLimitsFor, MakesTableFor, RepairsTableFor, AffectsSamplesFor, AffectsWholeFor, AffectsRunFor, NamesVersion}
use Rattle.selection.specs.declared.Refusal.{Refusal}
use Rattle.selection.specs.declared.repair.Repaired.{Repaired}
use Rattle.recurrence.specs.declared.Ran.{Ran}
use Rattle.division.specs.declared.samples.Samples.{Samples}
use Rattle.division.specs.declared.recheck.AffectedCount.{AffectedCount}
use Rattle.selection.specs.declared.Estimate.TheVariants.{EightBits}

-- nothing but the answer has the property C
-- § 21.4 The contract of each call admits one answer and one content of each list.
pub record Determined {X : Type 0} (C : X → Type 0) : Type 0 where
  pub answer : X
  pub only : (x : X) → C x → x ≡ answer

-- § 21.4 The contract of each call admits one answer and one content of each list.
pub record EachDetermined : Type 0 where
  pub check_table : (t : List ℕ) → Determined (ChecksTable EightBits t)
  pub check_cell : (r c b : ℕ) → Determined (ChecksCell EightBits r c b)
  pub row_limits : (r : ℕ) → Determined (TellsLimits EightBits r)
  pub make_table : (s : List ℕ) → Determined (λ (z : Refusal × List ℕ). MakesTable EightBits s z.1 z.0)
  pub run : (t : List ℕ) (N D n : ℕ) (b : List ℕ) (place : ℕ) → Determined (λ (z : Ran × List ℕ). Runs t N D n b place z.1 z.0)
  pub run_kept : (N D n : ℕ) (b : List ℕ) (place : ℕ) → Determined (λ (z : Ran × List ℕ). RunsKept N D n b place z.1 z.0)
  pub step : (s k D : ℕ) (t : List ℕ) → Determined (StepsOnce s k D t)
  pub divide_whole : (t : List ℕ) (a b : ℕ) → Determined (DividesWhole t a b)
  pub divide_whole_kept : (a b : ℕ) → Determined (DividesWholeKept a b)
  pub divide_binary64 : (t : List ℕ) (direction a b : ℕ) → Determined (DividesBinary64 t direction a b)
  pub divide_binary64_kept : (direction a b : ℕ) → Determined (DividesBinary64Kept direction a b)
  pub divide_samples : (t : List ℕ) (direction : ℕ) (currents sensitivities given : List ℕ)
      → Determined (λ (z : Samples × List ℕ). DividesSamples t direction currents sensitivities given z.1 z.0)
  pub average_windows : (xs : List ℕ) (w : ℕ) (newest_first : Bool) (ms rs : List ℕ) → Determined (λ (z : Refusal × List ℕ × List ℕ). AveragesWindows xs w newest_first ms rs z.1 z.2 z.0)
  pub root_whole : (a : ℕ) → Determined (RootsWhole a)
  pub root_binary64 : (direction a : ℕ) → Determined (RootsBinary64 direction a)
  pub divide_packed : (xs ys : List ℕ) → length xs ≡ 8 → length ys ≡ 8 → Determined (DividesPacked xs ys)
  pub repair_table : (t rs cs : List ℕ) → Determined (λ (z : Repaired × List ℕ × List ℕ). RepairsTable EightBits t rs cs z.1 z.2 z.0)
  pub count_visits : (t : List ℕ) (k n : ℕ) (v : List ℕ) → Determined (λ (z : Refusal × List ℕ). CountsVisits t k n v z.1 z.0)
  pub compare_ratios : (a b c d : ℕ) → Determined (ComparesRatios a b c d)
  -- for every number of bits
  pub check_table_for_law : (bits : ℕ) (t : List ℕ) → Determined (ChecksTableFor bits t)
  pub check_cell_for_law : (bits r c b : ℕ) → Determined (ChecksCellFor bits r c b)
  pub row_limits_for_law : (bits r : ℕ) → Determined (TellsLimitsFor bits r)
  pub make_table_for : (bits : ℕ) (s : List ℕ) → Determined (λ (z : Refusal × List ℕ). MakesTableFor bits s z.1 z.0)
  pub repair_table_for : (bits : ℕ) (t rs cs : List ℕ) → Determined (λ (z : Repaired × List ℕ × List ℕ). RepairsTableFor bits t rs cs z.1 z.2 z.0)
  pub affected_samples : (bits : ℕ) (t currents sensitivities given : List ℕ) → Determined (λ (z : AffectedCount × List ℕ). AffectsSamplesFor bits t currents sensitivities given z.1 z.0)
  pub affected_whole : (bits : ℕ) (t : List ℕ) (a b : ℕ) → Determined (AffectsWholeFor bits t a b)
  pub affected_run : (bits : ℕ) (t : List ℕ) (N D n : ℕ) → Determined (AffectsRunFor bits t N D n)
  pub version : Determined NamesVersion
