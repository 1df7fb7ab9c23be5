-- Repair of a table read back (the specification, section 14), for every list of bytes t and every two buffers that held rs and cs: the outcome.
use Rattle.std.specs.Prelude.{◌≡◌, ℕ, ◌≤◌, List, length, take, replicate, slice_set}
use Rattle.laws.specs.Counting.{Tally}
use Rattle.selection.specs.Answer.{refusal, report_zeros}
use Rattle.selection.specs.computed.Answer.{report_numbers}
use Rattle.selection.specs.computed.Outcomes.{made_table, report_of, repair_of}
use Rattle.selection.specs.Repair.{DifferAt}
use Rattle.selection.specs.computed.Repair.{RepairOutcome, RepairedTable, Repairs, RepairClaim}
use Rattle.selection.specs.declared.Estimate.{Estimate}

abbrev pub lent : List ℕ
lent = replicate 2048 7

-- in a divider with the estimate E
module _ (E : Estimate) where
  -- the outcome x of a table of 2,048 bytes, whatever they are, and two buffers with room for as many
  pub record RepairTold (t rs cs : List ℕ) (x : RepairOutcome) : Type 0 where
    pub done : x.answer.refusal ≡ refusal 0 0
    pub repaired : RepairedTable E t rs cs x.repaired x.changed x.answer.count
    pub claim : RepairClaim E t x.repaired x.answer.count
    -- the check's own answer to it
    pub checked : report_numbers (report_of E (take 2048 x.repaired)) ≡ report_zeros (refusal 0 0)

  -- an example: the made table read back with byte 215 changed from 4 to 2, as in the specification's listing, and byte 0 from 2 to 9; and buffers that just fit
  abbrev pub read_back : List ℕ
  read_back = slice_set (slice_set (made_table E) 0 9) 215 2

  -- § 14.1 A repair is shown in numbers.
  pub record RepairExample : Type 0 where
    pub outcome : repair_of E read_back lent lent ≡ record { answer = record { refusal = refusal 0 0; count = 2 }; repaired = made_table E; changed = slice_set (slice_set (replicate 2048 0) 0 1) 215 1 }

  -- § 14.2 The repaired table passes, and no passing table needs fewer changes.
  pub record RepairDemand : Type 0 where
    -- the outcome, where it refuses and where not; and nothing else fits
    pub outcome : (t rs cs : List ℕ) → Repairs E t rs cs (repair_of E t rs cs)
    pub one : (t rs cs : List ℕ) (x : RepairOutcome) → Repairs E t rs cs x → x ≡ repair_of E t rs cs
    pub told : (t rs cs : List ℕ) → length t ≡ 2048 → 2048 ≤ length rs → 2048 ≤ length cs → RepairTold t rs cs (repair_of E t rs cs)
    -- any two tables have a number of cells in which they differ, so that the claim speaks of every passing table
    pub differ : (t u : List ℕ) → (n : ℕ) × Tally (DifferAt t u) 2048 n
    pub example : RepairExample
