-- The repair's call: what it refuses, and its answer.
use Rattle.std.specs.Prelude.{◌≡◌, ℕ, ◌/◌, ◌%◌, ◌<◌, ◌≤◌, ◌↔◌, List, [], ◌∷◌, length, take, ◌≢◌, slice_index, slice_index_or, Result, Ok, Err}
use Rattle.laws.specs.Lists.{KeptFrom}
use Rattle.laws.specs.Counting.{Tally}
use Rattle.selection.specs.Answer.{refusal}
use Rattle.selection.specs.computed.Refusals.{Rule, too_short, differ, either_of, number, Wrongs, Refuses}
use Rattle.selection.specs.Table.{Passes}
use Rattle.selection.specs.Maker.{Made}
use Rattle.selection.specs.declared.Refusal.{Refusal}
use Rattle.selection.specs.declared.repair.Repaired.{Repaired}
use Rattle.selection.specs.declared.Estimate.{Estimate}
use Rattle.selection.specs.Repair.{DifferAt, FaultyAt}

-- what is refused of a table of len bytes and two buffers of r and c. 7: a buffer is too short. 8: length not 2,048
-- § 14.3 A repair is refused under these rules.
abbrev pub repair_rules : ℕ → ℕ → ℕ → List Rule
repair_rules len r c = number 7 (either_of (too_short r 2048) (too_short c 2048)) ∷ number 8 (differ len 2048) ∷ []

abbrev pub repair_zeros : Refusal → Repaired
repair_zeros f = record { refusal = f; count = 0 }

abbrev pub repair_numbers : Result ℕ Refusal → Repaired
repair_numbers (Ok n) = record { refusal = refusal 0 0; count = n }
repair_numbers (Err f) = repair_zeros f

-- the outcome of the repair: its answer, and what the two buffers then hold; refused, they are as they were, rs and cs
pub record RepairOutcome : Type 0 where
  pub answer : Repaired
  pub repaired : List ℕ
  pub changed : List ℕ

abbrev pub repair_refused : List ℕ → List ℕ → Refusal → RepairOutcome
repair_refused rs cs f = record { answer = repair_zeros f; repaired = rs; changed = cs }

-- none of it: what is accepted
pub record RepairAccepts (len r c : ℕ) : Type 0 where
  pub repaired_room : 2048 ≤ r
  pub changed_room : 2048 ≤ c
  pub size : len ≡ 2048

-- in a divider with the estimate E
module _ (E : Estimate) where
  -- of cell k of the table t: b is what the repaired table holds there, and m its mark
  -- § 14.1 Faulty cells get the made digit, changed ones a mark, and the marks are counted.
  pub record RepairedAt (t : List ℕ) (k b m : ℕ) : Type 0 where
    -- a faulty cell takes the made digit; any other byte is copied
    pub made : FaultyAt E t k → Made E (k / 128) (k % 128) b
    pub copied : (FaultyAt E t k → ⊥) → b ≡ slice_index t k
    -- 1 for a changed cell and 0 elsewhere
    pub marked : (slice_index t k ≢ b) → m ≡ 1
    pub unmarked : slice_index_or t k 0 ≡ b → m ≡ 0

  -- two lent buffers that held rs and cs and then hold the repair a of the table t and its marks b, with n changes
  -- § 14.1 Faulty cells get the made digit, changed ones a mark, and the marks are counted.
  pub record RepairedTable (t rs cs a b : List ℕ) (n : ℕ) : Type 0 where
    pub cell : (k : ℕ) → k < 2048 → RepairedAt t k (slice_index a k) (slice_index b k)
    pub repaired_kept : KeptFrom 2048 rs a
    pub changed_kept : KeptFrom 2048 cs b
    pub count : Tally (DifferAt t a) 2048 n

  -- x is the outcome for the table t, where the two buffers held rs and cs
  pub record Repairs (t rs cs : List ℕ) (x : RepairOutcome) : Type 0 where
    pub refuses : Refuses (Wrongs (repair_rules (length t) (length rs) (length cs))) (λ y. y.answer.refusal) (repair_refused rs cs) x
    pub repairs : RepairAccepts (length t) (length rs) (length cs) → RepairedTable t rs cs x.repaired x.changed x.answer.count

  -- what is claimed of a repair, where a is the buffer that holds it and n the number of changes
  -- § 14.2 The repaired table passes, and no passing table needs fewer changes.
  pub record RepairClaim (t a : List ℕ) (n : ℕ) : Type 0 where
    -- the output passes the check
    pub passes : Passes E (take 2048 a)
    -- every other passing table differs from the input in at least as many cells
    pub least : (u : List ℕ) → Passes E u → (m : ℕ) → Tally (DifferAt t u) 2048 m → n ≤ m
    -- nothing is changed exactly if the input passes, and then the output is the input
    pub none : (n ≡ 0) ↔ Passes E t
    pub same : Passes E t → take 2048 a ≡ t
