-- What a C program is told by each call, in numbers, in the order of the specification: what is promised and what is refused. No answer that this project computes is
-- named here; what is named of it are words of the specification: cells and allowed digits (sections 2 and 3), made digits and limits (5), words,
-- steps and the number that digits form (6), binary64 (9, 12), joined flags (10), packed numbers (13), faulty and differing cells (14), a record's operands (17).
-- E is the estimate: the divider adds 7 or 8 bits of each remainder word. A call that is not told a number of bits is for 8; of one that is, the record is that of both (`ForBits`).
use Rattle.std.specs.Prelude.{◌≡◌, Bool, true, false, cond, List, [], ◌∷◌, ◌⊎◌, ◌↔◌, ℕ, suc, ◌+◌, ◌-◌, ◌*◌, ◌/◌, ◌%◌, ◌^◌, ◌≤◌, ◌<◌, eqb, ℤ, pos, negsuc, neg_ℤ, ◌-ℤ◌, ◌*ℤ◌, ◌<ℤ◌, length, get_or, take}
use Rattle.laws.specs.Lists.{KeptFrom}
use Rattle.laws.specs.Counting.{Tally}
use Rattle.laws.specs.Sums.{sum_below}
use Rattle.selection.specs.Word.{signed, Within}
use Rattle.selection.specs.Cell.{row, column}
use Rattle.selection.specs.Table.{Table, BadAt, Passes}
use Rattle.selection.specs.Maker.{Made, MadeTable, AreLimits}
use Rattle.selection.specs.Demand.{RefusedExactly, CellTold}
use Rattle.selection.specs.Repair.{FaultyAt, DifferAt}
use Rattle.recurrence.specs.CarrySave.{sum3, maj3, multiple, lowest_carry}
use Rattle.recurrence.specs.Recurrence.{value}
use Rattle.recurrence.specs.Step.{StepTaken}
use Rattle.division.specs.Ieee.{Ieee}
use Rattle.division.specs.Roots.{IeeeRoot}
use Rattle.division.specs.Format.{FiniteNonzero}
use Rattle.division.specs.Packed.{packed_number, Decimal, IsPacked}
use Rattle.division.specs.Samples.{Joined}
use Rattle.division.specs.Recheck.{OperandOf}
use Rattle.ieee.specs.Directions.{Pinned}
use Rattle.ieee.specs.RootDirections.{PinnedRoot}
use Rattle.selection.specs.declared.Refusal.{Refusal}
use Rattle.selection.specs.declared.numbers.Cell.{Cell}
use Rattle.selection.specs.declared.numbers.Report.{Report}
use Rattle.selection.specs.declared.maker.Limits.{Limits}
use Rattle.selection.specs.declared.repair.Repaired.{Repaired}
use Rattle.recurrence.specs.declared.Ran.{Ran}
use Rattle.recurrence.specs.declared.step.Stepped.{Stepped}
use Rattle.division.specs.declared.whole.Whole.{Whole}
use Rattle.division.specs.declared.format.Binary64.{Binary64}
use Rattle.division.specs.declared.samples.Samples.{Samples}
use Rattle.division.specs.declared.root.Root.{Root}
use Rattle.division.specs.declared.packed.Packed.{Packed}
use Rattle.division.specs.declared.ratio.Comparison.{Comparison}
use Rattle.division.specs.declared.recheck.AffectedCount.{AffectedCount}
use Rattle.recurrence.specs.declared.recheck.AffectedMark.{AffectedMark}
use Rattle.selection.specs.declared.Estimate.{Estimate}
use Rattle.selection.specs.declared.Estimate.TheVariants.{SevenBits, EightBits}

-- ---- refusals

-- the number n and the place p; 0 and 0: nothing is refused
abbrev pub told : ℕ → ℕ → Refusal
told n p = record { number = n; place = p }

-- what a call that is lent a table says of it, where it takes its other arguments: R n p is the answer to the refusal n with the place p
pub record OfTable (E : Estimate) (t : List ℕ) (R : ℕ → ℕ → Type 0) : Type 0 where
  pub size : (length t ≡ 2048 → ⊥) → R 8 0
  pub byte : (p : ℕ) → length t ≡ 2048 → p < 2048 → 4 < get_or t p 0 → ((i : ℕ) → i < p → get_or t i 0 ≤ 4) → R 9 p
  pub cell : (p : ℕ) → Table t → p < 2048 → BadAt E t p → ((i : ℕ) → i < p → BadAt E t i → ⊥) → R 10 p

-- 17 comes first, whatever else the call is handed: `Only` is its refused answer. C E is what the call says of a divider with the estimate E
pub record ForBits (bits : ℕ) (Only : Type 0) (C : Estimate → Type 0) : Type 0 where
  pub neither : (bits < 7) ⊎ (8 < bits) → Only
  pub seven : bits ≡ 7 → C SevenBits
  pub eight : bits ≡ 8 → C EightBits

-- ---- 4 the check

abbrev pub report_only : ℕ → ℕ → Report
report_only n p = record { refusal = told n p; count = 0; row = 0; column = 0; divisor = 0; remainder = pos 0 }

pub record ChecksTable (E : Estimate) (t : List ℕ) (x : Report) : Type 0 where
  pub passed : (x.refusal.number ≡ 0) ↔ Passes E t
  pub nothing : Passes E t → x ≡ report_only 0 0
  pub refuses : OfTable E t (λ n p. (x.refusal ≡ told n p) × (n < 10 → x ≡ report_only n p))
  -- the count, the first bad cell and its least witness
  pub bad : Table t → RefusedExactly E t x

abbrev pub ChecksTableFor : ℕ → List ℕ → Report → Type 0
ChecksTableFor bits t x = ForBits bits (x ≡ report_only 17 0) (λ E. ChecksTable E t x)

abbrev pub cell_only : ℕ → ℕ → Cell
cell_only n p = record { refusal = told n p; allowed = 0; divisor = 0; remainder = pos 0 }

pub record ChecksCell (E : Estimate) (r c b : ℕ) (x : Cell) : Type 0 where
  pub outside : (15 < r) ⊎ (127 < c) → x ≡ cell_only 1 0
  pub byte : r ≤ 15 → c ≤ 127 → 4 < b → x ≡ cell_only 9 (128 * r + c)
  pub verdict : r ≤ 15 → c ≤ 127 → b ≤ 4 → CellTold E r c b x

abbrev pub ChecksCellFor : ℕ → ℕ → ℕ → ℕ → Cell → Type 0
ChecksCellFor bits r c b x = ForBits bits (x ≡ cell_only 17 0) (λ E. ChecksCell E r c b x)

-- ---- 5 the maker

pub record TellsLimits (E : Estimate) (r : ℕ) (x : Limits) : Type 0 where
  pub outside : 15 < r → x ≡ record { refusal = told 1 0; limits = 0 ∷ 0 ∷ 0 ∷ 0 ∷ 0 ∷ 0 ∷ [] }
  pub nothing : r ≤ 15 → x.refusal ≡ told 0 0
  pub limits : r ≤ 15 → AreLimits E r x.limits

abbrev pub TellsLimitsFor : ℕ → ℕ → Limits → Type 0
TellsLimitsFor bits r x = ForBits bits (x ≡ record { refusal = told 17 0; limits = 0 ∷ 0 ∷ 0 ∷ 0 ∷ 0 ∷ 0 ∷ [] }) (λ E. TellsLimits E r x)

pub record MakesTable (E : Estimate) (s out : List ℕ) (f : Refusal) : Type 0 where
  pub short : length s < 2048 → (f ≡ told 7 0) × (out ≡ s)
  pub nothing : 2048 ≤ length s → f ≡ told 0 0
  pub cells : 2048 ≤ length s → (k : ℕ) → k < 2048 → Made E (k / 128) (k % 128) (get_or out k 0)
  pub kept : 2048 ≤ length s → KeptFrom 2048 s out

abbrev pub MakesTableFor : ℕ → List ℕ → List ℕ → Refusal → Type 0
MakesTableFor bits s out f = ForBits bits ((f ≡ told 17 0) × (out ≡ s)) (λ E. MakesTable E s out f)

-- ---- 6 the run

-- the cells that n steps of N by D read in the table t, whatever it holds: the two words, from N and 0 on, lead to a cell, and its byte leads to the next two words
pub record Steps (E : Estimate) (t : List ℕ) (N D n : ℕ) (cell : ℕ → ℕ) : Type 0 where
  pub sum : ℕ → ℕ
  pub carry : ℕ → ℕ
  pub start : (sum 0 ≡ N) × (carry 0 ≡ 0)
  pub cells : (i : ℕ) → i < n → cell i ≡ 128 * row D + column E (sum i) (carry i)
  pub next_sum : (i : ℕ) → i < n → sum (suc i) ≡ sum3 (sum i) (carry i) (multiple (get_or t (cell i) 0) D) * 4 % 2 ^ 64
  pub next_carry : (i : ℕ) → i < n → carry (suc i) ≡ (maj3 (sum i) (carry i) (multiple (get_or t (cell i) 0) D) * 2 + lowest_carry (get_or t (cell i) 0)) * 4 % 2 ^ 64

-- the arguments that a run takes
pub record RunTakes (N D n : ℕ) (b : List ℕ) (place : ℕ) : Type 0 where
  pub some : 1 ≤ n
  pub most : n ≤ 28
  pub dividend : N < 2 ^ 61
  pub least : 2 ^ 60 ≤ D
  pub divisor : D < 2 ^ 61
  pub room : place + n ≤ length b

-- a refused run: zeros, and the buffer as it was
abbrev pub RunOnly : List ℕ → List ℕ → Ran → ℕ → ℕ → Type 0
RunOnly b out x n p = (x ≡ record { refusal = told n p; quotient = 0; remainder = 0; digits = 0 }) × (out ≡ b)

pub record RunRefuses (N D n : ℕ) (b : List ℕ) (place : ℕ) (out : List ℕ) (x : Ran) : Type 0 where
  pub digits : (n ≡ 0) ⊎ (28 < n) → RunOnly b out x 2 0
  pub operands : 1 ≤ n → n ≤ 28 → (D < 2 ^ 60) ⊎ ((2 ^ 61 ≤ D) ⊎ (2 ^ 61 ≤ N)) → RunOnly b out x 3 0
  pub room : 1 ≤ n → n ≤ 28 → N < 2 ^ 61 → 2 ^ 60 ≤ D → D < 2 ^ 61 → length b < place + n → RunOnly b out x 7 0

pub record DividedRun (t : List ℕ) (N D n : ℕ) (b : List ℕ) (place : ℕ) (out : List ℕ) (x : Ran) : Type 0 where
  pub nothing : x.refusal ≡ told 0 0
  pub count : x.digits ≡ n
  pub divides : N * 4 ^ (n - 1) ≡ x.quotient * D + x.remainder
  pub below : x.remainder < D
  -- each byte from the place on is the table's at the cell that the steps have reached; −8D ≤ 3P ≤ 8D before each step and after the last
  pub cell : ℕ → ℕ
  pub steps : Steps EightBits t N D n cell
  pub digits : (i : ℕ) → i < n → get_or out (place + i) 0 ≡ get_or t (cell i) 0
  pub range : (i : ℕ) → i ≤ n → Within 8 D (pos 3 *ℤ signed (steps.sum i + steps.carry i))
  -- all other bytes are kept
  pub size : length out ≡ length b
  pub before : (j : ℕ) → j < place → get_or out j 0 ≡ get_or b j 0
  pub behind : (j : ℕ) → place + n ≤ j → get_or out j 0 ≡ get_or b j 0

pub record Runs (t : List ℕ) (N D n : ℕ) (b : List ℕ) (place : ℕ) (out : List ℕ) (x : Ran) : Type 0 where
  pub refuses : RunRefuses N D n b place out x
  pub table : RunTakes N D n b place → OfTable EightBits t (RunOnly b out x)
  pub ran : RunTakes N D n b place → Passes EightBits t → DividedRun t N D n b place out x

-- through the made table, of which nothing is refused
pub record RunsKept (N D n : ℕ) (b : List ℕ) (place : ℕ) (out : List ℕ) (x : Ran) : Type 0 where
  pub refuses : RunRefuses N D n b place out x
  pub table : List ℕ
  pub made : MadeTable EightBits table
  pub ran : RunTakes N D n b place → DividedRun table N D n b place out x

-- ---- 7 one step

abbrev pub step_only : ℕ → ℕ → Stepped
step_only n p = record { refusal = told n p; digit = pos 0; sum = 0; carry = 0 }

pub record StepsOnce (s k D : ℕ) (t : List ℕ) (x : Stepped) : Type 0 where
  pub divisor : (D < 2 ^ 60) ⊎ (2 ^ 61 ≤ D) → x ≡ step_only 3 0
  pub outside : 2 ^ 60 ≤ D → D < 2 ^ 61 → ((pos 3 *ℤ signed (s + k)) <ℤ (neg_ℤ (pos (8 * D)))) ⊎ ((pos (8 * D)) <ℤ (pos 3 *ℤ signed (s + k))) → x ≡ step_only 14 0
  pub table : 2 ^ 60 ≤ D → D < 2 ^ 61 → Within 8 D (pos 3 *ℤ signed (s + k)) → OfTable EightBits t (λ n p. x ≡ step_only n p)
  pub step : 2 ^ 60 ≤ D → D < 2 ^ 61 → Within 8 D (pos 3 *ℤ signed (s + k)) → Passes EightBits t → StepTaken s k D (get_or t (128 * row D + column EightBits s k) 0) x

-- ---- 8 whole numbers

abbrev pub whole_only : ℕ → ℕ → Whole
whole_only n p = record { refusal = told n p; quotient = 0; remainder = 0 }

pub record WholeRefuses (a b : ℕ) (x : Whole) : Type 0 where
  pub large : (2 ^ 60 ≤ a) ⊎ (2 ^ 60 ≤ b) → x ≡ whole_only 4 0
  pub by_zero : a < 2 ^ 60 → b ≡ 0 → x ≡ whole_only 5 0

pub record DividedWhole (a b : ℕ) (x : Whole) : Type 0 where
  pub nothing : x.refusal ≡ told 0 0
  pub divides : a ≡ x.quotient * b + x.remainder
  pub below : x.remainder < b

pub record DividesWhole (t : List ℕ) (a b : ℕ) (x : Whole) : Type 0 where
  pub refuses : WholeRefuses a b x
  pub table : a < 2 ^ 60 → 0 < b → b < 2 ^ 60 → OfTable EightBits t (λ n p. x ≡ whole_only n p)
  pub divided : a < 2 ^ 60 → 0 < b → b < 2 ^ 60 → Passes EightBits t → DividedWhole a b x

pub record DividesWholeKept (a b : ℕ) (x : Whole) : Type 0 where
  pub refuses : WholeRefuses a b x
  pub divided : a < 2 ^ 60 → 0 < b → b < 2 ^ 60 → DividedWhole a b x

-- ---- 9 binary64

abbrev pub binary64_only : ℕ → ℕ → Binary64
binary64_only n p = record { refusal = told n p; pattern = 0; flags = 0 }

pub record DividedBinary64 (direction a b : ℕ) (x : Binary64) : Type 0 where
  pub nothing : x.refusal ≡ told 0 0
  -- by the specification's account, flags too, and by the logic's own
  pub quotient : Ieee direction a b (record { pattern = x.pattern; flags = x.flags })
  pub pinned : Pinned direction a b x.pattern

pub record DividesBinary64 (t : List ℕ) (direction a b : ℕ) (x : Binary64) : Type 0 where
  pub unknown : 3 < direction → x ≡ binary64_only 6 0
  pub table : direction ≤ 3 → OfTable EightBits t (λ n p. x ≡ binary64_only n p)
  pub divided : direction ≤ 3 → Passes EightBits t → DividedBinary64 direction a b x

pub record DividesBinary64Kept (direction a b : ℕ) (x : Binary64) : Type 0 where
  pub unknown : 3 < direction → x ≡ binary64_only 6 0
  pub divided : direction ≤ 3 → DividedBinary64 direction a b x

-- ---- 10 samples

abbrev pub SamplesOnly : List ℕ → List ℕ → Samples → ℕ → ℕ → Type 0
SamplesOnly given out x n p = (x ≡ record { refusal = told n p; flags = 0; count = 0 }) × (out ≡ given)

pub record DividedSamples (direction : ℕ) (currents sensitivities given out : List ℕ) (x : Samples) : Type 0 where
  pub nothing : x.refusal ≡ told 0 0
  pub count : x.count ≡ length currents
  -- place j has sample j's pattern; its flags are joined with those of all others
  pub flags_of : ℕ → ℕ
  pub quotient : (j : ℕ) → j < length currents → Ieee direction (get_or currents j 0) (get_or sensitivities j 0) (record { pattern = get_or out j 0; flags = flags_of j })
  pub flags : Joined flags_of (length currents) x.flags
  pub kept : KeptFrom (length currents) given out

pub record DividesSamples (t : List ℕ) (direction : ℕ) (currents sensitivities given out : List ℕ) (x : Samples) : Type 0 where
  pub unknown : 3 < direction → SamplesOnly given out x 6 0
  pub lengths : direction ≤ 3 → (length currents ≡ length sensitivities → ⊥) → SamplesOnly given out x 11 0
  pub room : direction ≤ 3 → length currents ≡ length sensitivities → length given < length currents → SamplesOnly given out x 7 0
  pub table : direction ≤ 3 → length currents ≡ length sensitivities → length currents ≤ length given → OfTable EightBits t (SamplesOnly given out x)
  pub divided : direction ≤ 3 → length currents ≡ length sensitivities → length currents ≤ length given → Passes EightBits t → DividedSamples direction currents sensitivities given out x

-- ---- 11 averages

-- mean and remainder of the w readings from place b of the list on
pub record MeanOf (xs : List ℕ) (w b mean remainder : ℕ) : Type 0 where
  pub sum : mean * w + remainder ≡ sum_below (λ i. get_or xs (b + i) 0) w
  pub below : remainder < w

pub record AveragesTakes (xs : List ℕ) (w : ℕ) (ms rs : List ℕ) : Type 0 where
  pub some : 1 ≤ w
  pub most : w ≤ 4096
  pub full : w ≤ length xs
  pub small : (i : ℕ) → i < length xs → get_or xs i 0 < 2 ^ 40
  pub means_room : length xs - w + 1 ≤ length ms
  pub remainders_room : length xs - w + 1 ≤ length rs

abbrev pub AveragesOnly : List ℕ → List ℕ → List ℕ → List ℕ → Refusal → ℕ → ℕ → Type 0
AveragesOnly ms rs means remainders f n p = (f ≡ told n p) × (means ≡ ms) × (remainders ≡ rs)

pub record AveragesWindows (xs : List ℕ) (w : ℕ) (newest_first : Bool) (ms rs means remainders : List ℕ) (f : Refusal) : Type 0 where
  pub width : (w ≡ 0) ⊎ ((4096 < w) ⊎ (length xs < w)) → AveragesOnly ms rs means remainders f 12 0
  pub reading : 1 ≤ w → w ≤ 4096 → w ≤ length xs → (p : ℕ) → p < length xs → 2 ^ 40 ≤ get_or xs p 0 → ((i : ℕ) → i < p → get_or xs i 0 < 2 ^ 40) → AveragesOnly ms rs means remainders f 13 p
  pub room : 1 ≤ w → w ≤ 4096 → w ≤ length xs → ((i : ℕ) → i < length xs → get_or xs i 0 < 2 ^ 40)
      → (length ms < length xs - w + 1) ⊎ (length rs < length xs - w + 1) → AveragesOnly ms rs means remainders f 7 0
  pub nothing : AveragesTakes xs w ms rs → f ≡ told 0 0
  -- output j: with the oldest first the window that begins at place j; with the newest first the one after which j readings come
  pub oldest : AveragesTakes xs w ms rs → newest_first ≡ false → (j : ℕ) → j + w ≤ length xs → MeanOf xs w j (get_or means j 0) (get_or remainders j 0)
  pub newest : AveragesTakes xs w ms rs → newest_first ≡ true → (j b : ℕ) → b + w + j ≡ length xs → MeanOf xs w b (get_or means j 0) (get_or remainders j 0)
  pub means_kept : AveragesTakes xs w ms rs → KeptFrom (length xs - w + 1) ms means
  pub remainders_kept : AveragesTakes xs w ms rs → KeptFrom (length xs - w + 1) rs remainders

-- ---- 12 square roots

pub record RootsWhole (a : ℕ) (x : Root) : Type 0 where
  pub large : 2 ^ 60 ≤ a → x ≡ record { refusal = told 4 0; root = 0; remainder = 0 }
  pub nothing : a < 2 ^ 60 → x.refusal ≡ told 0 0
  pub root : a < 2 ^ 60 → x.root * x.root + x.remainder ≡ a
  pub greatest : a < 2 ^ 60 → a < (x.root + 1) * (x.root + 1)

pub record RootsBinary64 (direction a : ℕ) (x : Binary64) : Type 0 where
  pub unknown : 3 < direction → x ≡ binary64_only 6 0
  pub nothing : direction ≤ 3 → x.refusal ≡ told 0 0
  -- by the specification's account, flags too, and by the logic's own
  pub root : direction ≤ 3 → IeeeRoot direction a (record { pattern = x.pattern; flags = x.flags })
  pub pinned : direction ≤ 3 → PinnedRoot direction a x.pattern

-- ---- 13 packed decimal

abbrev pub packed_only : ℕ → ℕ → Packed
packed_only n p = record { refusal = told n p; quotient = 0 ∷ 0 ∷ 0 ∷ 0 ∷ 0 ∷ 0 ∷ 0 ∷ 0 ∷ []; remainder = 0 ∷ 0 ∷ 0 ∷ 0 ∷ 0 ∷ 0 ∷ 0 ∷ 0 ∷ [] }

-- byte p is the first of which a half is above 9
pub record NoDigits (bs : List ℕ) (p : ℕ) : Type 0 where
  pub within : p < 8
  pub here : (9 < get_or bs p 0 / 16) ⊎ (9 < get_or bs p 0 % 16)
  pub before : (i : ℕ) → i < p → (9 < get_or bs i 0 / 16) ⊎ (9 < get_or bs i 0 % 16) → ⊥

pub record DividedPacked (xs ys : List ℕ) (x : Packed) : Type 0 where
  pub nothing : x.refusal ≡ told 0 0
  pub divides : packed_number xs ≡ packed_number x.quotient * packed_number ys + packed_number x.remainder
  pub below : packed_number x.remainder < packed_number ys
  pub quotient : IsPacked x.quotient
  pub remainder : IsPacked x.remainder

pub record DividesPacked (xs ys : List ℕ) (x : Packed) : Type 0 where
  pub dividend : (p : ℕ) → NoDigits xs p → x ≡ packed_only 15 p
  pub divisor : (p : ℕ) → Decimal xs → NoDigits ys p → x ≡ packed_only 15 (p + 8)
  pub by_zero : Decimal xs → Decimal ys → packed_number ys ≡ 0 → x ≡ packed_only 5 0
  pub divided : length xs ≡ 8 → length ys ≡ 8 → Decimal xs → Decimal ys → 0 < packed_number ys → DividedPacked xs ys x

-- ---- 14 repair

abbrev pub RepairOnly : List ℕ → List ℕ → List ℕ → List ℕ → Repaired → ℕ → Type 0
RepairOnly rs cs repaired changed x n = (x ≡ record { refusal = told n 0; count = 0 }) × (repaired ≡ rs) × (changed ≡ cs)

pub record RepairedTable (E : Estimate) (t rs cs repaired changed : List ℕ) (x : Repaired) : Type 0 where
  pub nothing : x.refusal ≡ told 0 0
  pub made : (k : ℕ) → k < 2048 → FaultyAt E t k → Made E (k / 128) (k % 128) (get_or repaired k 0)
  pub copied : (k : ℕ) → k < 2048 → (FaultyAt E t k → ⊥) → get_or repaired k 0 ≡ get_or t k 0
  pub marked : (k : ℕ) → k < 2048 → (get_or t k 0 ≡ get_or repaired k 0 → ⊥) → get_or changed k 0 ≡ 1
  pub unmarked : (k : ℕ) → k < 2048 → get_or t k 0 ≡ get_or repaired k 0 → get_or changed k 0 ≡ 0
  pub count : Tally (DifferAt t repaired) 2048 x.count
  pub repaired_kept : KeptFrom 2048 rs repaired
  pub changed_kept : KeptFrom 2048 cs changed
  -- it passes, and no passing table differs from the one read back in fewer cells
  pub passes : Passes E (take 2048 repaired)
  pub least : (u : List ℕ) → Passes E u → (m : ℕ) → Tally (DifferAt t u) 2048 m → x.count ≤ m

pub record RepairsTable (E : Estimate) (t rs cs repaired changed : List ℕ) (x : Repaired) : Type 0 where
  pub room : (length rs < 2048) ⊎ (length cs < 2048) → RepairOnly rs cs repaired changed x 7
  pub size : 2048 ≤ length rs → 2048 ≤ length cs → (length t ≡ 2048 → ⊥) → RepairOnly rs cs repaired changed x 8
  pub done : length t ≡ 2048 → 2048 ≤ length rs → 2048 ≤ length cs → RepairedTable E t rs cs repaired changed x

abbrev pub RepairsTableFor : ℕ → List ℕ → List ℕ → List ℕ → List ℕ → List ℕ → Repaired → Type 0
RepairsTableFor bits t rs cs repaired changed x = ForBits bits (RepairOnly rs cs repaired changed x 17) (λ E. RepairsTable E t rs cs repaired changed x)

-- ---- 15 visits

abbrev pub VisitsOnly : List ℕ → List ℕ → Refusal → ℕ → ℕ → Type 0
VisitsOnly v out f n p = (f ≡ told n p) × (out ≡ v)

-- place c has how many of the n digits of all pairs of numbers of k significant bits are taken at the cell c
pub record VisitsCounted (t : List ℕ) (k n : ℕ) (v out : List ℕ) (f : Refusal) : Type 0 where
  pub nothing : f ≡ told 0 0
  pub cell : ℕ → ℕ → ℕ → ℕ
  pub steps : (x y : ℕ) → Steps EightBits t ((2 ^ (k - 1) + x) * 2 ^ (61 - k)) ((2 ^ (k - 1) + y) * 2 ^ (61 - k)) n (cell x y)
  pub counts : (c : ℕ) → c < 2048 → get_or out c 0 ≡ sum_below (λ x. sum_below (λ y. sum_below (λ i. cond (eqb (cell x y i) c) 1 0) n) (2 ^ (k - 1))) (2 ^ (k - 1))
  pub total : sum_below (λ c. get_or out c 0) 2048 ≡ n * 4 ^ (k - 1)
  pub kept : KeptFrom 2048 v out

pub record CountsVisits (t : List ℕ) (k n : ℕ) (v out : List ℕ) (f : Refusal) : Type 0 where
  pub digits : (n ≡ 0) ⊎ (28 < n) → VisitsOnly v out f 2 0
  pub bits : 1 ≤ n → n ≤ 28 → (k ≡ 0) ⊎ (6 < k) → VisitsOnly v out f 16 0
  pub room : 1 ≤ n → n ≤ 28 → 1 ≤ k → k ≤ 6 → length v < 2048 → VisitsOnly v out f 7 0
  pub table : 1 ≤ n → n ≤ 28 → 1 ≤ k → k ≤ 6 → 2048 ≤ length v → OfTable EightBits t (VisitsOnly v out f)
  pub counted : 1 ≤ n → n ≤ 28 → 1 ≤ k → k ≤ 6 → 2048 ≤ length v → Passes EightBits t → VisitsCounted t k n v out f

-- ---- 16 ratios

pub record RatiosTake (a b c d : ℕ) : Type 0 where
  pub a_below : a < 2 ^ 60
  pub b_below : b < 2 ^ 60
  pub c_below : c < 2 ^ 60
  pub d_below : d < 2 ^ 60

abbrev pub ratio_only : ℕ → ℤ → Comparison
ratio_only n order = record { refusal = told n 0; order = order }

pub record ComparesRatios (a b c d : ℕ) (x : Comparison) : Type 0 where
  pub large : (2 ^ 60 ≤ a) ⊎ ((2 ^ 60 ≤ b) ⊎ ((2 ^ 60 ≤ c) ⊎ (2 ^ 60 ≤ d))) → x ≡ ratio_only 4 (pos 0)
  pub by_zero : RatiosTake a b c d → (b ≡ 0) ⊎ (d ≡ 0) → x ≡ ratio_only 5 (pos 0)
  pub less : RatiosTake a b c d → 0 < b → 0 < d → a * d < c * b → x ≡ ratio_only 0 (negsuc 0)
  pub equal : RatiosTake a b c d → 0 < b → 0 < d → a * d ≡ c * b → x ≡ ratio_only 0 (pos 0)
  pub greater : RatiosTake a b c d → 0 < b → 0 < d → c * b < a * d → x ≡ ratio_only 0 (pos 1)

-- ---- 17 affected records

-- the mark m of n steps of N by D through the table t, as it is, whatever it holds. The n bytes that are read form the number S, and q is the quotient of N·4^(n−1) by D.
-- m is 0 if no byte is above 4 and q is S or S − 1, and 1 if a byte is above 4 or if q is neither
pub record MarksRun (E : Estimate) (t : List ℕ) (N D n m : ℕ) : Type 0 where
  pub cell : ℕ → ℕ
  pub steps : Steps E t N D n cell
  pub digits : List ℕ
  pub many : length digits ≡ n
  pub bytes : (i : ℕ) → i < n → get_or digits i 0 ≡ get_or t (cell i) 0
  pub no_digit : (i : ℕ) → i < n → 4 < get_or digits i 0 → m ≡ 1
  pub wrong : (value digits ≡ pos (N * 4 ^ (n - 1) / D) → ⊥) → (value digits -ℤ pos 1 ≡ pos (N * 4 ^ (n - 1) / D) → ⊥) → m ≡ 1
  pub right : ((i : ℕ) → i < n → get_or digits i 0 ≤ 4) → (value digits ≡ pos (N * 4 ^ (n - 1) / D)) ⊎ (value digits -ℤ pos 1 ≡ pos (N * 4 ^ (n - 1) / D)) → m ≡ 0
  -- where it is 1, a step has read a faulty cell: a byte above 4, or a digit that is not allowed there
  pub faulty : m ≡ 1 → (i : ℕ) × (i < n) × FaultyAt E t (cell i)

-- of a sample whose operands are finite and not 0: N and D are their magnitudes times powers of two, from 2^60 on and below 2^61
pub record MarksSample (E : Estimate) (t : List ℕ) (a b m : ℕ) : Type 0 where
  pub N : ℕ
  pub D : ℕ
  pub dividend : OperandOf a N
  pub divisor : OperandOf b D
  pub marks : MarksRun E t N D 28 m

abbrev pub AffectedOnly : List ℕ → List ℕ → AffectedCount → ℕ → Type 0
AffectedOnly given out x n = (x ≡ record { refusal = told n 0; count = 0 }) × (out ≡ given)

pub record MarkedSamples (E : Estimate) (t currents sensitivities given out : List ℕ) (x : AffectedCount) : Type 0 where
  pub nothing : x.refusal ≡ told 0 0
  pub by_class : (j : ℕ) → j < length currents → (FiniteNonzero (get_or currents j 0) → ⊥) ⊎ (FiniteNonzero (get_or sensitivities j 0) → ⊥) → get_or out j 0 ≡ 0
  pub marks : (j : ℕ) → j < length currents → FiniteNonzero (get_or currents j 0) → FiniteNonzero (get_or sensitivities j 0) → MarksSample E t (get_or currents j 0) (get_or sensitivities j 0) (get_or out j 0)
  pub count : Tally (λ j. get_or out j 0 ≡ 1) (length currents) x.count
  pub kept : KeptFrom (length currents) given out

pub record AffectsSamples (E : Estimate) (t currents sensitivities given out : List ℕ) (x : AffectedCount) : Type 0 where
  pub lengths : (length currents ≡ length sensitivities → ⊥) → AffectedOnly given out x 11
  pub room : length currents ≡ length sensitivities → length given < length currents → AffectedOnly given out x 7
  pub size : length currents ≡ length sensitivities → length currents ≤ length given → (length t ≡ 2048 → ⊥) → AffectedOnly given out x 8
  pub marked : length currents ≡ length sensitivities → length currents ≤ length given → length t ≡ 2048 → MarkedSamples E t currents sensitivities given out x

abbrev pub AffectsSamplesFor : ℕ → List ℕ → List ℕ → List ℕ → List ℕ → List ℕ → AffectedCount → Type 0
AffectsSamplesFor bits t currents sensitivities given out x = ForBits bits (AffectedOnly given out x 17) (λ E. AffectsSamples E t currents sensitivities given out x)

abbrev pub mark_only : ℕ → AffectedMark
mark_only n = record { refusal = told n 0; affected = 0 }

-- b is moved up by s places, to a leading one at bit 60, and n digits are taken, no more than bring a below 2^61: N·4^(n−1) is a moved up as far
pub record MarksWhole (E : Estimate) (t : List ℕ) (a b m : ℕ) : Type 0 where
  pub s : ℕ
  pub n : ℕ
  pub N : ℕ
  pub divisor : (2 ^ 60 ≤ b * 2 ^ s) × (b * 2 ^ s < 2 ^ 61)
  pub some : 1 ≤ n
  pub dividend : N * 4 ^ (n - 1) ≡ a * 2 ^ s
  pub below : N < 2 ^ 61
  pub fewest : (k : ℕ) → a * 2 ^ s < 2 ^ 61 * 4 ^ k → n ≤ k + 1
  -- so the quotient of these operands is that of a and b
  pub quotient : N * 4 ^ (n - 1) / (b * 2 ^ s) ≡ a / b
  pub marks : MarksRun E t N (b * 2 ^ s) n m

pub record AffectsWhole (E : Estimate) (t : List ℕ) (a b : ℕ) (x : AffectedMark) : Type 0 where
  pub large : (2 ^ 60 ≤ a) ⊎ (2 ^ 60 ≤ b) → x ≡ mark_only 4
  pub by_zero : a < 2 ^ 60 → b ≡ 0 → x ≡ mark_only 5
  pub size : a < 2 ^ 60 → 0 < b → b < 2 ^ 60 → (length t ≡ 2048 → ⊥) → x ≡ mark_only 8
  pub nothing : a < 2 ^ 60 → 0 < b → b < 2 ^ 60 → length t ≡ 2048 → x.refusal ≡ told 0 0
  pub marked : a < 2 ^ 60 → 0 < b → b < 2 ^ 60 → length t ≡ 2048 → MarksWhole E t a b x.affected

abbrev pub AffectsWholeFor : ℕ → List ℕ → ℕ → ℕ → AffectedMark → Type 0
AffectsWholeFor bits t a b x = ForBits bits (x ≡ mark_only 17) (λ E. AffectsWhole E t a b x)

pub record AffectsRun (E : Estimate) (t : List ℕ) (N D n : ℕ) (x : AffectedMark) : Type 0 where
  pub digits : (n ≡ 0) ⊎ (31 < n) → x ≡ mark_only 2
  pub operands : 1 ≤ n → n ≤ 31 → (D < 2 ^ 60) ⊎ ((2 ^ 61 ≤ D) ⊎ (2 ^ 61 ≤ N)) → x ≡ mark_only 3
  pub size : 1 ≤ n → n ≤ 31 → N < 2 ^ 61 → 2 ^ 60 ≤ D → D < 2 ^ 61 → (length t ≡ 2048 → ⊥) → x ≡ mark_only 8
  pub nothing : 1 ≤ n → n ≤ 31 → N < 2 ^ 61 → 2 ^ 60 ≤ D → D < 2 ^ 61 → length t ≡ 2048 → x.refusal ≡ told 0 0
  pub marked : 1 ≤ n → n ≤ 31 → N < 2 ^ 61 → 2 ^ 60 ≤ D → D < 2 ^ 61 → length t ≡ 2048 → MarksRun E t N D n x.affected

abbrev pub AffectsRunFor : ℕ → List ℕ → ℕ → ℕ → ℕ → AffectedMark → Type 0
AffectsRunFor bits t N D n x = ForBits bits (x ≡ mark_only 17) (λ E. AffectsRun E t N D n x)

-- ---- the version

-- what the call that is named after the version tells: nothing
pub record NamesVersion (f : Refusal) : Type 0 where
  pub nothing : f ≡ told 0 0
