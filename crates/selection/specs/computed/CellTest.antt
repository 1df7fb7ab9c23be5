-- The test of a cell by its row's multiples, computed: which digits are allowed, and the witness. `cell_of`, `allows_of` and `limits_of`, which public contracts cite, are
-- computed by it. A reader need not believe it: `test_right`, `cell_checked` and `allows_decides` show that it finds what the specification asks for.
-- It is over natural numbers: W is P + 2^63, b is the digit plus 2.
use Rattle.std.specs.Prelude.{◌≡◌, ℕ, ◌+◌, ◌-◌, ◌*◌, ◌/◌, ◌^◌, ◌<◌, ◌≤◌, max, Bool, true, cond, not, ◌||◌, ◌↔◌, ◌==◌, nat_lt, Option, Some, None}
use Rattle.std.proofs.Math.IntN.{sub_ℕ}
use Rattle.selection.specs.Cell.{span_of}
use Rattle.selection.specs.declared.Estimate.{Estimate}
use Rattle.selection.specs.declared.Witness.{Witness}
use Rattle.selection.specs.declared.cell.RowMultiples.TheInside.{Inside}

-- ---- a row's multiples: `Inside` is the record of the fields that hold them

-- the last column that begins at W or below, and the last that ends there or below
abbrev pub left_column : ℕ → ℕ
left_column w = w / 2 ^ 57

abbrev pub right_column : Estimate → ℕ → ℕ
right_column E w = (w - span_of E) / 2 ^ 57

-- the last column that begins, and that ends, where 3P is at most n, and where it is below -n
abbrev pub begins_at_most : ℕ → ℕ
begins_at_most n = left_column (2 ^ 63 + n / 3)

abbrev pub begins_below_minus : ℕ → ℕ
begins_below_minus n = left_column (2 ^ 63 - n / 3 - 1)

abbrev pub ends_at_most : Estimate → ℕ → ℕ
ends_at_most E n = right_column E (2 ^ 63 + n / 3)

abbrev pub ends_below_minus : Estimate → ℕ → ℕ
ends_below_minus E n = right_column E (2 ^ 63 - n / 3 - 1)

-- the multiples of the smallest and of the largest divisor of the row r that bound 3P, each as the last column on its lower side. 3P < l is 3P ≤ l - 1, and 3P ≤ -l is 3P < -(l - 1)
-- § 4.3 A row's multiples are those of its least and greatest divisor.
abbrev pub multiples_of : Estimate → ℕ → Inside
multiples_of E r =
    let s = (16 + r) * 2 ^ 56 in
    let l = (17 + r) * 2 ^ 56 - 1 in
    record {
      estimate = E;
      row = r;
      smallest = s;
      minus8 = ends_below_minus E (8 * l);
      minus5 = begins_below_minus (5 * s);
      minus4 = ends_below_minus E (4 * l - 1);
      minus2 = begins_below_minus (2 * s);
      minus1 = ends_below_minus E (l - 1);
      plus1 = begins_at_most (l - 1);
      plus2 = ends_at_most E (2 * s);
      plus4 = begins_at_most (4 * l - 1);
      plus5 = ends_at_most E (5 * s);
      plus8 = begins_at_most (8 * l);
    }

-- what the columns of m say, for the smallest divisor s and the largest l: the ends of the column c, moved up, against each multiple
pub record Bounds (m : Inside) (s l : ℕ) : Type 0 where
  pub minus8 : (c : ℕ) → (c ≤ m.minus8) ↔ (3 * (c * 2 ^ 57 + span_of m.estimate) + 8 * l < 3 * 2 ^ 63)
  pub minus5 : (c : ℕ) → (c ≤ m.minus5) ↔ (3 * (c * 2 ^ 57) + 5 * s < 3 * 2 ^ 63)
  pub minus4 : (c : ℕ) → (c ≤ m.minus4) ↔ (3 * (c * 2 ^ 57 + span_of m.estimate) + 4 * l ≤ 3 * 2 ^ 63)
  pub minus2 : (c : ℕ) → (c ≤ m.minus2) ↔ (3 * (c * 2 ^ 57) + 2 * s < 3 * 2 ^ 63)
  pub minus1 : (c : ℕ) → (c ≤ m.minus1) ↔ (3 * (c * 2 ^ 57 + span_of m.estimate) + l ≤ 3 * 2 ^ 63)
  pub plus1 : (c : ℕ) → (c ≤ m.plus1) ↔ (3 * (c * 2 ^ 57) < 3 * 2 ^ 63 + l)
  pub plus2 : (c : ℕ) → (c ≤ m.plus2) ↔ (3 * (c * 2 ^ 57 + span_of m.estimate) ≤ 3 * 2 ^ 63 + 2 * s)
  pub plus4 : (c : ℕ) → (c ≤ m.plus4) ↔ (3 * (c * 2 ^ 57) < 3 * 2 ^ 63 + 4 * l)
  pub plus5 : (c : ℕ) → (c ≤ m.plus5) ↔ (3 * (c * 2 ^ 57 + span_of m.estimate) ≤ 3 * 2 ^ 63 + 5 * s)
  pub plus8 : (c : ℕ) → (c ≤ m.plus8) ↔ (3 * (c * 2 ^ 57) ≤ 3 * 2 ^ 63 + 8 * l)

-- m holds the multiples of a row
pub record RowOf (m : Inside) : Type 0 where
  pub small : m.row ≤ 15
  pub is : m ≡ multiples_of m.estimate m.row

-- ---- the digits of a column

-- 1 if c is past x
abbrev pub past : ℕ → ℕ → ℕ
past x c = cond (nat_lt x c) 1 0

-- of a cell that has a point the bytes of allowed digits lie from the least, which is not too high, to the greatest, which is not too low
abbrev pub least_byte : Inside → ℕ → ℕ
least_byte m c = past m.minus4 c + past m.minus1 c + past m.plus2 c + past m.plus5 c

abbrev pub greatest_byte : Inside → ℕ → ℕ
greatest_byte m c = past m.minus5 c + past m.minus2 c + past m.plus1 c + past m.plus4 c

abbrev pub has_point : Inside → ℕ → Bool
has_point m c = past m.minus8 c + past m.plus8 c == 1

-- the digit of b is allowed: it is neither too low nor too high, or there is no point
abbrev pub allows_by : Inside → ℕ → ℕ → Bool
allows_by m c b = cond (nat_lt (greatest_byte m c) b || nat_lt b (least_byte m c)) (not (has_point m c)) true

-- ---- the witness

-- three times what the column c lies above 0 at least, and below 0 at least
abbrev pub above : ℕ → ℕ
above c = 3 * (c * 2 ^ 57 - 2 ^ 63)

abbrev pub under : Estimate → ℕ → ℕ
under E c = 3 * (2 ^ 63 - (c * 2 ^ 57 + span_of E))

-- the least D with y < 4D for k = 0, with y < D for k = 1; else 0
abbrev pub least_past : ℕ → ℕ → ℕ
least_past k y = cond (k == 0) (y / 4 + 1) (cond (k == 1) (y + 1) 0)

-- the least D from `start` on with x ≤ 8D and, for k = 0, y < 4D, for k = 1, y < D
abbrev pub least_divisor : ℕ → ℕ → ℕ → ℕ → ℕ
least_divisor start x y k = max start (max ((x + 7) / 8) (least_past k y))

-- the least divisor from s on at which a remainder of the column c is too low for b, and too high
abbrev pub low_divisor : Estimate → ℕ → ℕ → ℕ → ℕ
low_divisor E s c b = least_divisor s (under E c) (above c) (4 - b)

abbrev pub high_divisor : Estimate → ℕ → ℕ → ℕ → ℕ
high_divisor E s c b = least_divisor s (above c) (under E c) b

-- 8D/3, rounded down: the greatest |P| of a point
abbrev pub reach : ℕ → ℕ
reach d = 2 * d + 2 * d / 3

-- the least remainder of a point at d, and the least that is too high for b
abbrev pub low_at : ℕ → ℕ → ℕ
low_at d c = max (c * 2 ^ 57) (2 ^ 63 - reach d)

abbrev pub high_at : ℕ → ℕ → ℕ → ℕ
high_at d c b = max (c * 2 ^ 57) (2 ^ 63 - 2 * d + b * d + 2 * d / 3 + 1)

-- ---- the test

-- what the test of a cell finds: the least point that breaks a digit, as D and W
pub data Finding : Type 0 where
  NoWitness : Finding
  LeastAt : ℕ → ℕ → Finding

abbrev pub found_at : Estimate → ℕ → ℕ → ℕ → Bool → Finding
found_at E s c b low =
    let d = low_divisor E s c b in
    let e = high_divisor E s c b in
    cond low (LeastAt d (low_at d c)) (LeastAt e (high_at e c b))

-- § 4.3 Given its row's multiples, the test of a cell returns the verdict and witness of the single cell.
abbrev pub test_of : Inside → ℕ → ℕ → Finding
test_of m c b = cond (allows_by m c b) NoWitness (found_at m.estimate m.smallest c b (nat_lt (greatest_byte m c) b))

abbrev pub witness_of : ℕ → ℕ → Witness
witness_of d w = record { divisor = d; remainder = sub_ℕ w (2 ^ 63) }

-- the verdict on the cell: no witness against an allowed digit, or the least
abbrev pub cell_verdict_of : Finding → Option Witness
cell_verdict_of NoWitness = None
cell_verdict_of (LeastAt d w) = Some (witness_of d w)
