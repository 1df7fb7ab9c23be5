-- The digit recurrence, which the specification calls a run (its term): section 6. One step, the states, the digits, the number S that they make, the correction of the last digit.
use Rattle.std.specs.Prelude.{ℕ, zero, suc, ◌+◌, ◌-◌, ◌*◌, ◌%◌, ◌^◌, ◌<◌, ◌≤◌, cond, List, [], ◌∷◌, length, ℤ, pos, ◌+ℤ◌, ◌-ℤ◌, ◌*ℤ◌, nat_lt, slice_index, unsigned_abs}
use Rattle.std.specs.Int.Signed.{non_neg}
use Rattle.laws.specs.Lists.{list_from}
use Rattle.selection.specs.Word.{signed}
use Rattle.selection.specs.Cell.{row, column, digit}
use Rattle.recurrence.specs.CarrySave.{sum3, maj3, multiple, lowest_carry}
use Rattle.recurrence.specs.declared.RunResult.{RunResult}
use Rattle.selection.specs.declared.Estimate.{Estimate}

-- a state of the run: the sum word PS, the carry word PC, the divisor, the digit byte of the last step, the value of the digits so far and that value less one (decremented), both modulo 2^64
pub record State : Type 0 where
  pub sum : ℕ
  pub carry : ℕ
  pub divisor : ℕ
  pub digit : ℕ
  pub value : ℕ
  pub decremented : ℕ

-- the spans of N and D
-- § 1.2 D is from 2^60 to 2^61 − 1, N below 2^61.
pub record Operands (N D : ℕ) : Type 0 where
  pub dividend : N < 2 ^ 61
  pub least : 2 ^ 60 ≤ D
  pub most : D < 2 ^ 61

-- the partial remainder P: the sum of both words modulo 2^64, read as a signed number
-- § 2.3 P is PS + PC modulo 2^64, read as signed.
abbrev pub residue : State → ℤ
residue p = signed (p.sum + p.carry)

-- two bits appended to x, bits above 63 dropped
abbrev pub appended : ℕ → ℕ → ℕ
appended x bits = (x * 4 + bits) % 2 ^ 64

-- the state after a step whose digit byte is d = q + 2: both words moved up two bits, bits above 63 dropped. The pair by on-the-fly conversion (Ercegovac and Lang): one of the old two
-- is chosen and two bits are appended. The next value is the decremented one with the bits 4 + q for q below 0, else the value with the bits q; the next decremented value is the
-- decremented one with the bits 3 + q for q below 1, else the value with the bits q − 1
-- § 6.3 The next words are exclusive or and majority, moved up by two bits.
abbrev pub step_by : ℕ → State → State
step_by d p = record {
  sum = sum3 p.sum p.carry (multiple d p.divisor) * 4 % 2 ^ 64;
  carry = (maj3 p.sum p.carry (multiple d p.divisor) * 2 + lowest_carry d) * 4 % 2 ^ 64;
  divisor = p.divisor;
  digit = d;
  value = cond (nat_lt d 2) (appended p.decremented (d + 2)) (appended p.value (d - 2));
  decremented = cond (nat_lt d 3) (appended p.decremented (d + 1)) (appended p.value (d - 3));
}

-- PS = s, PC = k; no step is done, so the digit byte is that of 0, the value is 0, and one less modulo 2^64 is 2^64 − 1
abbrev pub state_from : ℕ → ℕ → ℕ → State
state_from s k D = record { sum = s; carry = k; divisor = D; digit = 2; value = 0; decremented = 2 ^ 64 - 1 }

-- the run starts with PS = N, PC = 0
-- § 6.2 A run starts with PS = N, PC = 0 and the value 0.
abbrev pub start_of : ℕ → ℕ → State
start_of N D = state_from N 0 D

-- S, the sum of q_i·4^(n−1−i)
-- § 6.5 S is the number that the digits make; the end remainder is N·4^(n−1) − S·D.
unfoldable pub value : List ℕ → ℤ
value [] = pos 0
value (d ∷ ds) = pos (4 ^ length ds) *ℤ digit d +ℤ value ds

-- the correction: where the end remainder R is negative, quotient S − 1 and D is added; otherwise quotient S
-- § 6.7 Where the end remainder is negative, the quotient is S − 1 and D is added.
abbrev pub corrected_quotient : ℤ → ℤ → ℤ
corrected_quotient S R = cond (non_neg R) S (S -ℤ pos 1)

-- § 6.7 Where the end remainder is negative, the quotient is S − 1 and D is added.
abbrev pub corrected_remainder : ℤ → ℕ → ℤ
corrected_remainder R D = cond (non_neg R) R (R +ℤ pos D)

-- the answer that S and R form. Neither number is negative through a table that passes (`RunsRight`), nor in a run that is not marked, whatever the table (`RunMarkClaim`), so that `nat_abs` hides nothing
abbrev pub formed : ℤ → ℤ → ℕ → ℕ → RunResult
formed S R D n = record {
  quotient = unsigned_abs (corrected_quotient S R);
  remainder = unsigned_abs (corrected_remainder R D);
  count = n;
}

-- in a divider with the estimate E
module _ (E : Estimate) where
  -- the index of the cell of D and the two words
  -- § 6.3 A step reads the cell of D and its two words.
  abbrev pub cell_at : State → ℕ
  cell_at p = 128 * row p.divisor + column E p.sum p.carry

  -- one step: the digit is the table's at the cell
  -- § 6.3 The next words are exclusive or and majority, moved up by two bits.
  unfoldable pub next_of : List ℕ → State → State
  next_of t p = step_by (slice_index t (cell_at p)) p

  -- the state after i steps
  unfoldable pub after : List ℕ → ℕ → ℕ → ℕ → State
  after t N D zero = start_of N D
  after t N D (suc i) = next_of t (after t N D i)

  -- the digit of step i, counted from 0, as a byte
  abbrev pub digit_of : List ℕ → ℕ → ℕ → ℕ → ℕ
  digit_of t N D i = (after t N D (suc i)).digit

  -- the first n digits
  abbrev pub digits : List ℕ → ℕ → ℕ → ℕ → List ℕ
  digits t N D n = list_from (digit_of t N D) 0 n

  -- the end remainder, N·4^(n−1) − S·D
  -- § 6.5 S is the number that the digits make; the end remainder is N·4^(n−1) − S·D.
  unfoldable pub end_remainder : List ℕ → ℕ → ℕ → ℕ → ℤ
  end_remainder t N D n = pos (N * 4 ^ (n - 1)) -ℤ value (digits t N D n) *ℤ pos D

  unfoldable pub result_of : List ℕ → ℕ → ℕ → ℕ → RunResult
  result_of t N D n = formed (value (digits t N D n)) (end_remainder t N D n) D n
