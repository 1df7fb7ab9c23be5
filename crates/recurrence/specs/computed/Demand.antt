-- Demand 3's words on the run: one claim about all n steps of a run through a table that passes, together. With it what is said of the states and of the quotient (the specification, section 6.6).
use Rattle.std.specs.Prelude.{◌≡◌, ℕ, suc, ◌+◌, ◌-◌, ◌*◌, ◌/◌, ◌%◌, ◌^◌, ◌<◌, ◌≤◌, cond, List, ◌++◌, length, take, drop, pos, ◌-ℤ◌, ◌*ℤ◌, slice_index}
use Rattle.std.specs.Int.Signed.{non_neg}
use Rattle.selection.specs.Answer.{refusal}
use Rattle.selection.specs.Word.{Within}
use Rattle.selection.specs.Cell.{row, column, digit}
use Rattle.recurrence.specs.Recurrence.{residue, after, digits, value, end_remainder, corrected_quotient, corrected_remainder, result_of}
use Rattle.recurrence.specs.computed.Run.{run_of}
use Rattle.recurrence.specs.computed.OnTheFly.{PairOf, Renews}
use Rattle.recurrence.specs.declared.Ran.{Ran}
use Rattle.selection.specs.declared.Estimate.{Estimate}
use Rattle.selection.specs.declared.Estimate.TheVariants.{EightBits}

-- the answer x is no refusal; quotient and remainder are formed from S and the end remainder, neither is negative, and they are those of N·4^(n−1) by D
-- § 6.7 Where the end remainder is negative, the quotient is S − 1 and D is added.
pub record RunAnswered (t : List ℕ) (N D n : ℕ) (x : Ran) : Type 0 where
  pub done : x.refusal ≡ refusal 0 0
  pub count : x.digits ≡ n
  pub quotient : pos x.quotient ≡ corrected_quotient (value (digits EightBits t N D n)) (end_remainder EightBits t N D n)
  -- it is one of the two numbers of the last state, chosen by the end remainder's sign
  pub chosen : x.quotient ≡ cond (non_neg (end_remainder EightBits t N D n)) (after EightBits t N D n).value (after EightBits t N D n).decremented
  pub remainder : pos x.remainder ≡ corrected_remainder (end_remainder EightBits t N D n) D
  pub divides : x.quotient * D + x.remainder ≡ N * 4 ^ (n - 1)
  pub below : x.remainder < D

-- n steps in a divider with the estimate E, through a table that passes for it
-- § 6.8 All this holds of the steps of a divider with either estimate.
pub record RunsRight (E : Estimate) (t : List ℕ) (N D n : ℕ) : Type 0 where
  pub many : length (digits E t N D n) ≡ n
  -- each digit is the table's at the cell of D and the words that the steps have reached
  -- § 6.8 Each digit is the table's in the cell that the steps have reached.
  pub selected : (i : ℕ) → i < n → slice_index (digits E t N D n) i ≡ slice_index t (128 * row D + column E (after E t N D i).sum (after E t N D i).carry)
  -- each step is P′ = 4(P − qD)
  -- § 6.3 The next remainder is P′ = 4(P − qD).
  pub step : (i : ℕ) → i < n → residue (after E t N D (suc i)) ≡ pos 4 *ℤ (residue (after E t N D i) -ℤ digit (slice_index (digits E t N D n) i) *ℤ pos D)
  -- before each step and after the last, the signed residue is the true remainder, and in range
  pub exact : (i : ℕ) → i ≤ n → residue (after E t N D i) ≡ pos (N * 4 ^ i) -ℤ pos 4 *ℤ (value (digits E t N D i) *ℤ pos D)
  -- § 6.8 P is in its range before each step and after the last.
  pub range : (i : ℕ) → i ≤ n → Within 8 D (pos 3 *ℤ residue (after E t N D i))
  -- before each step and after the last, the state has the value of the digits so far and that value less one, both modulo 2^64
  pub pair : (i : ℕ) → i ≤ n → PairOf (value (digits E t N D i)) (after E t N D i)
  -- each step renews both by choosing one of the old two and appending two bits
  pub renews : (i : ℕ) → i < n → Renews (after E t N D i) (after E t N D (suc i))
  -- 3·|N·4^(n−1) − S·D| ≤ 2D
  -- § 6.8 Three times the end remainder is from −2D to 2D.
  pub close : Within 2 D (pos 3 *ℤ end_remainder E t N D n)
  -- quotient and remainder are formed from S and the end remainder, neither is negative, and they are those of N·4^(n−1) by D
  pub quotient : pos (result_of E t N D n).quotient ≡ corrected_quotient (value (digits E t N D n)) (end_remainder E t N D n)
  pub remainder : pos (result_of E t N D n).remainder ≡ corrected_remainder (end_remainder E t N D n) D
  -- § 6.7 The result is quotient and remainder of N·4^(n−1) by D.
  pub result : result_of E t N D n ≡ record { quotient = N * 4 ^ (n - 1) / D; remainder = N * 4 ^ (n - 1) % D; count = n }

-- § 6.8 All this holds of a caller's run, with every byte of its buffer.
pub record RunClaim (t : List ℕ) (N D n : ℕ) (b : List ℕ) (place : ℕ) : Type 0 where
  -- the n digits stand in the buffer from the place on, and the other bytes are as they were
  pub written : (run_of t N D n b place).buffer ≡ take place b ++ (digits EightBits t N D n ++ drop (place + n) b)
  pub steps : RunsRight EightBits t N D n
  pub answer : RunAnswered t N D n (run_of t N D n b place).answer
