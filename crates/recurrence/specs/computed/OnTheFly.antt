-- The quotient is ready with the last digit: the specification, section 6.6. A state carries the value of its digits and that value less one; each step renews both by on-the-fly conversion.
use Rattle.std.specs.Prelude.{◌≡◌, ℕ, ◌+◌, ◌-◌, ◌*◌, ◌%◌, ◌^◌, ◌<◌, ◌≤◌, cond, ◌⊎◌, List, ℤ, pos, ◌+ℤ◌, ◌-ℤ◌, ◌*ℤ◌}
use Rattle.std.specs.Int.Signed.{non_neg}
use Rattle.selection.specs.Table.{Passes}
use Rattle.selection.specs.computed.Outcomes.{made_table}
use Rattle.recurrence.specs.Recurrence.{State, Operands, next_of, start_of, after, digits, value, end_remainder, result_of}
use Rattle.selection.specs.declared.Estimate.TheVariants.{EightBits}

-- the word w is the whole number z modulo 2^64
pub record WordOf (z : ℤ) (w : ℕ) : Type 0 where
  pub word : w < 2 ^ 64
  pub times : ℤ
  pub is : z ≡ pos w +ℤ times *ℤ pos (2 ^ 64)

-- the two numbers of a state whose digits make S: S and S − 1, both modulo 2^64, and exactly one apart modulo 2^64
-- § 6.2 The state holds the value and one less, modulo 2^64.
pub record PairOf (S : ℤ) (p : State) : Type 0 where
  pub value : WordOf S p.value
  pub decremented : WordOf (S -ℤ pos 1) p.decremented
  pub one_apart : p.value ≡ (p.decremented + 1) % 2 ^ 64

-- the number w is one of the pair of p, with two bits appended
pub record Appends (p : State) (w : ℕ) : Type 0 where
  pub old : ℕ
  pub bits : ℕ
  pub chosen : (old ≡ p.value) ⊎ (old ≡ p.decremented)
  pub two_bits : bits < 4
  pub is : w ≡ (old * 4 + bits) % 2 ^ 64

-- both numbers of q are renewed from the pair of p
-- § 6.6 Each step makes both values anew by two appended bits; they stay one apart.
pub record Renews (p q : State) : Type 0 where
  pub value : Appends p q.value
  pub decremented : Appends p q.decremented

-- every state that a run reaches through a table that passes, also in whole-number division, which takes up to 31 digits
-- § 6.6 Each step makes both values anew by two appended bits; they stay one apart.
pub record PairDemand : Type 0 where
  pub start : (N D : ℕ) → ((start_of N D).value ≡ 0) × ((start_of N D).decremented ≡ 2 ^ 64 - 1)
  -- each step renews both; said of every state, reached or not: of a state whose two numbers are one apart a sum would have the same values
  pub renews : (t : List ℕ) → Passes EightBits t → (p : State) → Renews p (next_of EightBits t p)
  pub pair : (t : List ℕ) → Passes EightBits t → (N D i : ℕ) → PairOf (value (digits EightBits t N D i)) (after EightBits t N D i)
  -- the quotient is one of the last pair, chosen by the end remainder's sign
  pub chosen : (t : List ℕ) → Passes EightBits t → (N D n : ℕ) → Operands N D → 1 ≤ n → n ≤ 31
      → (result_of EightBits t N D n).quotient ≡ cond (non_neg (end_remainder EightBits t N D n)) (after EightBits t N D n).value (after EightBits t N D n).decremented

-- an example: bench case 9 (the specification, section 21.5), whose digits are 1, −1, −1 and whose S is 11
abbrev case_9 : ℕ → State
case_9 i = after EightBits (made_table EightBits) (2 ^ 60) (3 * 2 ^ 59) i

-- § 6.6 Bench case 9 is shown step by step.
pub record PairExample : Type 0 where
  pub one : ((case_9 1).value ≡ 1) × ((case_9 1).decremented ≡ 0)
  pub two : ((case_9 2).value ≡ 3) × ((case_9 2).decremented ≡ 2)
  pub three : ((case_9 3).value ≡ 11) × ((case_9 3).decremented ≡ 10)
