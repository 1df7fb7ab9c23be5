-- Working definitions of private functions: no public contract cites this file. What the code holds besides a state: the column of
-- its two words, the multiples of the divisor and their top bits, from which the next column is known ahead of the next words.
use Rattle.std.specs.Prelude.{◌≡◌, ℕ, ◌+◌, ◌-◌, ◌*◌, ◌/◌, ◌%◌, ◌^◌, ◌<◌, ◌≤◌, cond, List, [], ◌∷◌, length, bit_and, nat_lt, slice_index, Result, Ok, Err}
use Rattle.selection.specs.Cell.{column}
use Rattle.recurrence.specs.Recurrence.{State, appended}
use Rattle.recurrence.specs.computed.Step.{step_zeros, step_values}
use Rattle.recurrence.specs.declared.step.Stepped.{Stepped}
use Rattle.selection.specs.declared.Refusal.{Refusal}
use Rattle.recurrence.specs.declared.state.RunState.{RunState}
use Rattle.recurrence.specs.declared.RunResult.{RunResult}
use Rattle.selection.specs.declared.Estimate.{Estimate}
use Rattle.selection.specs.declared.Estimate.TheVariants.{SevenBits, EightBits}

-- the multiple of the divisor for each digit byte
abbrev pub divisor_multiples : ℕ → List ℕ
divisor_multiples D = 2 * D ∷ D ∷ 0 ∷ (2 ^ 64 - 1 - D) ∷ (2 ^ 64 - 1 - 2 * D) ∷ []

-- the nine bits of a multiple that the next column needs, plus 256: two bits up, the column's 64
abbrev pub top_bits_of : ℕ → ℕ
top_bits_of x = (x / 2 ^ 53 + 256) % 512

-- the top bits of five multiples, the first highest
abbrev pub all_top_bits : List ℕ → ℕ
all_top_bits ms =
    ((((top_bits_of (slice_index ms 0) * 512 + top_bits_of (slice_index ms 1)) * 512 + top_bits_of (slice_index ms 2)) * 512 + top_bits_of (slice_index ms 3)) * 512 + top_bits_of (slice_index ms 4)) * 2 ^ 19

-- the code's state, in a divider with the estimate E: a state with its column, and without its divisor
abbrev pub run_state_of : Estimate → State → RunState
run_state_of E p = record { sum = p.sum; carry = p.carry; column = column E p.sum p.carry; digit = p.digit; value = p.value; decremented = p.decremented }

abbrev pub state_of : ℕ → RunState → State
state_of D p = record { sum = p.sum; carry = p.carry; divisor = D; digit = p.digit; value = p.value; decremented = p.decremented }

-- the bits of a word that the next column of a divider with the estimate E needs, before the word is moved up by two bits
abbrev pub mask_of : Estimate → ℕ
mask_of SevenBits = 2 ^ 64 - 2 ^ 54
mask_of EightBits = 2 ^ 64 - 2 ^ 53

-- five multiples without the bits that the mask drops, and their top bits
abbrev pub masked_multiples : List ℕ → ℕ → List ℕ
masked_multiples ms mask = bit_and (slice_index ms 0) mask ∷ bit_and (slice_index ms 1) mask ∷ bit_and (slice_index ms 2) mask ∷ bit_and (slice_index ms 3) mask ∷ bit_and (slice_index ms 4) mask ∷ []

abbrev pub masked_top_bits : List ℕ → ℕ → ℕ
masked_top_bits ms mask = all_top_bits (masked_multiples ms mask)

-- a divider at one divisor
pub record Divider : Type 0 where
  pub estimate : Estimate
  pub divisor : ℕ

-- the five multiples of the divisor D, the bits of a word that the next column needs for the estimate E, and those bits of the multiples
pub record MultiplesOf (E : Estimate) (D : ℕ) (ms : List ℕ) (mask tops : ℕ) : Type 0 where
  pub multiples : ms ≡ divisor_multiples D
  pub mask_is : mask ≡ mask_of E
  pub tops_is : tops ≡ masked_top_bits ms mask

-- the next column after the digit byte d, from the words s and k
abbrev pub column_ahead : ℕ → ℕ → ℕ → ℕ → ℕ → ℕ
column_ahead mask tops d s k = ((bit_and (s % 2 ^ 62) mask + bit_and (k % 2 ^ 62) mask) % 2 ^ 64 * 4 % 2 ^ 64 + tops * 2 ^ (9 * d) % 2 ^ 64) % 2 ^ 64 / 2 ^ 57

-- 128 digit bytes
pub record DigitBytes (bytes : List ℕ) : Type 0 where
  pub size : length bytes ≡ 128
  pub small : (c : ℕ) → c < 128 → slice_index bytes c ≤ 4

-- one of the pair v, u renewed, u the decremented one: with k = 4 + q the value, with k = 3 + q the decremented value. For k below 4 it is u with the bits k, else v with the bits k − 4
abbrev pub renewed : ℕ → ℕ → ℕ → ℕ
renewed k v u = appended (cond (nat_lt k 4) u v) (k % 4)

-- the answer from the last state's pair v, u, the divisor and the sum w of its two words: one of the pair, chosen by the sign; a quarter of the remainder, and one divisor added where the sign is set
abbrev pub result_from_word : ℕ → ℕ → ℕ → ℕ → ℕ → RunResult
result_from_word v u D w n = record { quotient = cond (nat_lt w (2 ^ 63)) v u; remainder = (w / 4 + w / 2 ^ 63 * (D + 3 * 2 ^ 62)) % 2 ^ 64; count = n }

-- the answer of a step that led to a state: no divisor is handed out
abbrev pub step_numbers : Result RunState Refusal → Stepped
step_numbers (Ok p) = step_values (state_of 0 p)
step_numbers (Err f) = step_zeros f
