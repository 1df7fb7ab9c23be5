-- Demand 2: whole numbers, binary64 and samples are right, through every table that passes and through the kept one.
use Rattle.std.specs.Prelude.{◌≡◌, List, [], ◌∷◌, ◌↔◌, ℕ, ◌+◌, ◌*◌, ◌/◌, ◌%◌, ◌^◌, ◌≤◌, ◌<◌, length, get_or}
use Rattle.selection.specs.Answer.{refusal}
use Rattle.selection.specs.Table.{Passes}
use Rattle.selection.specs.computed.Outcomes.{made_table}
use Rattle.division.specs.computed.Whole.{whole_of}
use Rattle.division.specs.computed.Binary64.{binary64_of}
use Rattle.division.specs.computed.Samples.{SamplesOutcome, Compensated, samples_values, samples_of}
use Rattle.division.specs.Ieee.{Ieee}
use Rattle.division.specs.declared.whole.Whole.{Whole}
use Rattle.division.specs.declared.format.Binary64Result.{Binary64Result}
use Rattle.division.specs.declared.format.Binary64.{Binary64}
use Rattle.selection.specs.declared.Estimate.TheVariants.{EightBits}

-- the answer is no refusal; a = Q·b + R with R below b for its quotient Q and its remainder R, and for no others
-- § 8.1 Q and R have a = Q·b + R and 0 ≤ R < b.
pub record Divides (a b : ℕ) (x : Whole) : Type 0 where
  pub done : x.refusal ≡ refusal 0 0
  pub equation : a ≡ x.quotient * b + x.remainder
  pub below : x.remainder < b
  pub only : (Q R : ℕ) → a ≡ Q * b + R → R < b → (Q ≡ x.quotient) × (R ≡ x.remainder)

-- the answer is no refusal; its pattern and flags are a / b, and there are no others
-- § 21.2 Demand 2 holds.
pub record DividesBinary64 (direction a b : ℕ) (x : Binary64) : Type 0 where
  pub done : x.refusal ≡ refusal 0 0
  pub meaning : Ieee direction a b (record { pattern = x.pattern; flags = x.flags })
  pub only : (y : Binary64Result) → Ieee direction a b y → y ≡ record { pattern = x.pattern; flags = x.flags }

-- the answer and the third list are those of the samples divided one by one, and there are no others
pub record DividesSamples (t : List ℕ) (direction : ℕ) (currents sensitivities given : List ℕ) (x : SamplesOutcome) : Type 0 where
  pub meaning : Compensated t direction currents sensitivities given x
  pub only : (y : SamplesOutcome) → Compensated t direction currents sensitivities given y → y ≡ x

-- an example: of 2^1023 over 1/4 and 2^-1022 over 3 the first overflows, with the flags 4 and 1, the second underflows, with 2 and 1, and the third place is kept
-- § 10.3 Two samples are worked in numbers.
abbrev pub SamplesExample : List ℕ → Type 0
SamplesExample t = samples_of t 0 (0x7FE0_0000_0000_0000 ∷ 0x0010_0000_0000_0000 ∷ []) (0x3FD0_0000_0000_0000 ∷ 0x4008_0000_0000_0000 ∷ []) (11 ∷ 12 ∷ 13 ∷ [])
    ≡ record { answer = record { refusal = refusal 0 0; flags = 7; count = 2 }; concentrations = 0x7FF0_0000_0000_0000 ∷ 0x0005_5555_5555_5555 ∷ 13 ∷ [] }

-- the joined flags in numbers: below 32, and each of the five is in the sum exactly if it is in that of some sample
pub record FlagsJoined (t : List ℕ) (direction : ℕ) (currents sensitivities : List ℕ) (flags : ℕ) : Type 0 where
  pub small : flags < 32
  pub each : (i : ℕ) → i < 5 → (flags / 2 ^ i % 2 ≡ 1) ↔ ((j : ℕ) × (j < length currents) × ((binary64_of t direction (get_or currents j 0) (get_or sensitivities j 0)).flags / 2 ^ i % 2 ≡ 1))

-- through the table t, for all operands that no refusal names: 4, 5; 6; 6, 11, 7
pub record RightThrough (t : List ℕ) : Type 0 where
  pub whole : (a b : ℕ) → a < 2 ^ 60 → 0 < b → b < 2 ^ 60 → Divides a b (whole_of t a b)
  pub binary64 : (direction a b : ℕ) → direction ≤ 3 → DividesBinary64 direction a b (binary64_of t direction a b)
  pub samples : (direction : ℕ) (currents sensitivities given : List ℕ) → direction ≤ 3 → length currents ≡ length sensitivities → length currents ≤ length given
      → DividesSamples t direction currents sensitivities given (samples_of t direction currents sensitivities given)
  pub flags_joined : (direction : ℕ) (currents sensitivities given : List ℕ) → direction ≤ 3 → length currents ≡ length sensitivities → length currents ≤ length given
      → FlagsJoined t direction currents sensitivities (samples_of t direction currents sensitivities given).answer.flags
  -- both 0 for an empty run
  pub no_samples : (direction : ℕ) (given : List ℕ) → direction ≤ 3 → samples_of t direction [] [] given ≡ record { answer = samples_values 0 0; concentrations = given }
  pub samples_example : SamplesExample t

-- § 21.2 Demand 2 holds.
pub record Demand2 : Type 0 where
  pub passed : (t : List ℕ) → Passes EightBits t → RightThrough t
  pub kept : RightThrough (made_table EightBits)
