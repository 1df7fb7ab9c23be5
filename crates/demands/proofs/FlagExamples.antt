-- The worked flags: through every table that passes an answer is the computed quotient.
use Rattle.laws.proofs.Basics.{◌≡◌, List, ℕ, lit≤}
use Rattle.selection.specs.{Table.{Passes}, declared.Estimate.TheVariants.{EightBits}}
use Rattle.division.{specs.computed.Rounding.{finite_rounded, quotient_of}, specs.computed.Format.{binary64_values}, specs.computed.Binary64.{binary64_of}, proofs.AdmittedAnswers.{binary64_answer}}
use Rattle.demands.specs.computed.FlagExamples.{FlagExamples}

abbrev Computed : List ℕ → ℕ → ℕ → ℕ → Type 0
Computed t a b direction = binary64_of t direction a b ≡ binary64_values (quotient_of direction a b)

-- in all four directions
all : (t : List ℕ) → Passes EightBits t → (a b : ℕ) → Computed t a b 0 × Computed t a b 1 × Computed t a b 2 × Computed t a b 3
all t p a b = (binary64_answer t p 0 a b (lit≤ tt), binary64_answer t p 1 a b (lit≤ tt), binary64_answer t p 2 a b (lit≤ tt), binary64_answer t p 3 a b (lit≤ tt))

-- § 9.3 Flags are shown in numbers.
pub flag_examples : FlagExamples
unfolding finite_rounded
flag_examples = record {
  passed = λ t p.
      record {
        overflow = all t p 0x7FE0_0000_0000_0000 0x3FD0_0000_0000_0000;
        underflow = let x = all t p 0x0010_0000_0000_0000 0x4008_0000_0000_0000 in (x.0, x.2);
        rounds_up = let x = all t p 0x001F_FFFF_FFFF_FFFF 0x4000_0000_0000_0000 in (x.0, x.1);
        by_zero = all t p 0x3FF0_0000_0000_0000 0;
        minus_by_zero = all t p 0xBFF0_0000_0000_0000 0;
        invalid = all t p 0 0;
        infinity_by_zero = all t p 0x7FF0_0000_0000_0000 0;
        infinity_by_one = all t p 0x7FF0_0000_0000_0000 0xBFF0_0000_0000_0000;
        one_by_infinity = all t p 0x3FF0_0000_0000_0000 0xFFF0_0000_0000_0000;
        infinities = all t p 0x7FF0_0000_0000_0000 0x7FF0_0000_0000_0000;
      };
}
