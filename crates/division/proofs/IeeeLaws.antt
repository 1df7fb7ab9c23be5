-- Binary64 division means what the specification says, for every pair of operands and through every table that passes.
use Rattle.laws.proofs.Basics.{◌≡◌, sym, ap, subst, ℕ, ◌^◌, ◌≤◌, ◌<◌, arith, List}
use Rattle.std.proofs.Common.{lt_of_lt_of_le, mul-le-mul_left, pow_mono}
use Rattle.division.specs.computed.Binary64.{binary64_of}
use Rattle.division.proofs.Binary64Names.{magnitude, field, class_of, sign_of, finite_quotient, case_of, nan_flags, decided, or_rounded, quotient_of, RoundedQuotient, Ieee, Binary64Result, Case}
use Rattle.division.proofs.{AdmittedAnswers.{binary64_answer}, Classes.{nonzero_operand, nan_case, invalid_case, by_zero_case, infinite_case, zero_case, quotient_case}}
use Rattle.division.proofs.{RoundedOne.{magnitude_under}, Quotient.{rounded_quotient}}
use Rattle.selection.specs.{Table.{Passes}, declared.Estimate.TheVariants.{EightBits}}

-- finite magnitudes are below 2^1024
pub magnitude_below : (p : ℕ) → field p < 2047 → magnitude p < 2 ^ 2098
magnitude_below p h = lt_of_lt_of_le (magnitude_under p) (mul-le-mul_left (2 ^ 52) (pow_mono {i = field p} {j = 2046} (omega arith)))

-- the answer of a case
answer_of : (direction a b : ℕ) {k : Case} → case_of (class_of a) (class_of b) ≡ k
    → quotient_of direction a b ≡ or_rounded (finite_quotient direction (sign_of a b) (magnitude a) (magnitude b)) (decided (sign_of a b) (nan_flags a b) k)
answer_of direction a b = ap (λ (k : Case). or_rounded (finite_quotient direction (sign_of a b) (magnitude a) (magnitude b)) (decided (sign_of a b) (nan_flags a b) k))

-- § 9.5 Every case has its sign, pattern and flags.
pub ieee : (direction a b : ℕ) → Ieee direction a b (quotient_of direction a b)
ieee direction a b = record {
  nan = λ h. ap (λ (x : Binary64Result). x.pattern) (answer_of direction a b (nan_case a b h));
  nan_flag = λ h. ap (λ (x : Binary64Result). x.flags) (answer_of direction a b (nan_case a b h));
  invalid = λ h. answer_of direction a b (invalid_case a b h);
  by_zero = λ h e. answer_of direction a b (by_zero_case a b h e);
  infinite = λ e h. answer_of direction a b (infinite_case a b e h);
  zero = λ h. answer_of direction a b (zero_case a b h);
  quotient = λ h k.
      subst (RoundedQuotient direction (sign_of a b) (magnitude a) (magnitude b)) (sym (answer_of direction a b (quotient_case a b h k)))
      (rounded_quotient direction (sign_of a b) (magnitude a) (magnitude b) (magnitude_below a (nonzero_operand a h).1) (nonzero_operand b k).0);
}

-- and so through every table that passes
pub ieee_through : (t : List ℕ) → Passes EightBits t → (direction a b : ℕ) → direction ≤ 3 → let x = binary64_of t direction a b in Ieee direction a b (record { pattern = x.pattern; flags = x.flags })
ieee_through t p direction a b h = rw (binary64_answer t p direction a b h) (ieee direction a b)
