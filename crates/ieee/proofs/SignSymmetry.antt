-- Negating an operand negates the answer and exchanges directions 2 and 3; the flags stay. It holds of not-a-numbers too, whose sign the logic does not tell.
use Rattle.laws.proofs.{Basics.{◌≡◌, refl, sym, ap, ap₂, ◌∙◌, Bool, true, false, not, cond, ◌||◌, Bool·beq, ⊎_elim, ℕ, zero, suc, ◌+◌, ◌^◌, ◌≤◌, ◌<◌, arith, eqb, le-leb, lt-leb}, Division.{le_or_lt}}
use lib.Ieee.{nan, inf, binary64, neg, odd, of_fields, of_bits}
use Rattle.division.specs.declared.format.Binary64Result.{Binary64Result}
use Rattle.division.specs.Format.{negative, field, fraction, magnitude, class_of, signalling, sign_bit, sign_of, infinity, largest_finite, quiet_nan, inexact_flag, overflow_flag, invalid_flag, FiniteNonzero}
use Rattle.division.specs.{computed.Format.{binary64_values}, computed.Rounding.{nan_flags}, declared.rounding.Mode.{Mode}, Rounding.{mode_of, points_to_zero}, Rounded.{Rounded}}
use Rattle.division.{specs.Ieee.{quotient_scale, quotient_place, RoundedQuotient, Ieee}, proofs.Classes.{by_cases, nonzero_operand}, proofs.Quotient.{quotient_increasing}}
use Rattle.division.proofs.RoundedOne.{rounded_one}
use Rattle.ieee.specs.{LanguageQuotient.{value_of}, Directions.{negated, mirrored}, computed.Ieee754.{Opposite}}
use Rattle.ieee.proofs.{LanguageReading.{by_fields}, AnswerUnits.{rounded_word}}

-- ---- a negated pattern
negated_field : (p : ℕ) → field (negated p) ≡ field p
negated_field p = omega arith

negated_fraction : (p : ℕ) → fraction (negated p) ≡ fraction p
negated_fraction p = omega arith

negated_word : (p : ℕ) → negated p < 2 ^ 64
negated_word p = omega arith

negated_sign : (p : ℕ) → p < 2 ^ 64 → negative (negated p) ≡ not (negative p)
negated_sign p h = ⊎_elim
    (λ (g : 2 ^ 63 ≤ p). rw (le-leb (2 ^ 63) p g, lt-leb (2 ^ 63) (negated p) (omega arith)))
    (λ (g : p < 2 ^ 63). rw (lt-leb (2 ^ 63) p g, le-leb (2 ^ 63) (negated p) (omega arith)))
    (le_or_lt (2 ^ 63) p)

negated_magnitude : (p : ℕ) → magnitude (negated p) ≡ magnitude p
negated_magnitude p = rw (negated_field p, negated_fraction p)

negated_class : (p : ℕ) → class_of (negated p) ≡ class_of p
negated_class p = rw (negated_field p, negated_fraction p)

negated_signalling : (p : ℕ) → signalling (negated p) ≡ signalling p
negated_signalling p = rw (negated_field p, negated_fraction p)

-- the logic's word for it
fields_neg : (s : Bool) (x t : ℕ) → of_fields binary64 (not s) x t ≡ neg (of_fields binary64 s x t)
unfolding of_fields neg odd
fields_neg s zero zero = refl
fields_neg s zero (suc t) = refl
fields_neg s (suc x) t = go (eqb (suc x) 2047) (eqb t 0) (2 ^ 52 + t)
  where
    numbers : (n : ℕ) → odd 53 (not s) n x 1074 ≡ neg (odd 53 s n x 1074)
    numbers zero = refl
    numbers (suc n) = refl

    go : (b c : Bool) (n : ℕ) → cond b (cond c (inf (not s)) nan) (odd 53 (not s) n x 1074) ≡ neg (cond b (cond c (inf s) nan) (odd 53 s n x 1074))
    go true true n = refl
    go true false n = refl
    go false c n = numbers n

pub negated_neg : (p : ℕ) → p < 2 ^ 64 → value_of (negated p) ≡ neg (value_of p)
negated_neg p h =
    by_fields (negated p)
    ∙ ap (λ (s : Bool). of_fields binary64 s (field (negated p)) (fraction (negated p))) (negated_sign p h)
    ∙ ap₂ (λ (x t : ℕ). of_fields binary64 (not (negative p)) x t) (negated_field p) (negated_fraction p)
    ∙ fields_neg (negative p) (field p) (fraction p)
    ∙ ap neg (sym (by_fields p))

-- ---- a rounded magnitude
mirrored_mode : (d : ℕ) (s : Bool) → d ≤ 3 → mode_of (mirrored d) s ≡ mode_of d (not s)
mirrored_mode zero s l = refl
mirrored_mode (suc zero) s l = refl
mirrored_mode (suc (suc zero)) true l = refl
mirrored_mode (suc (suc zero)) false l = refl
mirrored_mode (suc (suc (suc zero))) true l = refl
mirrored_mode (suc (suc (suc zero))) false l = refl
mirrored_mode (suc (suc (suc (suc d)))) s l = absurd (omega arith)

-- an answer with its sign bit inverted
abbrev negation : Binary64Result → Binary64Result
negation x = record { pattern = negated x.pattern; flags = x.flags }

negated_bit : (s : Bool) (n : ℕ) → n < 2 ^ 63 → negated (sign_bit s + n) ≡ sign_bit (not s) + n
negated_bit true n h = omega arith
negated_bit false n h = omega arith

over_negated : (z s : Bool) → negated (sign_bit s + cond z largest_finite infinity) ≡ sign_bit (not s) + cond z largest_finite infinity
over_negated true s = negated_bit s largest_finite (omega arith)
over_negated false s = negated_bit s infinity (omega arith)

negated_rounded : {mode : Mode} (s : Bool) {scale : ℕ → ℕ → ℕ} {m : ℕ} {x : Binary64Result} → Rounded mode s scale m x → Rounded mode (not s) scale m (negation x)
negated_rounded {mode} s {x = x} u = record {
  e = u.e;
  K = u.K;
  exponent = u.exponent;
  rounded = u.rounded;
  over = λ h. ap negation (u.over h) ∙ ap overflowing (over_negated (points_to_zero mode) s);
  word = λ h. negated_word x.pattern;
  value = λ h. negated_magnitude x.pattern ∙ u.value h;
  sign = λ h. negated_sign x.pattern (u.word h) ∙ ap not (u.sign h);
  finite = λ h. rw (negated_field x.pattern) (u.finite h);
  flags = u.flags;
}
  where
    overflowing : ℕ → Binary64Result
    overflowing p = record { pattern = p; flags = inexact_flag + overflow_flag }

-- ---- the answers
bit_neg : (s : Bool) (n : ℕ) → n < 2 ^ 63 → value_of (sign_bit (not s) + n) ≡ neg (value_of (sign_bit s + n))
bit_neg s n h = ap value_of (sym (negated_bit s n h)) ∙ negated_neg (sign_bit s + n) (fits s)
  where
    fits : (s : Bool) → sign_bit s + n < 2 ^ 64
    fits true = omega arith
    fits false = omega arith

quiet_neg : value_of quiet_nan ≡ neg (value_of quiet_nan)
unfolding of_bits neg
quiet_neg = refl

zero_neg : (s : Bool) → value_of (sign_bit (not s)) ≡ neg (value_of (sign_bit s))
zero_neg true = bit_neg true 0 (omega arith)
zero_neg false = bit_neg false 0 (omega arith)

-- operands of the same magnitudes and classes, whose quotient has the other sign
record Negated (a b a' b' : ℕ) : Type 0 where
  dividend : class_of a' ≡ class_of a
  divisor : class_of b' ≡ class_of b
  over : magnitude a' ≡ magnitude a
  under : magnitude b' ≡ magnitude b
  signals : nan_flags a' b' ≡ nan_flags a b
  sign : sign_of a' b' ≡ not (sign_of a b)

module _ (d a b a' b' : ℕ) (l : d ≤ 3) (o : Negated a b a' b') {x y : Binary64Result} (u : Ieee d a' b' x) (v : Ieee (mirrored d) a b y) where
  quotients : FiniteNonzero a → FiniteNonzero b → Opposite (binary64_values x) (binary64_values y)
  quotients h k =
      let s = sign_of a b in
      let w : RoundedQuotient d (not s) (magnitude a) (magnitude b) x = rw (o.over, o.under, o.sign) at (u.quotient (rw o.dividend h) (rw o.divisor k)) in
      let e = rounded_one _ (not s) (quotient_scale (magnitude b)) (quotient_increasing (magnitude b) (nonzero_operand b k).0) (quotient_place (magnitude a)) w (rw (mirrored_mode d s l) at (negated_rounded s (v.quotient h k))) in
      rw e (record { value = negated_neg y.pattern (rounded_word (v.quotient h k)); flags = refl })

  opposite : Opposite (binary64_values x) (binary64_values y)
  opposite = by_cases a b
      (λ h. rw (v.nan h, u.nan (rw (o.dividend, o.divisor) h)) (record { value = quiet_neg; flags = u.nan_flag (rw (o.dividend, o.divisor) h) ∙ o.signals ∙ sym (v.nan_flag h) }))
      (λ h. rw (v.invalid h, u.invalid (rw (o.dividend, o.divisor) h)) (record { value = quiet_neg; flags = refl }))
      (λ h k. rw (v.by_zero h k, u.by_zero (rw o.dividend h) (rw o.divisor k), o.sign) (record { value = bit_neg (sign_of a b) infinity (omega arith); flags = refl }))
      (λ h k. rw (v.infinite h k, u.infinite (rw o.dividend h) (rw o.divisor k), o.sign) (record { value = bit_neg (sign_of a b) infinity (omega arith); flags = refl }))
      (λ h. rw (v.zero h, u.zero (rw (o.dividend, o.divisor) h), o.sign) (record { value = zero_neg (sign_of a b); flags = refl }))
      quotients

left_negated : (s t : Bool) → not (Bool·beq (not s) t) ≡ not (not (Bool·beq s t))
left_negated true true = refl
left_negated true false = refl
left_negated false true = refl
left_negated false false = refl

right_negated : (s t : Bool) → not (Bool·beq s (not t)) ≡ not (not (Bool·beq s t))
right_negated true true = refl
right_negated true false = refl
right_negated false true = refl
right_negated false false = refl

module _ (d a b : ℕ) (l : d ≤ 3) {x y : Binary64Result} where
  pub dividend_negated : a < 2 ^ 64 → Ieee d (negated a) b x → Ieee (mirrored d) a b y → Opposite (binary64_values x) (binary64_values y)
  dividend_negated h =
      opposite d a b (negated a) b l
      (record { dividend = negated_class a; divisor = refl; over = negated_magnitude a; under = refl; signals = ap (λ (s : Bool). cond (s || signalling b) invalid_flag 0) (negated_signalling a); sign = ap (λ (s : Bool). not (Bool·beq s (negative b))) (negated_sign a h) ∙ left_negated (negative a) (negative b) })

  pub divisor_negated : b < 2 ^ 64 → Ieee d a (negated b) x → Ieee (mirrored d) a b y → Opposite (binary64_values x) (binary64_values y)
  divisor_negated h =
      opposite d a b a (negated b) l
      (record { dividend = refl; divisor = negated_class b; over = refl; under = negated_magnitude b; signals = ap (λ (s : Bool). cond (signalling a || s) invalid_flag 0) (negated_signalling b); sign = ap (λ (s : Bool). not (Bool·beq (negative a) s)) (negated_sign b h) ∙ right_negated (negative a) (negative b) })
