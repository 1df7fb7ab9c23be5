-- Classes, signs and magnitudes of operands, from what the logic reads.
use Rattle.laws.proofs.Basics.{◌≡◌, refl, sym, ap, Bool, inl, inr, ⊎_elim, ℕ, ◌*◌, ◌^◌, ◌<◌, arith, T}
use lib.{Ieee.{inf}, Ieee.Scale.{finite}, Ieee.Positive.{num, den}}
use Rattle.division.specs.{Format.{negative, magnitude, class_of, FiniteNonzero, IsFinite}, declared.format.Class.{Class}, declared.format.Class.TheVariants.{Zero, Subnormal, Normal, Infinite, Nan}}
use Rattle.ieee.specs.{LanguageQuotient.{value_of}, Directions.{sign_in}}
use Rattle.ieee.proofs.{LanguageReading.{Reads, read}, LanguageQuotient.{counted}, Operands.{class_of_law, Seen, seen, seen_some}}

pub infinite_class : (p : ℕ) (s : Bool) → value_of p ≡ inf s → (class_of p ≡ Infinite) × (negative p ≡ s)
infinite_class p s e = go (class_of p) refl (read p)
  where
    go : (k : Class) → class_of p ≡ k → Reads p k (value_of p) → (class_of p ≡ Infinite) × (negative p ≡ s)
    go Zero c r = (cc, cc)
    go Subnormal c r = (cc, cc)
    go Normal c r = (cc, cc)
    go Infinite c r = (c, cc)
    go Nan c r = (cc, cc)

pub zero_class : (p : ℕ) → T (finite (value_of p)) → num (value_of p) ≡ 0 → class_of p ≡ Zero
zero_class p h z = ⊎_elim (λ k. k.0) (λ k. absurd (omega (arith, counted p k.0))) (class_of_law p (seen p h).below)

pub nonzero_class : (p : ℕ) → 0 < num (value_of p) → FiniteNonzero p
nonzero_class p h = let s = seen_some p h in ⊎_elim (λ k. absurd (omega (arith, k.1, s.1))) (λ k. k.0) (class_of_law p s.0.below)

pub finite_class : (p : ℕ) → T (finite (value_of p)) → IsFinite p
finite_class p h = ⊎_elim (λ k. inl k.0) (λ k. inr k.0) (class_of_law p (seen p h).below)

pub sign_seen_of : (p : ℕ) → Seen p → negative p ≡ sign_in (value_of p)
sign_seen_of p s = sym (ap sign_in s.number.is)

pub sign_read : (p : ℕ) → 0 < num (value_of p) → negative p ≡ sign_in (value_of p)
sign_read p h = sign_seen_of p (seen_some p h).0

-- the magnitude as a fraction
pub measured : (p : ℕ) → Seen p → num (value_of p) * 2 ^ 1074 ≡ magnitude p * den (value_of p)
measured p s = let n = s.number in rw n.is n.value
