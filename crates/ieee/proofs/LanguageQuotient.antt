-- The pattern of an answer in direction 0 is that of the language's own quotient, for all patterns; so it is in every direction where an operand is zero, infinite or not a number.
use Rattle.laws.proofs.Basics.{◌≡◌, refl, sym, ap, subst, ◌∙◌, Bool, true, false, ◌⊎◌, ⊎_elim, List, ℕ, ◌*◌, ◌^◌, ◌<◌, arith, pos, eqb, eq-eqb, ne_eqb}
use native.Mathlib.Nat.{eq-zero-or-pos, eq_of_mul-eq-mul_right, mul-pos}
use lib.{Pow.{pow_pos}, Ieee.{Float, nan, inf, fin, binary64, up, down, unlike, round, div, to_bits}, Ieee.Bits.{of_bits-to_bits}, Ieee.Fits.{up_pos, down_pos, div-fits}, Ieee.Positive.{num, first_pos}}
use lib.Ieee.Scale.{round_same}
use Rattle.selection.specs.{Table.{Passes}, declared.Estimate.TheVariants.{EightBits}}
use Rattle.division.specs.declared.format.{Binary64Result.{Binary64Result}, Class.{Class}, Class.TheVariants.{Zero, Infinite, Nan}}
use Rattle.division.{specs.Format.{magnitude, class_of, sign_bit, sign_of, FiniteNonzero}, specs.Ieee.{Ieee}, specs.computed.Binary64.{binary64_of}, proofs.Classes.{by_cases, nonzero_operand}}
use Rattle.division.proofs.IeeeLaws.{ieee_through}
use Rattle.ieee.specs.{LanguageQuotient.{value_of, language_quotient}, computed.LanguageQuotient.{LanguageQuotient}}
use Rattle.ieee.proofs.{LanguageRounding.{quotient_bits}, LanguageReading.{Number, Nonzero, Reads, finite, read}}

-- ---- two finite values

-- its significand is 0 for a magnitude of 0, and else above 0
none : (m u c d : ℕ) → 0 < u * c → m * u * c ≡ 0 * d → m ≡ 0
none m u c d h e = ⊎_elim (λ (z : m ≡ 0). z) (λ (g : 0 < m). absurd (omega (arith, mul-pos g h))) (eq-zero-or-pos m)

is_none : {s : Bool} {x : Float} (p : Number s 0 x) → eqb p.m 0 ≡ true
is_none p = eq-eqb p.m 0 (none p.m (up p.e) (2 ^ 1074) (down p.e) (mul-pos (up_pos p.e) (pow_pos 1074)) p.value)

some : (m c n d : ℕ) → 0 < n → 0 < d → m * c ≡ n * d → 0 < m
some m c n d g h e = first_pos m c (omega (arith, mul-pos g h))

is_some : {s : Bool} {n : ℕ} {x : Float} (p : Number s n x) → 0 < n → 0 < p.m
is_some {n = n} p h = first_pos p.m (up p.e) (some (p.m * up p.e) (2 ^ 1074) n (down p.e) h (down_pos p.e) p.value)

-- fractions of equal value
cross : (m u d n v w a b c : ℕ) → 0 < c → m * u * c ≡ a * d → n * v * c ≡ b * w → m * u * w * b ≡ a * (n * v * d)
cross m u d n v w a b c h p q = eq_of_mul-eq-mul_right c h (m * u * w * b) (a * (n * v * d)) (omega (arith, ap (λ (z : ℕ). z * (w * b)) p, ap (λ (z : ℕ). z * (a * d)) q))

-- the logic's quotient of two numbers rounds that of their magnitudes
quotient_is : {s t : Bool} {a b : ℕ} {x y : Float} → Number s a x → Number t b y → 0 < b → div binary64 x y ≡ round binary64 (unlike s t) a b
unfolding div
quotient_is {s} {t} {a} {b} p q h =
    let n = is_some q h in
    rw (p.is, q.is, ne_eqb q.m 0 (omega arith))
    (round_same binary64 (unlike s t) (p.m * up p.e * down q.e) (q.m * up q.e * down p.e) a b (mul-pos (mul-pos n (up_pos q.e)) (down_pos p.e)) h
    (cross p.m (up p.e) (down p.e) q.m (up q.e) (down q.e) a b (2 ^ 1074) (pow_pos 1074) p.value q.value))

zero_bits : (s : Bool) → to_bits binary64 (fin s 0 (pos 0)) ≡ sign_bit s
unfolding to_bits
zero_bits true = refl
zero_bits false = refl

round_zero : (s : Bool) → to_bits binary64 (round binary64 s 0 1) ≡ sign_bit s
unfolding round to_bits
round_zero true = refl
round_zero false = refl

zero_is : {s t : Bool} {b : ℕ} {x y : Float} → Number s 0 x → Number t b y → 0 < b → to_bits binary64 (div binary64 x y) ≡ sign_bit (unlike s t)
zero_is {s} {t} {b} p q h = ap (to_bits binary64) (quotient_is p q h ∙ round_same binary64 (unlike s t) 0 b 0 1 h (omega arith) (omega arith)) ∙ round_zero (unlike s t)

over_nan : (x : Float) → div binary64 x nan ≡ nan
unfolding div
over_nan nan = refl
over_nan (inf s) = refl
over_nan (fin s m e) = refl

-- ---- all patterns, by their classes
class_read : (p : ℕ) (k : Class) → class_of p ≡ k → Reads p k (value_of p)
class_read p k e = subst (λ (k : Class). Reads p k (value_of p)) e (read p)

-- a finite number other than zero is so for the logic
pub number_of : (p : ℕ) → FiniteNonzero p → Nonzero p (value_of p)
number_of p h = let o = nonzero_operand p h in (finite p o.1, o.0)

-- the classes decide all but the quotient of two finite numbers other than zero
by_class : (direction a b : ℕ) {x : Binary64Result} → Ieee direction a b x → (FiniteNonzero a → FiniteNonzero b → x.pattern ≡ language_quotient a b) → x.pattern ≡ language_quotient a b
unfolding div to_bits
by_class direction a b u = by_cases a b
    (λ c. rw (u.nan c) (⊎_elim (λ e. rw (class_read a Nan e)) (λ f. rw (class_read b Nan f, over_nan)) c))
    (λ c. rw (u.invalid c) (⊎_elim
    (λ z. let p = class_read a Zero z.0 in let q = class_read b Zero z.1 in rw (p.is, q.is, is_none p, is_none q))
    (λ z. rw (class_read a Infinite z.0, class_read b Infinite z.1))
    c))
    (λ h f. let p = number_of a h in let q = class_read b Zero f in let m = is_some p.0 p.1 in rw (u.by_zero h f, p.0.is, q.is, is_none q, ne_eqb p.0.m 0 (omega arith)))
    (λ e h. rw (u.infinite e h, class_read a Infinite e) (⊎_elim (λ f. rw (class_read b Zero f).is) (λ f. rw (number_of b f).0.is) h))
    (λ c. rw (u.zero c) (⊎_elim
    (λ z. let q = number_of b z.1 in sym (zero_is (class_read a Zero z.0) q.0 q.1))
    (λ z. rw (class_read b Infinite z.1) (let o = sym (zero_bits (sign_of a b)) in ⊎_elim (λ e. rw (class_read a Zero e).is o) (λ e. rw (number_of a e).0.is o) z.0))
    c))

pub counted : (p : ℕ) → FiniteNonzero p → 0 < num (value_of p)
counted p h = let n = number_of p h in rw n.0.is (mul-pos (is_some n.0 n.1) (up_pos n.0.e))

pub nearest_quotient : (a b : ℕ) {x : Binary64Result} → Ieee 0 a b x → x.pattern ≡ language_quotient a b
nearest_quotient a b u = by_class 0 a b u (λ h k.
    let p = number_of a h in
    let q = number_of b k in
    quotient_bits (sign_of a b) (magnitude a) (magnitude b) q.1 (u.quotient h k) ∙ sym (ap (to_bits binary64) (quotient_is p.0 q.0 q.1)))

-- `num` is 0 for a zero, an infinity and a not-a-number
pub special_quotient : (direction a b : ℕ) {x : Binary64Result} → Ieee direction a b x → (num (value_of a) ≡ 0) ⊎ (num (value_of b) ≡ 0) → x.pattern ≡ language_quotient a b
special_quotient direction a b u z = by_class direction a b u (λ h k.
    absurd (⊎_elim (λ (e : num (value_of a) ≡ 0). omega (arith, counted a h)) (λ (e : num (value_of b) ≡ 0). omega (arith, counted b k)) z))

-- ---- and so through every table that passes
-- § 9.6 To nearest, the answer is the language's own quotient.
pub language_quotient_law : (t : List ℕ) → Passes EightBits t → LanguageQuotient t
language_quotient_law t p =
    let nearest : (a b : ℕ) → (binary64_of t 0 a b).pattern ≡ language_quotient a b = λ a b. nearest_quotient a b (ieee_through t p 0 a b (omega arith)) in
    record {
      nearest = nearest;
      values = λ x y h k. let i = of_bits-to_bits binary64 x h in let j = of_bits-to_bits binary64 y k in
          ap value_of (nearest (to_bits binary64 x) (to_bits binary64 y)) ∙ rw (i, j) (of_bits-to_bits binary64 (div binary64 x y) (div-fits binary64 x y));
    }
