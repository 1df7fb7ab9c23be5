-- Finite operands, from what the logic reads; and an answer to a finite number over one that is not zero is their quotient rounded, the answer to a zero dividend too.
use Rattle.laws.proofs.Basics.{◌≡◌, refl, sym, subst, Bool, true, false, cond, ◌⊎◌, inl, inr, ⊎_elim, ℕ, ◌+◌, ◌-◌, ◌*◌, ◌%◌, ◌^◌, ◌≤◌, ◌<◌, arith, T, eqb, lit<, lit≤, eq-eqb, ne_eqb, lt-ltb, le-leb}
use Rattle.laws.proofs.Basics.{lt-leb}
use Rattle.laws.proofs.Division.{le_or_lt}
use native.Mathlib.Nat.{add-zero, eq-zero-or-pos, le_trans, not-le_of_lt, lt_of_le_of_lt, mul-pos, mul-le-mul, zero-mul}
use lib.{Pow.{pow_pos, pow_mono}, Ieee.{Float, nan, inf, fin, up, down, le}, Ieee.Scale.{finite}, Ieee.Positive.{num, first_pos}}
use Rattle.division.specs.declared.format.{Binary64Result.{Binary64Result}, Class.TheVariants.{Zero}}
use Rattle.division.specs.{Format.{negative, field, fraction, magnitude, class_of, sign_bit, sign_of, FiniteNonzero}, declared.rounding.Mode.{Mode}, Rounding.{mode_of, Rounds}}
use Rattle.division.{specs.Rounded.{IsExponent, Rounded}, specs.Ieee.{quotient_scale, RoundedQuotient, Ieee}, proofs.Nearest.{rounds_exact}, proofs.Scales.{Increasing, order}}
use Rattle.division.proofs.Quotient.{quotient_increasing}
use Rattle.ieee.specs.LanguageQuotient.{value_of}
use Rattle.ieee.proofs.{LanguageReading.{Number}, LanguageOrder.{SignedLe, Stands, le_signed}}
use Rattle.ieee.proofs.LanguageReading as Reading

-- a finite pattern's class, by its magnitude
pub class_of_law : (p : ℕ) → field p < 2047 → ((class_of p ≡ Zero) × (magnitude p ≡ 0)) ⊎ (FiniteNonzero p × (0 < magnitude p))
class_of_law p h = ⊎_elim
    (λ (f : field p ≡ 0). ⊎_elim
    (λ (g : fraction p ≡ 0). inl (rw (f, g), rw (f, g)))
    (λ (g : 0 < fraction p). inr (inl (rw (f, ne_eqb (fraction p) 0 (omega arith))), rw f g))
    (eq-zero-or-pos (fraction p)))
    (λ (f : 0 < field p). inr (inr (rw (ne_eqb (field p) 0 (omega arith), lt-ltb (field p) 2047 h)), rw (ne_eqb (field p) 0 (omega arith)) (mul-pos {m = 2 ^ 52 + fraction p} (omega arith) (pow_pos (field p - 1)))))
    (eq-zero-or-pos (field p))

-- a finite pattern's digits: k units of 2^(f - 1074), 53 bits of them unless f is 0
pub record Digits (p : ℕ) : Type 0 where
  pub f : ℕ
  pub k : ℕ
  pub is : magnitude p ≡ k * 2 ^ f
  pub low : 0 < f → 2 ^ 52 ≤ k
  pub high : k < 2 ^ 53

pub digits : (p : ℕ) → Digits p
digits p = ⊎_elim
    (λ (z : field p ≡ 0). record { f = 0; k = fraction p; is = rw z (omega arith); low = λ g. absurd (omega arith); high = omega arith })
    (λ (z : 0 < field p). record { f = field p - 1; k = 2 ^ 52 + fraction p; is = rw (ne_eqb (field p) 0 (omega arith)); low = λ g. omega arith; high = omega arith })
    (eq-zero-or-pos (field p))

-- the largest finite number's units
abbrev pub top : ℕ
top = (2 ^ 53 - 1) * 2 ^ 2045

pub top_below : top < 2 ^ 2098
top_below = lit< {m = top} {n = 2 ^ 2098} tt

pub magnitude_top : (p : ℕ) → field p < 2047 → magnitude p ≤ top
magnitude_top p h = ⊎_elim
    (λ (z : field p ≡ 0). rw z (le_trans {m = 2 ^ 52} (omega arith) (lit≤ {m = 2 ^ 52} {n = top} tt)))
    (λ (g : 0 < field p). rw (ne_eqb (field p) 0 (omega arith)) (mul-le-mul {n₂ = 2 ^ 53 - 1} {m₂ = 2 ^ 2045} (omega arith) (pow_mono {i = field p - 1} {j = 2045} (omega arith))))
    (eq-zero-or-pos (field p))

-- ---- what the logic reads as finite has the specification's sign and magnitude

-- x has the sign s and n units of 2^-1074, an infinity 2^2098
abbrev pub Is : Float → Bool → ℕ → Type 0
Is x s n = Stands (2 ^ 1074) (2 ^ 2098) x s n

pub record Seen (p : ℕ) : Type 0 where
  pub below : field p < 2047
  pub number : Number (negative p) (magnitude p) (value_of p)

pub seen : (p : ℕ) → T (finite (value_of p)) → Seen p
seen p h = ⊎_elim
    (λ (g : 2047 ≤ field p). absurd (none (eqb (fraction p) 0) (subst (λ (x : Float). T (finite x)) (Reading.infinite p g) h)))
    (λ (g : field p < 2047). record { below = g; number = Reading.finite p g })
    (le_or_lt 2047 (field p))
  where
    none : (b : Bool) → T (finite (cond b (inf (negative p)) nan)) → ⊥
    none true t = t
    none false t = t

pub num_finite : (x : Float) → 0 < num x → T (finite x)
num_finite nan h = absurd (omega arith)
num_finite (inf s) h = absurd (omega arith)
num_finite (fin s m e) h = tt

some_of : (n c d m : ℕ) → 0 < n → 0 < c → n * c ≡ m * d → 0 < m
some_of n c d m h k e = first_pos m d (omega (arith, mul-pos h k))

-- above zero in size, so finite
pub seen_some : (p : ℕ) → 0 < num (value_of p) → Seen p × (0 < magnitude p)
seen_some p h =
    let s = seen p (num_finite (value_of p) h) in
    let n = s.number in
    (s, some_of (n.m * up n.e) (2 ^ 1074) (down n.e) (magnitude p) (subst (λ (x : Float). 0 < num x) n.is h) (pow_pos 1074) n.value)

pub finite_stands : (p : ℕ) → field p < 2047 → Is (value_of p) (negative p) (magnitude p)
finite_stands p h =
    let n = Reading.finite p h in
    subst (λ (x : Float). Is x (negative p) (magnitude p)) (sym n.is) (refl, n.value, lt_of_le_of_lt (magnitude_top p h) top_below)

pub finite_value : (p : ℕ) → field p < 2047 → T (finite (value_of p))
finite_value p h = subst (λ (x : Float). T (finite x)) (sym (Reading.finite p h).is) tt

-- the order of finite values is that of signs and magnitudes
pub finite_le : (p q : ℕ) → field p < 2047 → field q < 2047 → T (le (value_of p) (value_of q)) → SignedLe (negative p) (magnitude p) (negative q) (magnitude q)
finite_le p q f g =
    le_signed (2 ^ 1074) (2 ^ 2098) (pow_pos 1074) (pow_pos 2098) (value_of p) (value_of q) (negative p) (negative q) (magnitude p) (magnitude q)
    (finite_stands p f) (finite_stands q g) (finite_value p f) (finite_value q g)

-- ---- the answer

-- q with the sign s
signed : (s : Bool) (q : ℕ) → (sign_bit s + q % 2 ^ 63 < 2 ^ 64) × (field (sign_bit s + q % 2 ^ 63) ≡ field q) × (fraction (sign_bit s + q % 2 ^ 63) ≡ fraction q) × (negative (sign_bit s + q % 2 ^ 63) ≡ s)
signed true q = (omega arith, omega arith, omega arith, le-leb (2 ^ 63) (2 ^ 63 + q % 2 ^ 63) (omega arith))
signed false q = (omega arith, omega arith, omega arith, lt-leb (2 ^ 63) (0 + q % 2 ^ 63) (omega arith))

-- a finite pattern is its own magnitude rounded, on every scale: m is where it lies
module _ (mode : Mode) (s : Bool) (scale : ℕ → ℕ → ℕ) (inc : Increasing scale) (m q : ℕ) (f : field q < 2047) (y : scale (digits q).f (2 * (digits q).k) ≡ m) where
  pub own_rounded : Rounded mode s scale m (record { pattern = sign_bit s + q % 2 ^ 63; flags = 0 })
  own_rounded =
      let n = digits q in
      let z = signed s q in
      record {
        e = n.f;
        K = n.k;
        exponent = subst (λ (m : ℕ). IsExponent scale m n.f) y (record {
          reached = λ g. order scale inc n.f (2 ^ 53) (2 * n.k) (omega (arith, n.low g));
          beyond = inc.up n.f (2 * n.k) (2 ^ 54) (omega (arith, n.high));
        });
        rounded = subst (λ (m : ℕ). Rounds mode (scale n.f) m n.k) y (rounds_exact (scale n.f) (inc.up n.f) mode n.k);
        over = λ g. absurd (not-le_of_lt top_below (le_trans g (subst (λ (m : ℕ). m ≤ top) n.is (magnitude_top q f))));
        word = λ g. z.0;
        value = λ g. rw (z.1, z.2) n.is;
        sign = λ g. z.3;
        finite = λ g. rw z.1 f;
        flags = λ g. rw (eq-eqb _ _ y);
      }

  pub own_kept : own_rounded.K * 2 ^ own_rounded.e ≡ magnitude q
  unfolding own_rounded
  own_kept = sym (digits q).is

-- here b times it over b
module _ (mode : Mode) (s : Bool) (b q : ℕ) (h : 0 < b) (f : field q < 2047) where
  pub exact_rounded : Rounded mode s (quotient_scale b) (2 * (magnitude q * b)) (record { pattern = sign_bit s + q % 2 ^ 63; flags = 0 })
  exact_rounded = own_rounded mode s (quotient_scale b) (quotient_increasing b h) (2 * (magnitude q * b)) q f (rw (digits q).is (omega arith))

  pub exact_kept : exact_rounded.K * 2 ^ exact_rounded.e ≡ magnitude q
  unfolding exact_rounded
  exact_kept = own_kept mode s (quotient_scale b) (quotient_increasing b h) (2 * (magnitude q * b)) q f _

module _ (direction a b : ℕ) {x : Binary64Result} (u : Ieee direction a b x) (h : T (finite (value_of a))) (k : 0 < num (value_of b)) where
  pub quotient_rounded : RoundedQuotient direction (sign_of a b) (magnitude a) (magnitude b) x
  quotient_rounded = ⊎_elim
      (λ w. absurd (omega (arith, w.1, (seen_some b k).1)))
      (λ w. ⊎_elim
      (λ v. rw (u.zero (inl (v.0, w.0)), v.1) (rw (zero-mul, add-zero) at (exact_rounded (mode_of direction (sign_of a b)) (sign_of a b) (magnitude b) 0 w.1 (omega arith))))
      (λ v. u.quotient v.0 w.0)
      (class_of_law a (seen a h).below))
      (class_of_law b (seen_some b k).0.below)
