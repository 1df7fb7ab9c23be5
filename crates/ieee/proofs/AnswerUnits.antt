-- A rounded magnitude as the logic reads it: its sign, and how many units of 2^-1074 it has, an infinity 2^2098. It is stated for every scale.
use Rattle.laws.proofs.{Basics.{◌≡◌, refl, subst, Bool, true, false, cond, ⊎_elim, ℕ, suc, ◌+◌, ◌*◌, ◌^◌, ◌≤◌, ◌<◌, zero-le, arith, T, leb, le-leb, lt-leb}, Division.{le_or_lt}}
use native.Mathlib.Nat.{eq-or-lt_of_le, le_refl, le_of_eq, le_of_lt, mul-le-mul_right, pow-suc}
use lib.{Pow.{pow_pos, pow_mono}, Ieee.{Float, nan, inf, fin, of_bits, le}}
use Rattle.division.specs.{declared.format.Binary64Result.{Binary64Result}, Format.{sign_bit, infinity, largest_finite}, declared.rounding.Mode.{Mode}, Rounding.{Rounds, points_to_zero}}
use Rattle.division.{specs.Rounded.{Rounded}, proofs.Nearest.{rounds_mono, rounds_exact}, proofs.Scales.{Increasing, exponent_mono}}
use Rattle.ieee.specs.{LanguageQuotient.{value_of}, Directions.{sign_in}}
use Rattle.ieee.proofs.{LanguageOrder.{SignedLe, negated_if, signed_negated, stands_le}, Operands.{Is, top, top_below, magnitude_top, finite_stands}}

pub is_le : (x y : Float) (s t : Bool) (a b : ℕ) → Is x s a → Is y t b → SignedLe s a t b → T (le x y)
is_le = stands_le (2 ^ 1074) (2 ^ 2098) (pow_pos 1074) (pow_pos 2098)

-- x ≤ y, and where r is true y ≤ x
abbrev pub Before : Bool → Float → Float → Type 0
Before true x y = T (le y x)
Before false x y = T (le x y)

pub before : (r s t : Bool) (x y : Float) (a b : ℕ) → Is x s a → Is y t b → SignedLe (negated_if r s) a (negated_if r t) b → Before r x y
before true s t x y a b w v h = is_le y x t s b a v w ((signed_negated t b s a).1 h)
before false s t x y a b w v h = is_le x y s t a b w v h

-- an infinity lies beyond all
is_most : (x : Float) (s : Bool) (n : ℕ) → Is x s n → n ≤ 2 ^ 2098
is_most nan s n w = absurd w
is_most (inf t) s n w = le_of_eq w.1
is_most (fin t m e) s n w = le_of_lt w.2

lowest : (s t : Bool) (n M : ℕ) → T s → n ≤ M → SignedLe s M t n
lowest true true n M h l = l
lowest true false n M h l = zero-le
lowest false t n M h l = absurd h

pub infinity_before : (r s t : Bool) (n : ℕ) (x : Float) → Is x t n → T (negated_if r s) → Before r (inf s) x
infinity_before r s t n x w h = before r s t (inf s) x (2 ^ 2098) n (refl, refl) w (lowest (negated_if r s) (negated_if r t) n (2 ^ 2098) h (is_most x t n w))

pub is_sign : (x : Float) (s : Bool) (n : ℕ) → Is x s n → sign_in x ≡ s
is_sign nan s n w = absurd w
is_sign (inf t) s n w = w.0
is_sign (fin t m e) s n w = w.0

-- ---- units of two exponents, p and q their powers: 2^53 of the one are no more than 2^52 of the other
pub coarser : (K L p q : ℕ) → K * p ≤ 2 ^ 53 * p → 2 ^ 52 * q ≤ L * q → p * 2 ≤ q → K * p ≤ L * q
coarser K L p q i j k = omega arith

pub doubled : {f e : ℕ} → f < e → 2 ^ f * 2 ≤ 2 ^ e
doubled {f} {e} g = rw (pow-suc 2 f) at (pow_mono {i = suc f} {j = e} g)

-- ---- overflow: v units, but from M on the largest finite number's t, or infinity's M
abbrev pub capped : ℕ → ℕ → Bool → ℕ → ℕ
capped M t z v = cond (leb M v) (cond z t M) v

capped_mono : (M t : ℕ) → t ≤ M → (z : Bool) (v w : ℕ) → (v < M → v ≤ t) → v ≤ w → capped M t z v ≤ capped M t z w
capped_mono M t l z v w small h = ⊎_elim
    (λ (g : M ≤ v). rw (le-leb M v g, le-leb M w (omega arith)) (le_refl _))
    (λ (g : v < M). ⊎_elim
    (λ (k : M ≤ w). rw (lt-leb M v g, le-leb M w k) (end z (small g) g))
    (λ (k : w < M). rw (lt-leb M v g, lt-leb M w k) h)
    (le_or_lt M w))
    (le_or_lt M v)
  where
    end : (z : Bool) → v ≤ t → v < M → v ≤ cond z t M
    end true g k = g
    end false g k = omega arith

-- ---- the answer

-- v units, or what overflow gives
abbrev pub answered : Mode → ℕ → ℕ
answered mode v = capped (2 ^ 2098) top (points_to_zero mode) v

overflow_stands : (z s : Bool) → Is (value_of (sign_bit s + cond z largest_finite infinity)) s (cond z top (2 ^ 2098))
unfolding of_bits
overflow_stands true true = (refl, refl, top_below)
overflow_stands true false = (refl, refl, top_below)
overflow_stands false true = (refl, refl)
overflow_stands false false = (refl, refl)

overflow_word : (z s : Bool) → sign_bit s + cond z largest_finite infinity < 2 ^ 64
overflow_word true true = omega arith
overflow_word true false = omega arith
overflow_word false true = omega arith
overflow_word false false = omega arith

module _ {mode : Mode} {s : Bool} {scale : ℕ → ℕ → ℕ} {m : ℕ} {x : Binary64Result} (u : Rounded mode s scale m x) where
  pub rounded_stands : Is (value_of x.pattern) s (answered mode (u.K * 2 ^ u.e))
  rounded_stands = ⊎_elim
      (λ (h : 2 ^ 2098 ≤ u.K * 2 ^ u.e). rw (u.over h, le-leb _ _ h) (overflow_stands (points_to_zero mode) s))
      (λ (h : u.K * 2 ^ u.e < 2 ^ 2098). rw (lt-leb _ _ h, ← u.sign h, ← u.value h) (finite_stands x.pattern (u.finite h)))
      (le_or_lt (2 ^ 2098) (u.K * 2 ^ u.e))

  pub rounded_word : x.pattern < 2 ^ 64
  rounded_word = ⊎_elim (λ (h : 2 ^ 2098 ≤ u.K * 2 ^ u.e). rw (u.over h) (overflow_word (points_to_zero mode) s)) (λ (h : u.K * 2 ^ u.e < 2 ^ 2098). u.word h) (le_or_lt (2 ^ 2098) (u.K * 2 ^ u.e))

  -- a finite one is at most the largest
  pub units_small : u.K * 2 ^ u.e < 2 ^ 2098 → u.K * 2 ^ u.e ≤ top
  units_small h = subst (λ (n : ℕ). n ≤ top) (u.value h) (magnitude_top x.pattern (u.finite h))

  -- at an exponent above 0 it has 53 bits
  pub units_wide : Increasing scale → 0 < u.e → 2 ^ 52 ≤ u.K
  units_wide inc g =
      rounds_mono (scale u.e) (inc.up u.e) mode (scale u.e (2 ^ 53)) m (2 ^ 52) u.K (u.exponent.reached g)
      (rounds_exact (scale u.e) (inc.up u.e) mode (2 ^ 52)) u.rounded

  -- and it has no more than 2^53
  units_most : Increasing scale → u.K ≤ 2 ^ 53
  units_most inc =
      rounds_mono (scale u.e) (inc.up u.e) mode m (scale u.e (2 ^ 54)) u.K (2 ^ 53) (le_of_lt u.exponent.beyond)
      u.rounded (rounds_exact (scale u.e) (inc.up u.e) mode (2 ^ 53))

-- with one direction and one sign, a greater magnitude has no fewer units
pub units_mono : {d : Mode} {s : Bool} (scale : ℕ → ℕ → ℕ) (inc : Increasing scale) (m n : ℕ) {x y : Binary64Result} → m ≤ n → (u : Rounded d s scale m x) (v : Rounded d s scale n y)
    → answered d (u.K * 2 ^ u.e) ≤ answered d (v.K * 2 ^ v.e)
units_mono {d} {s} scale inc m n h u v =
    capped_mono (2 ^ 2098) top (le_of_lt top_below) (points_to_zero d) (u.K * 2 ^ u.e) (v.K * 2 ^ v.e) (units_small u)
    (⊎_elim
    (λ (z : u.e ≡ v.e). rw z (mul-le-mul_right (2 ^ v.e)
    (rounds_mono (scale v.e) (inc.up v.e) d m n u.K v.K h (subst (λ (e : ℕ). Rounds d (scale e) m u.K) z u.rounded) v.rounded)))
    (λ (g : u.e < v.e). coarser u.K v.K (2 ^ u.e) (2 ^ v.e) (mul-le-mul_right (2 ^ u.e) (units_most u inc)) (mul-le-mul_right (2 ^ v.e) (units_wide v inc (omega arith))) (doubled g))
    (eq-or-lt_of_le (exponent_mono scale inc m n u.e v.e h u.exponent v.exponent)))
