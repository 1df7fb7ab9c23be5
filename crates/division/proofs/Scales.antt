-- The scale of an exact magnitude: the exponent that the definition finds is the largest, and there is one; so are the whole units, and they have 53 bits.
use Rattle.laws.proofs.{Basics.{◌≡◌, sym, ap, ⊎_elim, ℕ, zero, suc, min, ◌+◌, ◌*◌, ◌^◌, ◌≤◌, ◌<◌, arith, le-leb, lt-leb}, Comparisons.{not_below, not_most}, Division.{le_or_lt}}
use Rattle.std.proofs.Common.{le_trans, le_of_eq, le_refl, eq-or-lt_of_le, pow-suc}
use Rattle.division.proofs.{Binary64Names.{IsExponent, largest, greatest}, Nearest.{mono}}

-- half a unit taken more often lies further, from 0 on, and at the next exponent it is twice as much
pub record Increasing (scale : ℕ → ℕ → ℕ) : Type 0 where
  pub none : (e : ℕ) → scale e 0 ≡ 0
  pub up : (e i j : ℕ) → i < j → scale e i < scale e j
  pub double : (e j : ℕ) → scale (suc e) j ≡ scale e (2 * j)

-- ---- the greatest number that lies at m or before

module _ (f : ℕ → ℕ) (up : (i j : ℕ) → i < j → f i < f j) (m : ℕ) where
  pub greatest_meets : (n k : ℕ) → f k ≤ m → m < f (k + 2 ^ n) → (f (greatest n f m k) ≤ m) × (m < f (greatest n f m k + 1))
  unfolding greatest
  greatest_meets zero k l h = (l, h)
  greatest_meets (suc n) k l h = ⊎_elim
      (λ (g : f (k + 2 ^ n) ≤ m).
      let e : k + 2 ^ suc n ≡ k + 2 ^ n + 2 ^ n = omega (arith, pow-suc 2 n) in
      rw (le-leb _ _ g, greatest) (greatest_meets n (k + 2 ^ n) g (rw e at h)))
      (λ (g : m < f (k + 2 ^ n)). rw (lt-leb _ _ g, greatest) (greatest_meets n k l g))
      (le_or_lt (f (k + 2 ^ n)) m)

  least : (i j : ℕ) → f i ≤ m → m < f (j + 1) → i ≤ j
  least i j l h = not_below (λ g. omega (arith, mono f up (j + 1) i (omega arith)))

  -- there is one
  pub greatest_one : (i j : ℕ) → f i ≤ m → m < f (i + 1) → f j ≤ m → m < f (j + 1) → i ≡ j
  greatest_one i j l h l' h' = omega (arith, least i j l h', least j i l' h)

module _ (scale : ℕ → ℕ → ℕ) (inc : Increasing scale) where
  -- order of the scale at one exponent
  pub order : (e i j : ℕ) → i ≤ j → scale e i ≤ scale e j
  order e = mono (scale e) (inc.up e)

  -- the spans of two exponents do not overlap
  pub beside : (d e : ℕ) → d < e → scale d (2 ^ 54) ≤ scale e (2 ^ 53)
  beside d zero h = absurd (omega arith)
  beside d (suc e) h = ⊎_elim
      (λ (g : e ≤ d). let z : d ≡ e = omega arith in rw z (le_of_eq (sym (inc.double e (2 ^ 53)))))
      (λ (g : d < e). le_trans (beside d e g) (le_trans (order e (2 ^ 53) (2 ^ 54) (omega arith)) (le_of_eq (sym (inc.double e (2 ^ 53))))))
      (le_or_lt e d)

  -- and a greater exponent reaches further
  pub further : (d e : ℕ) → d ≤ e → scale d (2 ^ 54) ≤ scale e (2 ^ 54)
  further d e h = ⊎_elim
      (λ (z : d ≡ e). le_of_eq (ap (λ (n : ℕ). scale n (2 ^ 54)) z))
      (λ (g : d < e). le_trans (beside d e g) (order e (2 ^ 53) (2 ^ 54) (omega arith)))
      (eq-or-lt_of_le h)

  -- a greater magnitude has no smaller exponent
  pub exponent_mono : (m n d e : ℕ) → m ≤ n → IsExponent scale m d → IsExponent scale n e → d ≤ e
  exponent_mono m n d e h x y = not_below (λ g. omega (arith, y.beyond, beside e d g, x.reached (omega arith)))

  module _ (m : ℕ) where
    pub largest_meets : (d : ℕ) → m < scale d (2 ^ 54) → IsExponent scale m (largest d scale m)
    unfolding largest
    largest_meets zero h = record { reached = λ p. absurd (omega arith); beyond = h }
    largest_meets (suc d) h = ⊎_elim
        (λ (g : scale (suc d) (2 ^ 53) ≤ m). rw (le-leb _ _ g, largest) (record { reached = λ p. g; beyond = h }))
        (λ (g : m < scale (suc d) (2 ^ 53)). rw (lt-leb _ _ g, largest) (largest_meets d (rw (inc.double d (2 ^ 53)) at g)))
        (le_or_lt (scale (suc d) (2 ^ 53)) m)

    -- there is one
    -- § 9.6 E is the greatest whole number with 2^E ≤ abs(a/b), at least −1022.
    pub exponent_one : (d e : ℕ) → IsExponent scale m d → IsExponent scale m e → d ≡ e
    exponent_one d e x y = omega (arith, exponent_mono m m d e (le_refl m) x y, exponent_mono m m e d (le_refl m) y x)

    -- the whole units at that exponent: fewer than 2^53, and 2^52 or more where it is not 0
    module _ (e k : ℕ) (is : IsExponent scale m e) (low : scale e (2 * k) ≤ m) (high : m < scale e (2 * k + 2)) where
      pub units_high : k < 2 ^ 53
      units_high = not_most (λ (g : 2 ^ 53 ≤ k). omega (arith, is.beyond, order e (2 ^ 54) (2 * k) (omega arith)))

      pub units_low : 2 ^ 52 * min 1 e ≤ k
      units_low = not_below (λ (g : k < 2 ^ 52 * min 1 e). omega (arith, is.reached (omega arith), order e (2 * k + 2) (2 ^ 53) (omega arith)))
