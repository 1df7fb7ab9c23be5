-- The order of values in the logic's account of IEEE 754 (`le` of lib.Ieee), told by signs and whole numbers of units.
use Rattle.laws.proofs.{Basics.{◌≡◌, sym, ap, subst, Bool, true, false, not, ◌&&◌, ⊎_elim, ◌↔◌, ℕ, ◌+◌, ◌*◌, ◌≤◌, ◌<◌, arith, ℤ, T, eqb, eqb→eq, lt-ltb, le-ltb, eq-eqb, ne_eqb}, Division.{le_or_lt}}
use native.Mathlib.Nat.{eq-or-lt_of_le, eq-zero-or-pos, mul-pos, mul-le-mul_right, le_of_mul-le-mul_right}
use lib.{Ieee.{Float, nan, inf, fin, up, down, le}, Ieee.Fits.{down_pos}, Ieee.Scale.{finite}}
use Rattle.ieee.specs.Directions.{at_most}

pub both : (x y : Bool) → T (x && y) → T x × T y
both true y t = (tt, t)
both false y t = absurd t

-- ±a ≤ ±b; true is a negative sign
abbrev pub SignedLe : Bool → ℕ → Bool → ℕ → Type 0
SignedLe false a false b = a ≤ b
SignedLe false a true b = a + b ≤ 0
SignedLe true a false b = 0 ≤ a + b
SignedLe true a true b = b ≤ a

-- upward, where r is true, it is the order with both signs negated
abbrev pub negated_if : Bool → Bool → Bool
negated_if true s = not s
negated_if false s = s

pub signed_negated : (s : Bool) (a : ℕ) (t : Bool) (b : ℕ) → SignedLe s a t b ↔ SignedLe (not t) b (not s) a
signed_negated false a false b = (λ h. h, λ h. h)
signed_negated false a true b = (λ h. omega arith, λ h. omega arith)
signed_negated true a false b = (λ h. omega arith, λ h. omega arith)
signed_negated true a true b = (λ h. h, λ h. h)

-- the logic's word for it
pub signed_at_most : (s : Bool) (a : ℕ) (t : Bool) (b : ℕ) → SignedLe s a t b → T (at_most s a t b)
signed_at_most false a false b h = ⊎_elim (λ (e : a ≡ b). rw (eq-eqb a b e, le-ltb a b (omega arith)) tt) (λ (g : a < b). rw (lt-ltb a b g) tt) (eq-or-lt_of_le h)
signed_at_most false a true b h = rw (eq-eqb a b (omega arith), eq-eqb a 0 (omega arith)) tt
signed_at_most true a false b h = ⊎_elim
    (λ (e : a + b ≡ 0). rw (le-ltb 0 (a + b) (omega arith), eq-eqb a b (omega arith), eq-eqb a 0 (omega arith)) tt)
    (λ (g : 0 < a + b). rw (lt-ltb 0 (a + b) g) tt)
    (eq-zero-or-pos (a + b))
signed_at_most true a true b h = ⊎_elim (λ (e : b ≡ a). rw (eq-eqb a b (sym e), le-ltb b a (omega arith)) tt) (λ (g : b < a). rw (lt-ltb b a g) tt) (eq-or-lt_of_le h)

pub at_most_signed : (s : Bool) (a : ℕ) (t : Bool) (b : ℕ) → T (at_most s a t b) → SignedLe s a t b
at_most_signed false a false b h = ⊎_elim (λ (g : a ≤ b). g) (λ (g : b < a). absurd (rw (le-ltb a b (omega arith), ne_eqb a b (omega arith)) at h)) (le_or_lt a b)
at_most_signed false a true b h = let k = both (eqb a b) (eqb a 0) h in omega (arith, eqb→eq a b k.0, eqb→eq a 0 k.1)
at_most_signed true a false b h = omega arith
at_most_signed true a true b h = ⊎_elim (λ (g : b ≤ a). g) (λ (g : a < b). absurd (rw (le-ltb b a (omega arith), ne_eqb a b (omega arith)) at h)) (le_or_lt b a)

-- both sides taken k times
signed_times : (s : Bool) (a : ℕ) (t : Bool) (b k : ℕ) → SignedLe s a t b → SignedLe s (a * k) t (b * k)
signed_times false a false b k h = mul-le-mul_right k h
signed_times false a true b k h = let p : a ≡ 0 = omega arith in let q : b ≡ 0 = omega arith in rw (p, q) (omega arith)
signed_times true a false b k h = omega arith
signed_times true a true b k h = mul-le-mul_right k h

signed_cancel : (s : Bool) (a : ℕ) (t : Bool) (b k : ℕ) → 0 < k → SignedLe s (a * k) t (b * k) → SignedLe s a t b
signed_cancel false a false b k p h = le_of_mul-le-mul_right h p
signed_cancel false a true b k p h = omega (arith, mul-le-mul_right a p, mul-le-mul_right b p)
signed_cancel true a false b k p h = omega arith
signed_cancel true a true b k p h = le_of_mul-le-mul_right h p

-- two fractions of equal size on each side
pub rescaled : (s t : Bool) (i j i' j' k l : ℕ) → 0 < l → i * k ≡ i' * l → j * k ≡ j' * l → SignedLe s i t j → SignedLe s i' t j'
rescaled s t i j i' j' k l p e f h = signed_cancel s i' t j' l p (subst (λ (z : ℕ). SignedLe s (i' * l) t z) f (subst (λ (z : ℕ). SignedLe s z t (j * k)) e (signed_times s i t j k h)))

-- either way round
pub signed_both : (s : Bool) (m n : ℕ) → (m ≡ n) ↔ (SignedLe s m s n × SignedLe s n s m)
signed_both true m n = (λ e. (omega arith, omega arith), λ h. omega arith)
signed_both false m n = (λ e. (omega arith, omega arith), λ h. omega arith)

-- x has the sign s and n units of 1 / c; an infinity has M
abbrev pub Stands : ℕ → ℕ → Float → Bool → ℕ → Type 0
Stands c M nan s n = ⊥
Stands c M (inf t) s n = (t ≡ s) × (n ≡ M)
Stands c M (fin t m e) s n = (t ≡ s) × (m * up e * c ≡ n * down e) × (n < M)

module _ (c M : ℕ) (C : 0 < c) (P : 0 < M) where
  signs : (a b : ℕ) {s t s' t' : Bool} → s' ≡ s → t' ≡ t → SignedLe s a t b → SignedLe s' a t' b
  signs a b {s} {t} {s'} {t'} p q h = subst (λ (x : Bool). SignedLe x a t' b) (sym p) (subst (λ (y : Bool). SignedLe s a y b) (sym q) h)

  cross : (s : Bool) (m : ℕ) (e : ℤ) (a : ℕ) (t : Bool) (n : ℕ) (d : ℤ) (b : ℕ) → m * up e * c ≡ a * down e → n * up d * c ≡ b * down d
      → (SignedLe s a t b → SignedLe s (m * up e * down d) t (n * up d * down e)) × (SignedLe s (m * up e * down d) t (n * up d * down e) → SignedLe s a t b)
  cross s m e a t n d b p q =
      let k : 0 < down e * down d = mul-pos (down_pos e) (down_pos d) in
      let i : a * (down e * down d) ≡ m * up e * down d * c = omega (arith, ap (λ (z : ℕ). z * down d) p) in
      let j : b * (down e * down d) ≡ n * up d * down e * c = omega (arith, ap (λ (z : ℕ). z * down e) q) in
      (λ h. rescaled s t a b _ _ (down e * down d) c C i j h, λ h. rescaled s t _ _ a b c (down e * down d) k (sym i) (sym j) h)

  -- what the units say, the logic says
  pub stands_le : (x y : Float) (s t : Bool) (a b : ℕ) → Stands c M x s a → Stands c M y t b → SignedLe s a t b → T (le x y)
  unfolding le
  stands_le nan y s t a b p q h = absurd p
  stands_le (inf s') nan s t a b p q h = absurd q
  stands_le (inf true) (inf true) s t a b p q h = tt
  stands_le (inf true) (inf false) s t a b p q h = tt
  stands_le (inf false) (inf true) s t a b p q h = let k = signs a b p.0 q.0 h in absurd (omega arith)
  stands_le (inf false) (inf false) s t a b p q h = tt
  stands_le (inf true) (fin t' n d) s t a b p q h = tt
  stands_le (inf false) (fin true n d) s t a b p q h = let k = signs a b p.0 q.0 h in absurd (omega arith)
  stands_le (inf false) (fin false n d) s t a b p q h = let k = signs a b p.0 q.0 h in absurd (omega arith)
  stands_le (fin s' m e) nan s t a b p q h = absurd q
  stands_le (fin s' m e) (inf false) s t a b p q h = tt
  stands_le (fin true m e) (inf true) s t a b p q h = let k = signs a b p.0 q.0 h in absurd (omega arith)
  stands_le (fin false m e) (inf true) s t a b p q h = let k = signs a b p.0 q.0 h in absurd (omega arith)
  stands_le (fin s' m e) (fin t' n d) s t a b p q h = signed_at_most s' _ t' _ ((cross s' m e a t' n d b p.1 q.1).0 (signs a b p.0 q.0 h))

  -- and the other way, of finite values
  pub le_signed : (x y : Float) (s t : Bool) (a b : ℕ) → Stands c M x s a → Stands c M y t b → T (finite x) → T (finite y) → T (le x y) → SignedLe s a t b
  unfolding le
  le_signed nan y s t a b p q f g h = absurd p
  le_signed (inf s') y s t a b p q f g h = absurd f
  le_signed (fin s' m e) nan s t a b p q f g h = absurd q
  le_signed (fin s' m e) (inf t') s t a b p q f g h = absurd g
  le_signed (fin s' m e) (fin t' n d) s t a b p q f g h = signs a b (sym p.0) (sym q.0) ((cross s' m e a t' n d b p.1 q.1).1 (at_most_signed s' _ t' _ h))
