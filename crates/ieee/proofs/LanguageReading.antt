-- What the logic reads from a pattern (`of_bits` of lib.Ieee) is what the specification's class, sign and magnitude say.
use Rattle.laws.proofs.{Basics.{◌≡◌, refl, sym, ap, subst, ◌∙◌, Bool, cond, inl, inr, ⊎_elim, ℕ, zero, suc, ◌+◌, ◌-◌, ◌*◌, ◌^◌, ◌≤◌, ◌<◌, arith, ℤ, eqb, ne_eqb, lt-ltb, le-ltb}, Division.{le_or_lt}}
use native.Mathlib.Nat.{eq-zero-or-pos, mul-one}
use lib.Pow as Pow
use lib.{Ieee.{Float, nan, inf, fin, binary64, up, down, of_fields, of_bits}, Ieee.Exact.{HasValue, odd_sign}}
use Rattle.division.specs.{declared.format.Class.{Class}, declared.format.Class.TheVariants.{Zero, Subnormal, Normal, Infinite, Nan}, Format.{negative, field, fraction, magnitude, class_of}}
use Rattle.division.proofs.Classes.{nonzero_operand}

-- a finite value with the sign s, of n units of 2^-1074
pub record Number (s : Bool) (n : ℕ) (x : Float) : Type 0 where
  pub m : ℕ
  pub e : ℤ
  pub is : x ≡ fin s m e
  pub value : m * up e * 2 ^ 1074 ≡ n * down e

-- the logic's word for it
pub number : (x : Float) (s : Bool) (n : ℕ) → HasValue x s n (2 ^ 1074) → Number s n x
number nan s n h = absurd h
number (inf t) s n h = absurd h
number (fin t m e) s n h = record { m = m; e = e; is = ap (λ (z : Bool). fin z m e) h.0; value = h.1 }

abbrev pub Nonzero : ℕ → Float → Type 0
Nonzero p x = Number (negative p) (magnitude p) x × (0 < magnitude p)

-- what is read from a pattern of a class
abbrev pub Reads : ℕ → Class → Float → Type 0
Reads p Zero x = Number (negative p) 0 x
Reads p Subnormal x = Nonzero p x
Reads p Normal x = Nonzero p x
Reads p Infinite x = x ≡ inf (negative p)
Reads p Nan x = x ≡ nan

pub by_fields : (p : ℕ) → of_bits binary64 p ≡ of_fields binary64 (negative p) (field p) (fraction p)
unfolding of_bits
by_fields p = ap (λ (x : ℕ). of_fields binary64 (negative p) x (fraction p)) (Pow.field p 11 52)

fields_value : (s : Bool) (x t : ℕ) → x < 2047 → HasValue (of_fields binary64 s x t) s (cond (eqb x 0) t ((2 ^ 52 + t) * 2 ^ (x - 1))) (2 ^ 1074)
unfolding of_fields
fields_value s zero t h = rw mul-one at (odd_sign 53 s t 0 1074)
fields_value s (suc x) t h =
    let d : suc x - 1 ≡ x = omega arith in
    rw (ne_eqb (suc x) 0 (omega arith), ne_eqb (suc x) 2047 (omega arith), d) (odd_sign 53 s (2 ^ 52 + t) x 1074)

fields_infinite : (s : Bool) (t : ℕ) → of_fields binary64 s 2047 t ≡ cond (eqb t 0) (inf s) nan
unfolding of_fields
fields_infinite s t = refl

pub finite : (p : ℕ) → field p < 2047 → Number (negative p) (magnitude p) (of_bits binary64 p)
finite p h = rw (by_fields p) (number _ _ _ (fields_value (negative p) (field p) (fraction p) h))

pub infinite : (p : ℕ) → 2047 ≤ field p → of_bits binary64 p ≡ cond (eqb (fraction p) 0) (inf (negative p)) nan
infinite p h = let f : field p ≡ 2047 = omega arith in by_fields p ∙ rw f (fields_infinite (negative p) (fraction p))

pub read : (p : ℕ) → Reads p (class_of p) (of_bits binary64 p)
read p = ⊎_elim
    (λ (f : field p ≡ 0). ⊎_elim
    (λ (g : fraction p ≡ 0). under Zero (rw (f, g)) (subst (λ (n : ℕ). Number (negative p) n (of_bits binary64 p)) (rw (f, g)) (finite p (omega arith))))
    (λ (g : 0 < fraction p). let c : class_of p ≡ Subnormal = rw (f, ne_eqb (fraction p) 0 (omega arith)) in under Subnormal c (finite p (omega arith), (nonzero_operand p (inl c)).0))
    (eq-zero-or-pos (fraction p)))
    (λ (f : 0 < field p). ⊎_elim
    (λ (g : 2047 ≤ field p). ⊎_elim
    (λ (h : fraction p ≡ 0). under Infinite (rw (ne_eqb (field p) 0 (omega arith), le-ltb (field p) 2047 g, h)) (infinite p g ∙ rw h))
    (λ (h : 0 < fraction p). under Nan (rw (ne_eqb (field p) 0 (omega arith), le-ltb (field p) 2047 g, ne_eqb (fraction p) 0 (omega arith))) (infinite p g ∙ rw (ne_eqb (fraction p) 0 (omega arith))))
    (eq-zero-or-pos (fraction p)))
    (λ (g : field p < 2047). let c : class_of p ≡ Normal = rw (ne_eqb (field p) 0 (omega arith), lt-ltb (field p) 2047 g) in under Normal c (finite p g, (nonzero_operand p (inr c)).0))
    (le_or_lt 2047 (field p)))
    (eq-zero-or-pos (field p))
  where
    under : (k : Class) → class_of p ≡ k → Reads p k (of_bits binary64 p) → Reads p (class_of p) (of_bits binary64 p)
    under k c r = subst (λ (k : Class). Reads p k (of_bits binary64 p)) (sym c) r
