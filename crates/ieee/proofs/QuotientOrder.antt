-- At most and at least the exact quotient, told by signs and whole numbers of units.
use Rattle.laws.proofs.Basics.{◌≡◌, refl, sym, ap, Bool, true, false, ◌↔◌, ℕ, ◌*◌, ◌^◌, ◌<◌, arith, ℤ, T}
use native.Mathlib.Nat.{mul-pos}
use lib.{Pow.{pow_pos}, Ieee.{Float, nan, inf, fin, up, down, unlike}, Ieee.Fits.{down_pos}, Ieee.Scale.{finite}, Ieee.Positive.{num, den}}
use Rattle.division.specs.Format.{negative, magnitude, sign_of}
use Rattle.ieee.specs.{LanguageQuotient.{value_of}, Directions.{quotient_sign, AtMostQuotient, AtLeastQuotient, IsQuotient}}
use Rattle.ieee.proofs.{LanguageOrder.{SignedLe, negated_if, signed_negated, signed_at_most, at_most_signed, signed_both, rescaled, Stands}, Operands.{Is, seen, seen_some}}

-- z ≤ x / y, and where r is true x / y ≤ z
abbrev pub Beside : Bool → Float → Float → Float → Type 0
Beside r nan x y = ⊥
Beside r (inf s) x y = T (negated_if r s)
Beside r (fin s m e) x y = SignedLe (negated_if r s) (m * up e * (num y * den x)) (negated_if r (quotient_sign x y)) (num x * (den y * down e))

pub at_most : (z x y : Float) → AtMostQuotient z x y ↔ Beside false z x y
at_most nan x y = (λ h. h, λ h. h)
at_most (inf s) x y = (λ h. h, λ h. h)
at_most (fin s m e) x y = (at_most_signed s _ (quotient_sign x y) _, signed_at_most s _ (quotient_sign x y) _)

pub at_least : (z x y : Float) → AtLeastQuotient z x y ↔ Beside true z x y
at_least nan x y = (λ h. h, λ h. h)
at_least (inf true) x y = (λ h. h, λ h. h)
at_least (inf false) x y = (λ h. h, λ h. h)
at_least (fin s m e) x y = let t = quotient_sign x y in (λ h. (signed_negated t _ s _).0 (at_most_signed t _ s _ h), λ h. signed_at_most t _ s _ ((signed_negated t _ s _).1 h))

pub both_finite : (x y z : Float) → IsQuotient x y z → T (finite x)
both_finite nan y z h = absurd h.0
both_finite (inf true) y z h = absurd h.1
both_finite (inf false) y z h = absurd h.0
both_finite (fin t m e) y z h = tt

-- over units of 1 / c
module _ (c M : ℕ) (C : 0 < c) where
  left : (u f n ny dx b dy : ℕ) → u * c ≡ n * f → ny * c ≡ b * dy → n * b * (f * dx * dy) ≡ u * (ny * dx) * (c * c)
  left u f n ny dx b dy p q = omega (arith, ap (λ (z : ℕ). z * (ny * c * dx)) p, ap (λ (z : ℕ). z * (n * f * dx)) q)

  right : (nx dx a f dy : ℕ) → nx * c ≡ a * dx → a * c * (f * dx * dy) ≡ nx * (dy * f) * (c * c)
  right nx dx a f dy p = omega (arith, ap (λ (z : ℕ). z * (c * f * dy)) p)

  -- a finite value with the sign t and n units against a / b
  module _ (r t sx sy : Bool) (a b n mx my : ℕ) (ex ey : ℤ) (p : mx * up ex * c ≡ a * down ex) (q : my * up ey * c ≡ b * down ey) where
    against : (x : Float) → Stands c M x t n → T (finite x) → Beside r x (fin sx mx ex) (fin sy my ey) ↔ SignedLe (negated_if r t) (n * b) (negated_if r (unlike sx sy)) (a * c)
    against nan w g = absurd w
    against (inf s) w g = absurd g
    against (fin s m e) w g =
        let t' = negated_if r t in
        let s' = negated_if r (unlike sx sy) in
        let k : 0 < down e * down ex * down ey = mul-pos (mul-pos (down_pos e) (down_pos ex)) (down_pos ey) in
        let i = left (m * up e) (down e) n (my * up ey) (down ex) b (down ey) w.1 q in
        let j = right (mx * up ex) (down ex) a (down e) (down ey) p in
        rw w.0 (rescaled t' s' _ _ (n * b) (a * c) (c * c) _ k (sym i) (sym j), rescaled t' s' (n * b) (a * c) _ _ _ (c * c) (mul-pos C C) i j)

-- of patterns: a finite number over one that is not zero
module _ (a b : ℕ) (h : T (finite (value_of a))) (k : 0 < num (value_of b)) where
  pub sign_seen : quotient_sign (value_of a) (value_of b) ≡ sign_of a b
  sign_seen =
      let i = (seen a h).number in
      let j = (seen_some b k).0.number in
      rw (i.is, j.is) refl

  pub units : (r t : Bool) (n : ℕ) (x : Float) → Is x t n → T (finite x) → Beside r x (value_of a) (value_of b) ↔ SignedLe (negated_if r t) (n * magnitude b) (negated_if r (sign_of a b)) (magnitude a * 2 ^ 1074)
  units r t n x w f =
      let i = (seen a h).number in
      let j = (seen_some b k).0.number in
      rw (i.is, j.is) (against (2 ^ 1074) (2 ^ 2098) (pow_pos 1074) r t (negative a) (negative b) (magnitude a) (magnitude b) n i.m j.m i.e j.e i.value j.value x w f)

  -- of an answer that may be infinite
  pub beside : (r s : Bool) (n : ℕ) (x : Float) → Is x s n → (n ≡ 2 ^ 2098 → T (negated_if r s))
      → (n < 2 ^ 2098 → SignedLe (negated_if r s) (n * magnitude b) (negated_if r (sign_of a b)) (magnitude a * 2 ^ 1074)) → Beside r x (value_of a) (value_of b)
  beside r s n nan w f g = absurd w
  beside r s n (inf t) w f g = rw w.0 (f w.1)
  beside r s n (fin t m e) w f g = (units r s n (fin t m e) w tt).1 (g w.2)

  -- and where it is the quotient itself
  pub exact_units : (n : ℕ) (x : Float) → Is x (sign_of a b) n → T (finite x) → IsQuotient x (value_of a) (value_of b) ↔ (n * magnitude b ≡ magnitude a * 2 ^ 1074)
  exact_units n x w f =
      let s = sign_of a b in
      let l = at_most x (value_of a) (value_of b) in
      let g = at_least x (value_of a) (value_of b) in
      let i = units false s n x w f in
      let j = units true s n x w f in
      let z = signed_both s (n * magnitude b) (magnitude a * 2 ^ 1074) in
      let t = signed_negated s (magnitude a * 2 ^ 1074) s (n * magnitude b) in
      (λ y. z.1 (i.0 (l.0 y.0), t.1 (j.0 (g.0 y.1))), λ e. (l.1 (i.1 (z.0 e).0), g.1 (j.1 (t.0 (z.0 e).1))))
