-- Flags for all operands, by the logic's own account of what a pattern stands for.
use Rattle.laws.proofs.Basics.{◌≡◌, refl, sym, ap, subst, ◌∙◌, Bool, true, false, cond, ◌⊎◌, inl, inr, ⊎_elim, ◌↔◌, ℕ, ◌*◌, ◌^◌, ◌≤◌, ◌<◌, arith, T, eqb, ltb, ltb-true, ltb-false, le-leb, lit≤}
use Rattle.laws.proofs.Division.{le_or_lt}
use Rattle.laws.proofs.{Comparisons.{not_below}, Tests.{is_true}}
use native.Mathlib.Nat.{not-le_of_lt, le_trans, lt_irrefl, mul-le-mul, mul-le-mul_left, mul-pos, mul-le-mul_right, le_of_mul-le-mul_right, mul-lt-mul_of_pos_right, lt_of_mul-lt-mul_right}
use lib.{Pow.{pow_pos, pow_mono, pow-add}, Ieee.{Float, nan, inf, fin}, Ieee.Scale.{finite}, Ieee.Positive.{num, den, den_pos}}
use Rattle.division.specs.{Format.{negative, magnitude, signalling, FiniteNonzero}, Ieee.{Ieee, quotient_scale, quotient_place}, Roots.{IeeeRoot, RootPlain}}
use Rattle.division.specs.declared.format.Binary64Result.{Binary64Result}
use Rattle.division.{specs.Rounding.{points_to_zero}, specs.Rounded.{Rounded}, specs.declared.rounding.Mode.{Mode}, specs.declared.rounding.Mode.TheVariants.{Nearest, Toward, Away}}
use Rattle.division.{proofs.IeeeLaws.{ieee_through}, proofs.Quotient.{quotient_increasing}, proofs.QuotientReading.{quotient_tiny}}
use Rattle.ieee.{specs.LanguageQuotient.{value_of}, proofs.Operands.{top, Is, seen_some, finite_value}, proofs.AnswerUnits.{rounded_stands, units_wide}}
use Rattle.ieee.proofs.OperandKinds.{infinite_class, zero_class, nonzero_class, finite_class, sign_read, measured}
use Rattle.ieee.proofs.{Signalling.{signalling_is, is_class, no_signal}, InexactFlag.{silent}, RootPinned.{silent_root}}
use Rattle.demands.specs.computed.FlagDemand.{Infinite, QuotientFlags, RootFlags, FlagDemand}
use Rattle.demands.proofs.RootDemand.{root_demand}

-- ---- magnitudes

-- A and B are the magnitudes x / d and z / f in units of 1 / y
below : (A B x d z f c y : ℕ) → 0 < d → 0 < f → x * y ≡ A * d → z * y ≡ B * f → A * c < B → x * f * c < z * d
below A B x d z f c y hd hf p q l = lt_of_mul-lt-mul_right y (omega (arith, mul-lt-mul_of_pos_right l (mul-pos hd hf), ap (λ (k : ℕ). k * (f * c)) p, ap (λ (k : ℕ). k * d) q))

at_least : (A B x d z f c y : ℕ) → 0 < y → x * y ≡ A * d → z * y ≡ B * f → B ≤ A * c → z * d ≤ x * f * c
at_least A B x d z f c y hy p q l = le_of_mul-le-mul_right (omega (arith, mul-le-mul_right (d * f) l, ap (λ (k : ℕ). k * (f * c)) p, ap (λ (k : ℕ). k * d) q)) hy

beyond : (A B x d z f c y : ℕ) → 0 < d → 0 < f → 0 < y → x * y ≡ A * d → z * y ≡ B * f → (B * c ≤ A) ↔ (z * d * c ≤ x * f)
beyond A B x d z f c y hd hf hy p q = (
  λ l. le_of_mul-le-mul_right (omega (arith, mul-le-mul_right (d * f) l, ap (λ (k : ℕ). k * f) p, ap (λ (k : ℕ). k * (d * c)) q)) hy,
  λ l. le_of_mul-le-mul_right (omega (arith, mul-le-mul_right y l, ap (λ (k : ℕ). k * f) p, ap (λ (k : ℕ). k * (d * c)) q)) (mul-pos hd hf),
)

-- ---- overflow

-- y stands for 2 ^ 1074, z for 2 ^ 1024
toward_beyond : (K p A B y z : ℕ) → 0 < y → 2 * K * (B * p) ≤ 2 * (A * y) → z * y ≤ K * p → B * z ≤ A
toward_beyond K p A B y z h u l = le_of_mul-le-mul_right (omega (arith, mul-le-mul_right B l)) h

-- p is the exponent's power, and t one that would be too low
exponent_beyond : (A B p y z t : ℕ) → B * z ≤ A → 2 * (A * y) < 2 ^ 54 * (B * p) → p ≤ t → 2 ^ 54 * t ≤ 2 * (z * y) → ⊥
exponent_beyond A B p y z t h l k m = omega (arith, mul-le-mul_right y h, mul-le-mul_left B k, mul-le-mul_left B m)

infinite_of : (x : Float) (s : Bool) → Is x s (2 ^ 2098) → Infinite x
infinite_of nan s w = absurd w
infinite_of (inf t) s w = (t, refl)
infinite_of (fin t m e) s w = absurd (lt_irrefl (2 ^ 2098) w.2)

infinite_not : (x : Float) → T (finite x) → Infinite x → ⊥
infinite_not x f i = subst (λ (y : Float). T (finite y)) i.1 f

not_five : (y z : Bool) → ◌≡◌ {A = ℕ} (cond y 0 (cond z 3 1)) 5 → ⊥
not_five true z e = omega arith
not_five false true e = omega arith
not_five false false e = omega arith

module _ {s : Bool} (a b : ℕ) (hb : 0 < b) {x : Binary64Result} where
  -- toward zero an overflow is no infinity, and elsewhere it is one
  over_told : (mode : Mode) (u : Rounded mode s (quotient_scale b) (quotient_place a) x) → 2 ^ 2098 ≤ u.K * 2 ^ u.e → Is (value_of x.pattern) s (cond (points_to_zero mode) top (2 ^ 2098)) → (b * 2 ^ 1024 ≤ a) ⊎ Infinite (value_of x.pattern)
  over_told Nearest u g w = inr (infinite_of (value_of x.pattern) s w)
  over_told Toward u g w = inl (toward_beyond u.K (2 ^ u.e) a b (2 ^ 1074) (2 ^ 1024) (pow_pos 1074) u.rounded.under (subst (λ (n : ℕ). n ≤ u.K * 2 ^ u.e) (pow-add 2 1024 1074) g))
  over_told Away u g w = inr (infinite_of (value_of x.pattern) s w)

  module _ {mode : Mode} (u : Rounded mode s (quotient_scale b) (quotient_place a) x) where
    over_flag : 2 ^ 2098 ≤ u.K * 2 ^ u.e → x.flags ≡ 5
    over_flag g = ap (λ (y : Binary64Result). y.flags) (u.over g)

    reaches : b * 2 ^ 1024 ≤ a → 2 ^ 2098 ≤ u.K * 2 ^ u.e
    reaches h =
        let e : 2046 ≤ u.e = not_below (λ l. exponent_beyond a b (2 ^ u.e) (2 ^ 1074) (2 ^ 1024) (2 ^ 2045) h u.exponent.beyond (pow_mono {i = u.e} {j = 2045} (omega arith)) (lit≤ {m = 2 ^ 54 * 2 ^ 2045} {n = 2 * (2 ^ 1024 * 2 ^ 1074)} tt)) in
        le_trans (lit≤ {m = 2 ^ 2098} {n = 2 ^ 52 * 2 ^ 2046} tt) (mul-le-mul (units_wide u (quotient_increasing b hb) (omega arith)) (pow_mono {i = 2046} {j = u.e} e))

    over_flags : (x.flags ≡ 5) ↔ ((b * 2 ^ 1024 ≤ a) ⊎ Infinite (value_of x.pattern))
    over_flags = (
      λ f. ⊎_elim
          (λ (g : 2 ^ 2098 ≤ u.K * 2 ^ u.e). over_told mode u g (subst (λ (n : ℕ). Is (value_of x.pattern) s n) (rw (le-leb _ _ g) refl) (rounded_stands u)))
          (λ (g : u.K * 2 ^ u.e < 2 ^ 2098). absurd (not_five (eqb (quotient_scale b u.e (2 * u.K)) (quotient_place a)) (ltb (quotient_place a) (quotient_scale b 0 (2 ^ 53))) (sym (u.flags g) ∙ f)))
          (le_or_lt (2 ^ 2098) (u.K * 2 ^ u.e)),
      λ t. ⊎_elim
          (λ (g : 2 ^ 2098 ≤ u.K * 2 ^ u.e). over_flag g)
          (λ (g : u.K * 2 ^ u.e < 2 ^ 2098). ⊎_elim (λ h. over_flag (reaches h)) (λ i. absurd (infinite_not (value_of x.pattern) (finite_value x.pattern (u.finite g)) i)) t)
          (le_or_lt (2 ^ 2098) (u.K * 2 ^ u.e)),
    )

-- ---- quotients

flags_of : {x y : Binary64Result} → x ≡ y → x.flags ≡ y.flags
flags_of e = ap (λ (z : Binary64Result). z.flags) e

-- the flags of a finite result: y, it is exact; z, the quotient is below 2^-1022
told : (y z : Bool) (n : ℕ) → n ≡ cond y 0 (cond z 3 1) → ((n ≡ 0) ⊎ ((n ≡ 1) ⊎ ((n ≡ 3) ⊎ (n ≡ 5)))) × (n ≡ 3 → z ≡ true) × (n ≡ 1 → z ≡ false)
told true z n e = (inl e, (λ h. absurd (omega arith)), (λ h. absurd (omega arith)))
told false true n e = (inr (inr (inl e)), (λ h. refl), (λ h. absurd (omega arith)))
told false false n e = (inr (inl e), (λ h. absurd (omega arith)), (λ h. refl))

-- what is said of the flags of two finite numbers other than zero, over their magnitudes
record Finite (a b n : ℕ) : Type 0 where
  either : (n ≡ 0) ⊎ ((n ≡ 1) ⊎ ((n ≡ 3) ⊎ (n ≡ 5)))
  tiny : n ≡ 3 → magnitude a * 2 ^ 1022 < magnitude b
  not_tiny : n ≡ 1 → magnitude b ≤ magnitude a * 2 ^ 1022

finite_flags : (direction a b : ℕ) {x : Binary64Result} → Ieee direction a b x → FiniteNonzero a → FiniteNonzero b → Finite a b x.flags
finite_flags direction a b {x} i h k =
    let u = i.quotient h k in
    let t = quotient_tiny (magnitude a) (magnitude b) in
    ⊎_elim
    (λ (o : 2 ^ 2098 ≤ u.K * 2 ^ u.e). let f : x.flags ≡ 5 = flags_of (u.over o) in record { either = inr (inr (inr f)); tiny = λ e. absurd (omega (arith, f)); not_tiny = λ e. absurd (omega (arith, f)) })
    (λ (g : u.K * 2 ^ u.e < 2 ^ 2098).
    let w = told (eqb (quotient_scale (magnitude b) u.e (2 * u.K)) (quotient_place (magnitude a))) (ltb (quotient_place (magnitude a)) (quotient_scale (magnitude b) 0 (2 ^ 53))) x.flags (u.flags g) in
    record {
      either = w.0;
      tiny = λ e. t.0 (ltb-true _ _ (w.1 e));
      not_tiny = λ e. not_below (λ l. not-le_of_lt (t.1 l) (ltb-false (quotient_place (magnitude a)) (quotient_scale (magnitude b) 0 (2 ^ 53)) (w.2 e)));
    })
    (le_or_lt (2 ^ 2098) (u.K * 2 ^ u.e))

quotient_flags : (direction a b : ℕ) {x : Binary64Result} → Ieee direction a b x → QuotientFlags a b x.pattern x.flags
quotient_flags direction a b {x} i =
    let of : 0 < num (value_of a) → 0 < num (value_of b) → Finite a b x.flags = λ h k. finite_flags direction a b i (nonzero_class a h) (nonzero_class b k) in
    record {
      infinities = λ s u e f. flags_of (i.invalid (inr ((infinite_class a s e).0, (infinite_class b u f).0)));
      infinity_over = λ s e h. flags_of (i.infinite (infinite_class a s e).0 (finite_class b h));
      over_infinity = λ u h f. flags_of (i.zero (inr (finite_class a h, (infinite_class b u f).0)));
      zeros = λ h y k z. flags_of (i.invalid (inl (zero_class a h y, zero_class b k z)));
      over_zero = λ h k z. flags_of (i.by_zero (nonzero_class a h) (zero_class b k z));
      zero_over = λ h y k. flags_of (i.zero (inl (zero_class a h y, nonzero_class b k)));
      exact = silent direction a b i;
      either = λ h k. (of h k).either;
      tiny = λ h k e. below (magnitude a) (magnitude b) (num (value_of a)) (den (value_of a)) (num (value_of b)) (den (value_of b)) (2 ^ 1022) (2 ^ 1074) (den_pos (value_of a)) (den_pos (value_of b)) (measured a (seen_some a h).0) (measured b (seen_some b k).0) ((of h k).tiny e);
      not_tiny = λ h k e. at_least (magnitude a) (magnitude b) (num (value_of a)) (den (value_of a)) (num (value_of b)) (den (value_of b)) (2 ^ 1022) (2 ^ 1074) (pow_pos 1074) (measured a (seen_some a h).0) (measured b (seen_some b k).0) ((of h k).not_tiny e);
      overflow = λ h k.
          let o = over_flags (magnitude a) (magnitude b) (seen_some b k).1 (i.quotient (nonzero_class a h) (nonzero_class b k)) in
          let y = beyond (magnitude a) (magnitude b) (num (value_of a)) (den (value_of a)) (num (value_of b)) (den (value_of b)) (2 ^ 1024) (2 ^ 1074) (den_pos (value_of a)) (den_pos (value_of b)) (pow_pos 1074) (measured a (seen_some a h).0) (measured b (seen_some b k).0) in
          (λ f. ⊎_elim (λ l. inl (y.0 l)) inr (o.0 f), λ t. o.1 (⊎_elim (λ l. inl (y.1 l)) inr t));
    }

-- ---- roots

root_flags : (direction p : ℕ) {x : Binary64Result} → IeeeRoot direction p x → (negative p ≡ false → FiniteNonzero p → RootPlain p x) → RootFlags p x.pattern x.flags
root_flags direction p i plain = record {
  signalling = λ s. flags_of (i.nan (is_class p s.0)) ∙ rw (is_true (signalling p) ((signalling_is p).1 s));
  quiet = λ e q. flags_of (i.nan (is_class p e)) ∙ rw (no_signal p q);
  below_zero = λ s h. flags_of (i.below_zero (sign_read p h ∙ s) (inl (nonzero_class p h)));
  minus_infinity = λ e. let c = infinite_class p true e in flags_of (i.below_zero c.1 (inr c.0));
  infinity = λ e. let c = infinite_class p false e in flags_of (i.itself (inr (c.1, c.0)));
  zero = λ h z. flags_of (i.itself (inl (zero_class p h z)));
  above_zero = λ s h. (plain (sign_read p h ∙ s) (nonzero_class p h)).flags;
  exact = silent_root direction p i;
}

-- § 9.8 Each flag is raised exactly under its condition, for quotients and roots.
pub flag_demand : FlagDemand
flag_demand = record {
  quotient = λ t ok direction a b h. quotient_flags direction a b (ieee_through t ok direction a b h);
  root = λ direction p h. let d = root_demand.binary64 direction p h in root_flags direction p d.meaning d.plain;
}
