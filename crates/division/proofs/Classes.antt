-- The classes of operands: which make the finite case, and what patterns of them have.
use Rattle.laws.proofs.{Basics.{◌≡◌, refl, sym, ap, ap₂, ◌∙◌, ⊎_elim, ℕ, ◌+◌, ◌-◌, ◌^◌, ◌≤◌, ◌<◌, arith, le-ltb, ne_eqb, ◌⊎◌, inl, inr}, Division.{le_or_lt}}
use mathlib.Core.Bool.{or-true}
use Rattle.std.proofs.Common.{Some, None, eq-zero-or-pos, mul-pos, pow_pos}
use Rattle.division.proofs.Binary64Names.{class_of, field, fraction, sign_of, FiniteNonzero, IsFinite, case_of, nan_flags, decided, by_class, magnitude, Class, Zero, Subnormal, Normal, Infinite, Nan, Binary64Result, Case, NotANumber, Invalid, ToInfinity, ByZero, ToZero, Finite}
use Rattle.division.specs.computed.Rounding.{is_nan}

-- a finite number other than zero is in no other class
pub nonzero_class : (p : ℕ) → FiniteNonzero p → (class_of p ≡ Zero → ⊥) × (class_of p ≡ Infinite → ⊥) × (class_of p ≡ Nan → ⊥)
nonzero_class p = ⊎_elim
    (λ e. (λ c. let z : ◌≡◌ {A = ℕ} 0 1 = cc in omega arith, λ c. let z : ◌≡◌ {A = ℕ} 0 1 = cc in omega arith, λ c. let z : ◌≡◌ {A = ℕ} 0 1 = cc in omega arith))
    (λ e. (λ c. let z : ◌≡◌ {A = ℕ} 0 1 = cc in omega arith, λ c. let z : ◌≡◌ {A = ℕ} 0 1 = cc in omega arith, λ c. let z : ◌≡◌ {A = ℕ} 0 1 = cc in omega arith))

-- its fields: the exponent field is 0, or between that and 2047
pub nonzero_operand : (p : ℕ) → FiniteNonzero p → (0 < magnitude p) × (field p < 2047)
nonzero_operand p h = ⊎_elim
    (λ (f : field p ≡ 0). ⊎_elim (λ (g : fraction p ≡ 0). absurd ((nonzero_class p h).0 (rw (f, g)))) (λ (g : 0 < fraction p). (rw f g, omega arith)) (eq-zero-or-pos (fraction p)))
    (λ (f : 0 < field p). ⊎_elim
    (λ (g : 2047 ≤ field p). absurd (⊎_elim
    (λ (z : fraction p ≡ 0). (nonzero_class p h).1 (rw (ne_eqb (field p) 0 (omega arith), le-ltb (field p) 2047 g, z)))
    (λ (z : 0 < fraction p). (nonzero_class p h).2 (rw (ne_eqb (field p) 0 (omega arith), le-ltb (field p) 2047 g, ne_eqb (fraction p) 0 (omega arith))))
    (eq-zero-or-pos (fraction p))))
    (λ (g : field p < 2047). (rw (ne_eqb (field p) 0 (omega arith)) (mul-pos {m = 2 ^ 52 + fraction p} (omega arith) (pow_pos (field p - 1))), g))
    (le_or_lt 2047 (field p)))
    (eq-zero-or-pos (field p))

-- a pattern is a zero, a finite number other than zero, an infinity or a not-a-number
pub by_kind : (p : ℕ) {P : Type 0} → (class_of p ≡ Zero → P) → (FiniteNonzero p → P) → (class_of p ≡ Infinite → P) → (class_of p ≡ Nan → P) → P
by_kind p {P} zero nonzero infinite nan = go (class_of p) refl
  where
    go : (k : Class) → class_of p ≡ k → P
    go Zero e = zero e
    go Subnormal e = nonzero (inl e)
    go Normal e = nonzero (inr e)
    go Infinite e = infinite e
    go Nan e = nan e

module _ (a b : ℕ) where
  -- the cases of `Ieee` cover all pairs of classes
  pub by_cases : {P : Type 0} → ((class_of a ≡ Nan) ⊎ (class_of b ≡ Nan) → P) → (((class_of a ≡ Zero) × (class_of b ≡ Zero)) ⊎ ((class_of a ≡ Infinite) × (class_of b ≡ Infinite)) → P)
      → (FiniteNonzero a → class_of b ≡ Zero → P) → (class_of a ≡ Infinite → IsFinite b → P) → (((class_of a ≡ Zero) × FiniteNonzero b) ⊎ (IsFinite a × (class_of b ≡ Infinite)) → P)
      → (FiniteNonzero a → FiniteNonzero b → P) → P
  by_cases nan invalid by_zero infinite zero quotient = by_kind a
      (λ e. by_kind b (λ f. invalid (inl (e, f))) (λ k. zero (inl (e, k))) (λ f. zero (inr (inl e, f))) (λ f. nan (inr f)))
      (λ h. by_kind b (by_zero h) (quotient h) (λ f. zero (inr (inr h, f))) (λ f. nan (inr f)))
      (λ e. by_kind b (λ f. infinite e (inl f)) (λ k. infinite e (inr k)) (λ f. invalid (inr (e, f))) (λ f. nan (inr f)))
      (λ e. nan (inl e))

  -- and so they are named
  pub nan_case : (class_of a ≡ Nan) ⊎ (class_of b ≡ Nan) → case_of (class_of a) (class_of b) ≡ NotANumber
  nan_case = ⊎_elim (λ e. ap (λ (k : Class). case_of k (class_of b)) e) (λ e. ap (case_of (class_of a)) e ∙ rw (or-true (is_nan (class_of a))))

  pub invalid_case : ((class_of a ≡ Zero) × (class_of b ≡ Zero)) ⊎ ((class_of a ≡ Infinite) × (class_of b ≡ Infinite)) → case_of (class_of a) (class_of b) ≡ Invalid
  invalid_case = ⊎_elim (λ e. ap₂ case_of e.0 e.1) (λ e. ap₂ case_of e.0 e.1)

  pub by_zero_case : FiniteNonzero a → class_of b ≡ Zero → case_of (class_of a) (class_of b) ≡ ByZero
  by_zero_case h e = ⊎_elim (λ d. ap₂ case_of d e) (λ d. ap₂ case_of d e) h

  pub infinite_case : class_of a ≡ Infinite → IsFinite b → case_of (class_of a) (class_of b) ≡ ToInfinity
  infinite_case e = ⊎_elim (λ f. ap₂ case_of e f) (⊎_elim (λ f. ap₂ case_of e f) (λ f. ap₂ case_of e f))

  pub zero_case : ((class_of a ≡ Zero) × FiniteNonzero b) ⊎ (IsFinite a × (class_of b ≡ Infinite)) → case_of (class_of a) (class_of b) ≡ ToZero
  zero_case = ⊎_elim
      (λ h. ⊎_elim (λ f. ap₂ case_of h.0 f) (λ f. ap₂ case_of h.0 f) h.1)
      (λ h. ⊎_elim (λ e. ap₂ case_of e h.1) (⊎_elim (λ e. ap₂ case_of e h.1) (λ e. ap₂ case_of e h.1)) h.0)

  pub quotient_case : FiniteNonzero a → FiniteNonzero b → case_of (class_of a) (class_of b) ≡ Finite
  quotient_case h k = ⊎_elim (λ e. ⊎_elim (λ f. ap₂ case_of e f) (λ f. ap₂ case_of e f) k) (λ e. ⊎_elim (λ f. ap₂ case_of e f) (λ f. ap₂ case_of e f) k) h

  -- where the classes decide nothing, the operands are finite numbers other than zero, and only there
  pub nonzero_quotient : FiniteNonzero a → FiniteNonzero b → by_class a b ≡ None
  nonzero_quotient h k = ap (decided (sign_of a b) (nan_flags a b)) (quotient_case h k)

  pub quotient_nonzero : by_class a b ≡ None → FiniteNonzero a × FiniteNonzero b
  quotient_nonzero u = by_cases (λ h. no (nan_case h) refl) (λ h. no (invalid_case h) refl) (λ h e. no (by_zero_case h e) refl) (λ e h. no (infinite_case e h) refl) (λ h. no (zero_case h) refl) (λ h k. (h, k))
    where
      no : {k : Case} {x : Binary64Result} → case_of (class_of a) (class_of b) ≡ k → decided (sign_of a b) (nan_flags a b) k ≡ Some x → FiniteNonzero a × FiniteNonzero b
      no e f = let g = sym (ap (decided (sign_of a b) (nan_flags a b)) e ∙ f) ∙ u in let z : ◌≡◌ {A = ℕ} 0 1 = cc in absurd (omega arith)
