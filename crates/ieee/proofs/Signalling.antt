-- Signalling by the logic's own account: the pattern is read as the not-a-number, and its top fraction bit is 0. The flags of answers by it.
use Rattle.laws.proofs.Basics.{◌≡◌, refl, sym, ap, ◌∙◌, Bool, true, false, cond, ◌&&◌, ◌||◌, ◌↔◌, ◌⊎◌, inl, inr, ⊎_elim, ℕ, ◌+◌, ◌*◌, ◌/◌, ◌%◌, ◌^◌, ◌<◌, arith, T, eqb, ltb, ltb→lt, eqb→eq, lt-ltb, eq-eqb, ltb-true, le-ltb, ne_eqb}
use Rattle.laws.proofs.{Division.{quotient}, Tests.{is_true}}
use lib.{Ieee.{Float, nan, inf, fin, binary64, is_nan}, Ieee.Bits.{nan_bits_is, nan_bits_above}}
use Rattle.division.specs.{Format.{field, fraction, class_of, signalling, invalid_flag}, Ieee.{Ieee}, declared.format.Binary64Result.{Binary64Result}, declared.format.Class.TheVariants.{Nan}}
use Rattle.ieee.specs.{LanguageQuotient.{value_of}, computed.Ieee754.{Signals}}
use Rattle.ieee.proofs.LanguageOrder.{both}

is_nan_law : (x : Float) → is_nan x ≡ true → x ≡ nan
unfolding is_nan
is_nan_law nan e = refl
is_nan_law (inf s) e = absurd (let z : ◌≡◌ {A = ℕ} 0 1 = cc in omega arith)
is_nan_law (fin s m e) f = absurd (let z : ◌≡◌ {A = ℕ} 0 1 = cc in omega arith)

nan_is : {x : Float} → x ≡ nan → is_nan x ≡ true
unfolding is_nan
nan_is e = ap is_nan e

-- above the infinity, whatever the sign
above : (p : ℕ) → is_nan (value_of p) ≡ ltb (2047 * 2 ^ 52) (p % 2 ^ 63)
above p = sym (nan_bits_is binary64 p) ∙ nan_bits_above binary64 p

-- without its sign a pattern is its field and its fraction
unsigned : (p : ℕ) → p % 2 ^ 63 ≡ field p * 2 ^ 52 + fraction p
unsigned p = (quotient {n = p} {d = 2 ^ 63} {q = p / 2 ^ 52 / 2048} {r = field p * 2 ^ 52 + fraction p} (omega arith) (omega arith)).1

pub signalling_is : (p : ℕ) → T (signalling p) ↔ Signals p
signalling_is p = (
  λ t.
      let k = both (eqb (field p) 2047) (ltb 0 (fraction p) && ltb (fraction p) (2 ^ 51)) t in
      let l = both (ltb 0 (fraction p)) (ltb (fraction p) (2 ^ 51)) k.1 in
      let f : field p ≡ 2047 = eqb→eq (field p) 2047 k.0 in
      let m : 0 < fraction p = ltb→lt 0 (fraction p) l.0 in
      let n : fraction p < 2 ^ 51 = ltb→lt (fraction p) (2 ^ 51) l.1 in
      (is_nan_law (value_of p) (above p ∙ lt-ltb (2047 * 2 ^ 52) (p % 2 ^ 63) (omega arith)), omega arith),
  λ h.
      let k : 2047 * 2 ^ 52 < p % 2 ^ 63 = ltb-true _ _ (sym (above p) ∙ nan_is h.0) in
      let u = unsigned p in
      let b = h.1 in
      rw (eq-eqb (field p) 2047 (omega arith), lt-ltb 0 (fraction p) (omega arith), lt-ltb (fraction p) (2 ^ 51) (omega arith)) tt,
)

-- a pattern that the logic reads as the not-a-number is one of that class
pub is_class : (p : ℕ) → value_of p ≡ nan → class_of p ≡ Nan
is_class p e =
    let k : 2047 * 2 ^ 52 < p % 2 ^ 63 = ltb-true _ _ (sym (above p) ∙ nan_is e) in
    let u = unsigned p in
    rw (ne_eqb (field p) 0 (omega arith), le-ltb (field p) 2047 (omega arith), ne_eqb (fraction p) 0 (omega arith))

pub no_signal : (p : ℕ) → (Signals p → ⊥) → signalling p ≡ false
no_signal p h = go (signalling p) (λ t. h ((signalling_is p).0 t))
  where
    go : (b : Bool) → (T b → ⊥) → b ≡ false
    go true f = absurd (f tt)
    go false f = refl

module _ (direction a b : ℕ) {x : Binary64Result} (u : Ieee direction a b x) where
  pub signals : Signals a ⊎ Signals b → x.flags ≡ 16
  signals = ⊎_elim
      (λ h. u.nan_flag (inl (is_class a h.0)) ∙ rw (is_true (signalling a) ((signalling_is a).1 h)))
      (λ h. u.nan_flag (inr (is_class b h.0)) ∙ rw (is_true (signalling b) ((signalling_is b).1 h)) (either (signalling a)))
    where
      either : (s : Bool) → cond (s || true) invalid_flag 0 ≡ 16
      either true = refl
      either false = refl

  pub silent_nan : (value_of a ≡ nan) ⊎ (value_of b ≡ nan) → (Signals a → ⊥) → (Signals b → ⊥) → x.flags ≡ 0
  silent_nan h f g = u.nan_flag (⊎_elim (λ e. inl (is_class a e)) (λ e. inr (is_class b e)) h) ∙ rw (no_signal a f, no_signal b g)
