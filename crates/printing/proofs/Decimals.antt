-- Laws of decimal digits: those that `io::decimal` makes are the number's, at most 20 of them, and they spell the number.
use Rattle.laws.proofs.Basics.{◌≡◌, refl, ap, ◌∙◌, List, [], ◌∷◌, ◌++◌, ⊎_elim, ℕ, zero, suc, ◌+◌, ◌*◌, ◌-◌, ◌/◌, ◌%◌, ◌^◌, ◌≤◌, ◌<◌, arith, ltb, ltb→lt, nltb→le, lt-ltb, le-ltb, length, get_or, negsuc}
use Rattle.laws.proofs.Tests.{by_cond}
use Prim.Native.Char.{code}
use native.Mathlib.{Nat.{eq-zero-or-pos, pow-suc, one-le-pow}}
use Rattle.io.specs.Digits.{last_digits, IsDigitCount, hex_digit_ascii}
use Rattle.printing.specs.Text.{decimal_upto, decimal_of, spelled_after, DecimalText, signed_of}

less_one : (m : ℕ) → suc m - 1 ≡ m
less_one m = omega arith

-- a number below 10^k that is no number of fewer digits has k decimal digits
decimal_digits : (k most n : ℕ) → IsDigitCount 10 1 n k → k ≤ most → last_digits 10 k n ≡ decimal_upto most n
unfolding decimal_upto
decimal_digits zero most n f h = absurd (omega (arith, f.0))
decimal_digits (suc k) zero n f h = absurd (omega arith)
decimal_digits (suc zero) (suc most) n f h = let e : n % 10 ≡ n = omega (arith, f.1) in rw (lt-ltb n 10 (omega (arith, f.1)), e, lt-ltb n 10 (omega (arith, f.1)))
decimal_digits (suc (suc k)) (suc most) n f h =
    let p : 10 ^ suc k ≤ n = rw (less_one (suc k)) at (f.2 (omega arith)) in
    let q : 10 ≤ n = omega (arith, pow-suc 10 k, one-le-pow k 10 (omega arith)) in
    let rest : IsDigitCount 10 1 (n / 10) (suc k) = (omega arith, omega (arith, f.1, pow-suc 10 (suc k)), λ j. rw (less_one k) (omega (arith, pow-suc 10 k))) in
    ap (λ (l : List ℕ). l ++ (hex_digit_ascii (n % 10) ∷ [])) (decimal_digits (suc k) most (n / 10) rest (omega arith)) ∙ rw (le-ltb n 10 q, lt-ltb (n % 10) 10 (omega arith))

-- what `io::decimal` makes of n is n in decimal
-- § 19.1 Numbers are printed in decimal.
pub decimal_is : (k n : ℕ) → IsDigitCount 10 1 n k → k ≤ 20 → last_digits 10 k n ≡ decimal_of n
unfolding decimal_of
decimal_is k n f h = decimal_digits k 20 n f h

spelled_more : (a c : ℕ) (cs : List ℕ) → spelled_after a (cs ++ (c ∷ [])) ≡ 10 * spelled_after a cs + (c - 48)
spelled_more a c [] = refl
spelled_more a c (d ∷ cs) = spelled_more (10 * a + (d - 48)) c cs

upto_spells : (most n : ℕ) → n < 10 ^ most → spelled_after 0 (decimal_upto most n) ≡ n
unfolding decimal_upto
upto_spells zero n h = omega arith
upto_spells (suc most) n h =
    by_cond (λ (l : List ℕ). spelled_after 0 l ≡ n) (ltb n 10) _ _
    (λ t. omega arith)
    (λ t. spelled_more 0 (code "0" + n % 10) (decimal_upto most (n / 10)) ∙ rw (upto_spells most (n / 10) (omega (arith, pow-suc 10 most))) (omega arith))

-- a digit more behind digits
abbrev Digits : List ℕ → Type 0
Digits l = (i : ℕ) → i < length l → (48 ≤ get_or l i 0) × (get_or l i 0 ≤ 57)

digits_more : (l : List ℕ) (c : ℕ) → 48 ≤ c → c ≤ 57 → Digits l → Digits (l ++ (c ∷ []))
digits_more [] c a b f zero h = (a, b)
digits_more [] c a b f (suc i) h = absurd (omega arith)
digits_more (x ∷ l) c a b f zero h = f zero (omega arith)
digits_more (x ∷ l) c a b f (suc i) h = digits_more l c a b (λ j k. f (suc j) (omega arith)) i (omega arith)

upto_digits : (most n : ℕ) → Digits (decimal_upto most n)
unfolding decimal_upto
upto_digits zero n = λ i h. absurd (omega arith)
upto_digits (suc most) n =
    by_cond Digits (ltb n 10) _ _
    (λ t. digits_more [] (48 + n) (omega arith) (omega (arith, ltb→lt n 10 t)) (λ i h. absurd (omega arith)))
    (λ t. digits_more (decimal_upto most (n / 10)) (48 + n % 10) (omega arith) (omega arith) (upto_digits most (n / 10)))

-- a number above zero begins with another digit than 0
record Leads (l : List ℕ) : Type 0 where
  some : 1 ≤ length l
  first : get_or l 0 0 ≡ 48 → ⊥

leads_more : (l : List ℕ) (c : ℕ) → Leads l → Leads (l ++ (c ∷ []))
leads_more [] c s = absurd (omega (arith, s.some))
leads_more (x ∷ l) c s = record { some = omega arith; first = s.first }

upto_leads : (most n : ℕ) → n < 10 ^ most → 1 ≤ n → Leads (decimal_upto most n)
unfolding decimal_upto
upto_leads zero n h k = absurd (omega arith)
upto_leads (suc most) n h k =
    by_cond Leads (ltb n 10) _ _
    (λ t. record { some = omega arith; first = λ e. omega (arith, e) })
    (λ t. leads_more (decimal_upto most (n / 10)) (48 + n % 10) (upto_leads most (n / 10) (omega (arith, pow-suc 10 most)) (omega (arith, nltb→le n 10 t))))

-- § 19.1 Numbers are printed in decimal.
pub decimal_text : (n : ℕ) → n < 2 ^ 64 → DecimalText n (decimal_of n)
unfolding decimal_of decimal_upto
decimal_text n h =
    let w : n < 10 ^ 20 = omega arith in
    ⊎_elim
    (λ (e : n ≡ 0). rw e (record { some = omega arith; digits = upto_digits 20 0; spells = refl; zero_alone = λ z. refl }))
    (λ (k : 0 < n). let l = upto_leads 20 n w k in record { some = l.some; digits = upto_digits 20 n; spells = upto_spells 20 n w; zero_alone = λ z. absurd (l.first z) })
    (eq-zero-or-pos n)

-- a number below zero is the byte 45 and its magnitude
-- § 19.1 Numbers are printed in decimal.
pub signed_text : (n : ℕ) → signed_of (negsuc n) ≡ 45 ∷ decimal_of (suc n)
signed_text n = refl
