-- What the code of the roots asks.
use Rattle.laws.proofs.{Basics.{◌≡◌, sym, ap, subst, ◌∙◌, false, ℕ, min, ◌+◌, ◌*◌, ◌/◌, ◌%◌, ◌^◌, ◌≤◌, ◌<◌, arith}, Tests.{cond_in}}
use Rattle.std.proofs.Common.{Option, Some, None, Ok}
use Rattle.selection.proofs.RefusalNames.{first_refusal, rank, WellFormed, clear_admits}
use Rattle.division.specs.{Format.{magnitude, negative, FiniteNonzero}, computed.Significands.{significand_of}, Rounding.{mode_of}, computed.Rounding.{rounded_result}}
use Rattle.division.specs.{computed.RootSteps.{DigitsTaken, finite_root, root_of_class, root_by_class}, computed.RootCalls.{root_rules}}
use Rattle.division.specs.declared.format.{Binary64Result.{Binary64Result}, Scaled.{Scaled}}
use Rattle.division.specs.declared.root.RootState.{RootState}
use Rattle.division.proofs.{Quotient.{ScaledTo}, Classes.{by_kind}, Binary64Through.{significand_right}, Roots.{exponent_of, radicand_of, radicand_span, exponent_span, half_span, root_is}}

-- the digits of n * 2^62 down to the weight 2^8: what is left is a multiple of that weight
digits_down : (n q r v : ℕ) → q * 2 ^ 9 * (q * 2 ^ 9) + 4 * (2 ^ 8 * r) ≡ 4 * (2 ^ 62 * n) → r < q * 2 ^ 9 + 2 ^ 8 → v ≡ 2 * (q * 2 ^ 9 / 512) + min 1 r
    → (q * q + r / 2 ^ 8 ≡ 2 ^ 46 * n) × (r / 2 ^ 8 ≤ 2 * q) × (v ≡ 2 * q + min 1 (r / 2 ^ 8))
digits_down n q r v e l w =
    let k : q * q + r / 2 ^ 8 ≡ 2 ^ 46 * n = omega arith in
    let z : r ≡ 2 ^ 8 * (r / 2 ^ 8) = omega arith in
    (k, omega arith, omega arith)

pub root_below : {m k : ℕ} {x : RootState} → DigitsTaken m k x → x.twice / 512 < 2 ^ 60
root_below d = omega (arith, d.room)

-- the root of a finite number other than zero: x is its significand, n the radicand's word, y has its digits and v their sticky bit
module _ (p : ℕ) (x : Scaled) (u : FiniteNonzero p) (ex : x ≡ significand_of p) where
  read : ScaledTo (magnitude p) x
  read = subst (ScaledTo (magnitude p)) (sym ex) (significand_right p u)

  -- the radicand is a word
  pub word_is : (radicand_of x % 2 ^ 64 ≡ radicand_of x) × (radicand_of x % 2 ^ 64 < 2 ^ 62)
  word_is = omega (arith, radicand_span (magnitude p) x read)

  module _ (y : RootState) (v : ℕ) (d : DigitsTaken (2 ^ 62 * (radicand_of x % 2 ^ 64)) 8 y) (ev : v ≡ 2 * (y.twice / 512) + min 1 y.rest) where
    taken : (d.digits * d.digits + y.rest / 2 ^ 8 ≡ 2 ^ 46 * radicand_of x) × (y.rest / 2 ^ 8 ≤ 2 * d.digits) × (v ≡ 2 * d.digits + min 1 (y.rest / 2 ^ 8))
    taken =
        let u = d.weight in
        let t : y.twice ≡ d.digits * 2 ^ 9 = d.placed ∙ ap (λ (z : ℕ). d.digits * (2 * z)) u in
        digits_down (radicand_of x) d.digits y.rest v (rw (u, t, word_is.0) at d.value) (rw (u, t) at d.left) (rw t at ev)

    pub rounded_ready : (exponent_of x ≤ 3119) × (v < 2 ^ 55) × (2 ^ 54 * min 1 (exponent_of x) ≤ v)
    rounded_ready = omega (arith, half_span (magnitude p) x read d.digits (y.rest / 2 ^ 8) taken.0 taken.1, taken.2, exponent_span (magnitude p) x read)

    pub finite_root_is : (direction : ℕ) {r : Binary64Result} → r ≡ rounded_result (mode_of direction false) false (exponent_of x) (v / 4) (v % 4) → r ≡ finite_root direction (magnitude p)
    finite_root_is direction er = er ∙ sym (root_is (magnitude p) x read d.digits (y.rest / 2 ^ 8) taken.0 taken.1 direction v taken.2)

-- where its class and its sign decide nothing, the operand is a finite number other than zero
pub root_operand : (p : ℕ) → root_by_class p ≡ None → FiniteNonzero p
root_operand p u = by_kind p (λ e. absurd (no (sym (ap (root_of_class p) e) ∙ u))) (λ h. h)
    (λ e. absurd (cond_in (λ (k : Option Binary64Result). k ≡ None → ⊥) (negative p) no no (sym (ap (root_of_class p) e) ∙ u)))
    (λ e. absurd (no (sym (ap (root_of_class p) e) ∙ u)))
  where
    no : {x : Binary64Result} → Some x ≡ None → ⊥
    no u = let z : ◌≡◌ {A = ℕ} 0 1 = cc in omega arith

-- ---- the refusal of a whole number

pub root_rules_law : (a : ℕ) → WellFormed (root_rules a)
unfolding rank
root_rules_law a = record { sound = (tt, λ _. tt); in_order = tt }

pub root_clear : (a : ℕ) → a < 2 ^ 60 → first_refusal (root_rules a) ≡ Ok tt
root_clear a h = clear_admits (root_rules_law a) (h, tt)
