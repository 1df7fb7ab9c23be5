-- Of directions 2 and 3 the answer is the exact quotient rounded up and down, among all values of the format; of direction 1 it is the one that the sign asks for.
use Rattle.laws.proofs.{Basics.{◌≡◌, refl, sym, subst, ◌∙◌, Bool, true, false, cond, ⊎_elim, ℕ, zero, suc, ◌+◌, ◌*◌, ◌%◌, ◌^◌, ◌≤◌, ◌<◌, zero-le, arith, T, le-leb, lt-leb}, Division.{le_or_lt}}
use native.Mathlib.Nat.{le_of_lt, le_refl, le_trans, lt_of_le_of_lt, not-le_of_lt, mul-le-mul_left, mul-le-mul_right}
use lib.{Ieee.{Float, nan, inf, fin}, Ieee.Scale.{finite}, Ieee.Positive.{num}}
use Rattle.division.specs.{declared.format.Binary64Result.{Binary64Result}, Format.{negative, field, magnitude, sign_bit, sign_of}, declared.rounding.Mode.{Mode}}
use Rattle.division.specs.{declared.rounding.Mode.TheVariants.{Toward, Away}, Rounding.{mode_of}, Rounded.{Rounded}, Ieee.{quotient_scale, quotient_place, RoundedQuotient, Ieee}}
use Rattle.division.proofs.Quotient.{quotient_increasing}
use Rattle.ieee.specs.{LanguageQuotient.{value_of}, Directions.{RoundedToZero, RoundedIn, Directed}}
use Rattle.ieee.proofs.{LanguageQuotient.{nearest_quotient}, LanguageOrder.{SignedLe, negated_if}}
use Rattle.ieee.proofs.Operands.{top, top_below, magnitude_top, seen, seen_some, finite_stands, exact_rounded, exact_kept, quotient_rounded}
use Rattle.ieee.proofs.AnswerUnits.{Before, before, infinity_before, is_sign, capped, answered, rounded_stands, rounded_word, units_small, units_mono}
use Rattle.ieee.proofs.QuotientOrder.{Beside, at_most, at_least, sign_seen, units, beside}

halves : (K b p n : ℕ) → (2 * K * (b * p) ≤ 2 * n → K * p * b ≤ n) × (2 * n ≤ 2 * K * (b * p) → n ≤ K * p * b)
halves K b p n = (λ h. omega arith, λ h. omega arith)

-- ---- with overflow
capped_low : (M t v : ℕ) → t ≤ M → (v < M → v ≤ t) → (capped M t true v ≤ t) × (capped M t true v ≤ v)
capped_low M t v l h = ⊎_elim (λ (g : M ≤ v). rw (le-leb M v g) (le_refl t, omega arith)) (λ (g : v < M). rw (lt-leb M v g) (h g, le_refl v)) (le_or_lt M v)

capped_high : (M t v : ℕ) → capped M t false v < M → v ≤ capped M t false v
capped_high M t v = ⊎_elim (λ (g : M ≤ v). rw (le-leb M v g) (λ h. absurd (omega arith))) (λ (g : v < M). rw (lt-leb M v g) (λ h. le_refl v)) (le_or_lt M v)

-- with the sign s, N units are at most ±a / b; an infinity has 2^2098
record Under (s : Bool) (a b N : ℕ) : Type 0 where
  infinite : N ≡ 2 ^ 2098 → T s
  finite : N < 2 ^ 2098 → SignedLe s (N * b) s (a * 2 ^ 1074)

module _ (s : Bool) (a b : ℕ) {x : Binary64Result} where
  toward : (u : Rounded Toward s (quotient_scale b) (quotient_place a) x) → Under false a b (answered Toward (u.K * 2 ^ u.e))
  toward u =
      let l = capped_low (2 ^ 2098) top (u.K * 2 ^ u.e) (le_of_lt top_below) (units_small u) in
      record {
        infinite = λ e. not-le_of_lt top_below (subst (λ (n : ℕ). n ≤ top) e l.0);
        finite = λ g. le_trans (mul-le-mul_right b l.1) ((halves u.K b (2 ^ u.e) (a * 2 ^ 1074)).0 u.rounded.under);
      }

  away : (u : Rounded Away s (quotient_scale b) (quotient_place a) x) → Under true a b (answered Away (u.K * 2 ^ u.e))
  away u = record {
    infinite = λ e. tt;
    finite = λ g. le_trans ((halves u.K b (2 ^ u.e) (a * 2 ^ 1074)).1 u.rounded.over) (mul-le-mul_right b (capped_high (2 ^ 2098) top _ g));
  }

-- down, and where r is true up, which is down with the signs negated
under : (r s : Bool) (a b : ℕ) {x : Binary64Result} (u : RoundedQuotient (cond r 2 3) s a b x) → Under (negated_if r s) a b (answered (mode_of (cond r 2 3) s) (u.K * 2 ^ u.e))
under true true a b u = toward true a b u
under true false a b u = away false a b u
under false true a b u = away true a b u
under false false a b u = toward false a b u

-- in every direction, a value of the format on one side of the quotient stays there
module _ {mode : Mode} {s : Bool} (a b : ℕ) {x : Binary64Result} (h : 0 < b) (u : Rounded mode s (quotient_scale b) (quotient_place a) x) (p : ℕ) (f : field p < 2047) where
  abbrev exact : Rounded mode s (quotient_scale b) (2 * (magnitude p * b)) (record { pattern = sign_bit s + p % 2 ^ 63; flags = 0 })
  exact = exact_rounded mode s b p h f

  itself : answered mode (exact.K * 2 ^ exact.e) ≡ magnitude p
  itself = rw (exact_kept mode s b p h f, lt-leb (2 ^ 2098) (magnitude p) (lt_of_le_of_lt (magnitude_top p f) top_below)) refl

  no_less : magnitude p * b ≤ a * 2 ^ 1074 → magnitude p ≤ answered mode (u.K * 2 ^ u.e)
  no_less g = rw itself at (units_mono (quotient_scale b) (quotient_increasing b h) _ _ (mul-le-mul_left 2 g) exact u)

  pub no_more : a * 2 ^ 1074 ≤ magnitude p * b → answered mode (u.K * 2 ^ u.e) ≤ magnitude p
  no_more g = rw itself at (units_mono (quotient_scale b) (quotient_increasing b h) _ _ (mul-le-mul_left 2 g) u exact)

  none : (m n N : ℕ) → m * b + n ≤ 0 → (n ≤ m * b → N ≤ m) → m + N ≤ 0
  none m n N g l = omega (arith, mul-le-mul_right m h, l (omega arith))

  stays : (t s' : Bool) → SignedLe t (magnitude p * b) s' (a * 2 ^ 1074) → SignedLe t (magnitude p) s' (answered mode (u.K * 2 ^ u.e))
  stays true true g = no_more g
  stays true false g = zero-le
  stays false true g = none (magnitude p) (a * 2 ^ 1074) _ g no_more
  stays false false g = no_less g

-- ---- among all patterns

-- direction 1: it means what 2 or 3 means for that sign
pub one_alike : (s : Bool) {scale : ℕ → ℕ → ℕ} {m : ℕ} {x : Binary64Result} → Rounded (mode_of 1 s) s scale m x → Rounded (mode_of (cond s 2 3) s) s scale m x
one_alike true u = u
one_alike false u = u

module _ (a b : ℕ) {x : Binary64Result} (h : T (finite (value_of a))) (k : 0 < num (value_of b)) (r : Bool) where
  pub within : RoundedQuotient (cond r 2 3) (sign_of a b) (magnitude a) (magnitude b) x → Beside r (value_of x.pattern) (value_of a) (value_of b)
  within u = let v = under r (sign_of a b) (magnitude a) (magnitude b) u in beside a b h k r (sign_of a b) _ (value_of x.pattern) (rounded_stands u) v.infinite v.finite

  pub farthest : {mode : Mode} → Rounded mode (sign_of a b) (quotient_scale (magnitude b)) (quotient_place (magnitude a)) x → (q : ℕ) → Beside r (value_of q) (value_of a) (value_of b) → Before r (value_of q) (value_of x.pattern)
  farthest u q y = go (value_of q) refl
    where
      go : (Q : Float) → value_of q ≡ Q → Before r (value_of q) (value_of x.pattern)
      go nan e = absurd (rw e at y)
      go (inf s) e = rw e (infinity_before r s (sign_of a b) _ (value_of x.pattern) (rounded_stands u) (rw e at y))
      go (fin t m d) e =
          let g : T (finite (value_of q)) = rw e tt in
          let f = (seen q g).below in
          let i = finite_stands q f in
          before r (negative q) (sign_of a b) (value_of q) (value_of x.pattern) (magnitude q) _ i (rounded_stands u)
          (stays (magnitude a) (magnitude b) (seen_some b k).1 u q f (negated_if r (negative q)) (negated_if r (sign_of a b)) ((units a b h k r (negative q) (magnitude q) (value_of q) i g).0 y))

module _ (a b : ℕ) {x : Binary64Result} (h : T (finite (value_of a))) (k : 0 < num (value_of b)) where
  to_side : (r : Bool) → RoundedQuotient (cond r 2 3) (sign_of a b) (magnitude a) (magnitude b) x → RoundedToZero r a b x.pattern
  to_side true u = record { over = (at_least (value_of x.pattern) (value_of a) (value_of b)).1 (within a b h k true u); least = λ q y. farthest a b h k true u q ((at_least (value_of q) (value_of a) (value_of b)).0 y) }
  to_side false u = record { under = (at_most (value_of x.pattern) (value_of a) (value_of b)).1 (within a b h k false u); greatest = λ q y. farthest a b h k false u q ((at_most (value_of q) (value_of a) (value_of b)).0 y) }

  rounded_in : (direction : ℕ) → direction ≤ 3 → Ieee direction a b x → RoundedQuotient direction (sign_of a b) (magnitude a) (magnitude b) x → RoundedIn direction a b x.pattern
  rounded_in zero l i u = nearest_quotient a b i
  rounded_in (suc zero) l i u = rw (sign_seen a b h k) (to_side (sign_of a b) (one_alike (sign_of a b) u))
  rounded_in (suc (suc zero)) l i u = to_side true u
  rounded_in (suc (suc (suc zero))) l i u = to_side false u
  rounded_in (suc (suc (suc (suc d)))) l i u = absurd (omega arith)

  pub directed : (direction : ℕ) → direction ≤ 3 → Ieee direction a b x → Directed direction a b x.pattern
  directed direction l i =
      let u = quotient_rounded direction a b i h k in
      record {
        word = rounded_word u;
        rounded = rounded_in direction l i u;
        sign = is_sign (value_of x.pattern) (sign_of a b) _ (rounded_stands u) ∙ sym (sign_seen a b h k);
      }
