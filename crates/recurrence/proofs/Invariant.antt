-- The invariant of the recurrence: after i steps the digits make S, a natural number, and P = 4^i N − 4 S D, in range.
use Rattle.laws.{proofs.Basics.{◌≡◌, refl, ap, subst, ◌∙◌, List, ℕ, zero, suc, ◌+◌, ◌-◌, ◌*◌, ◌^◌, ◌≤◌, ◌<◌, arith, get_or, pos}, specs.Lists.{list_from}, proofs.Diff.{diffs}}
use Rattle.std.proofs.Common.{mul_assoc, lt_of_mul-lt-mul_right, pow-suc}
use native.Mathlib.Nat.{pow-le-pow_right}
use Rattle.selection.{specs.Table.{Passes}, proofs.BiasedPoints.{digit_diff}, specs.declared.Estimate.{Estimate}}
use Rattle.recurrence.specs.{Recurrence.{Operands, cell_at, next_of, after, digit_of, digits, value}, computed.Run.{longest}}
use Rattle.recurrence.proofs.{Steps.{biased, InRange, AllowedAt, Next, next_in_range, step_law, table_digit_allowed}, Digits.{divisor_after, value_next}}

pub quad : (N i : ℕ) → N * 4 ^ suc i ≡ N * 4 ^ i * 4
quad N i = rw (pow-suc, mul_assoc)

-- the dividend of n digits is a quarter of that of n steps
pub quarter : (N n : ℕ) → 1 ≤ n → N * 4 ^ n ≡ N * 4 ^ (n - 1) * 4
quarter N n h = ap (λ (m : ℕ). N * 4 ^ m) (omega arith) ∙ quad N (n - 1)

-- after i steps of any kind: S is what the digits make, W the word of the remainder
pub record Meets (W N D i S : ℕ) : Type 0 where
  pub in_range : InRange W D
  pub meets : W + 4 * (S * D) ≡ N * 4 ^ i + 2 ^ 63
  pub size : S < 4 ^ i

pub meets_start : {W N D : ℕ} → Operands N D → W ≡ N + 2 ^ 63 → Meets W N D 0 0
meets_start o e = record { in_range = record { least = o.least; most = o.most; above = omega (arith, o.least); below = omega (arith, o.dividend, o.least) }; meets = omega arith; size = omega arith }

-- P′ = 4 (P − qD) and P = M − 4SD give P′ = 4M − 4(4S + q)D, of a step with an allowed digit, and 4S + q is not negative
pub meets_next : {d W D W' N i S : ℕ} → Meets W N D i S → AllowedAt d W D → Next d D W W' → (1 < 4 * S + d) × Meets W' N D (suc i) (4 * S + d - 2)
meets_next {d} {W} {D} {W'} {N} {i} {S} m f e =
    let k : 1 < 4 * S + d = lt_of_mul-lt-mul_right D (omega (arith, m.in_range.least, m.meets, f.high)) in
    let s : 4 * S + d - 2 + 2 ≡ 4 * S + d = omega arith in
    (k, record { in_range = next_in_range m.in_range f e; meets = omega (arith, m.meets, quad N i, ap (λ (n : ℕ). n * D) s); size = omega (arith, f.byte, m.size) })

-- S fits a word
pub fits_word : {W N D n S : ℕ} → Meets W N D n S → n ≤ longest → S < 2 ^ 64
fits_word {n = n} m h = omega (arith, m.size, pow-le-pow_right {n = 4} (omega arith) {i = n} {j = 31} h)

-- in a divider with the estimate E
module _ (E : Estimate) where
  pub record Invariant (t : List ℕ) (N D i S : ℕ) : Type 0 where
    pub word : Meets (biased (after E t N D i)) N (after E t N D i).divisor i S
    pub makes : value (digits E t N D i) ≡ pos S

  module _ (t : List ℕ) (N D : ℕ) where
    -- no step changes the divisor
    pub word_after : {i S : ℕ} → Invariant t N D i S → Meets (biased (after E t N D i)) N D i S
    word_after {i} {S} k = subst (λ (x : ℕ). Meets (biased (after E t N D i)) N x i S) (divisor_after E t N D i) k.word

    invariant-next : (i S : ℕ) → Invariant t N D i S → let p = after E t N D i in let d = get_or t (cell_at E p) 0 in AllowedAt d (biased p) p.divisor → Invariant t N D (suc i) (4 * S + d - 2)
    unfolding after next_of
    invariant-next i S h f =
        let p = after E t N D i in
        let d = get_or t (cell_at E p) 0 in
        let m = meets_next h.word f (step_law d p h.word.in_range f) in
        record { word = m.1; makes = value_next (digit_of E t N D) i ∙ rw (h.makes, digit_diff d) (simp diffs (omega (arith, m.0))) }

    -- as long as each digit is allowed
    pub invariant-while : Operands N D → (n : ℕ)
        → ((i : ℕ) → i < n → let p = after E t N D i in InRange (biased p) p.divisor → AllowedAt (get_or t (cell_at E p) 0) (biased p) p.divisor) → (S : ℕ) × Invariant t N D n S
    unfolding after value list_from
    invariant-while o zero f = (0, record { word = meets_start o (omega (arith, o.dividend)); makes = refl })
    invariant-while o (suc i) f =
        let x = invariant-while o i (λ j h. f j (omega arith)) in
        (_, invariant-next i x.0 x.1 (f i (omega arith) x.1.word.in_range))

    pub invariant-after : Passes E t → Operands N D → (i : ℕ) → (S : ℕ) × Invariant t N D i S
    invariant-after ok o n = invariant-while o n (λ i h. table_digit_allowed E t (after E t N D i) ok)
