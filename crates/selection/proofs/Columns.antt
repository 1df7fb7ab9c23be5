-- The row of a divisor; the column of a sum word and a carry word, and what their truncated estimate leaves out.
use Rattle.laws.proofs.{Basics.{◌≡◌, refl, sym, ◌∙◌, ◌↔◌, ℕ, ◌+◌, ◌*◌, ◌-◌, ◌/◌, ◌%◌, ◌^◌, ◌≤◌, ◌<◌, min, arith, ltb, ltb→lt, nltb→le, ℤ, pos, neg_ℤ, ◌+ℤ◌, ◌-ℤ◌, ◌*ℤ◌, ◌≤ℤ◌}, Tests.{by_cond}}
use Rattle.laws.proofs.{Diff.{diff, diffs, by_diff, diff_sub, diff_eq}, Words.{same_mod}}
use Rattle.selection.specs.{Word.{read_signed, signed}, Cell.{InRow, InColumn, span_of, row, column, estimate, truncation_error}, declared.Estimate.{Estimate}}
use Rattle.selection.specs.declared.Estimate.TheVariants.{SevenBits, EightBits}
use Rattle.selection.proofs.BiasedPoints.{signed_diff, signed_same}

-- a divisor in its span lies in its row, which is one of sixteen
-- § 2.2 The row of D is the four bits after its leading one.
pub row_in : (D : ℕ) → 2 ^ 60 ≤ D → D < 2 ^ 61 → (row D ≤ 15) × InRow (row D) D
row_in D least most = (omega arith, record { from = omega arith; below = omega arith })

-- a column is one of 128
pub column_small : (E : Estimate) (s k : ℕ) → column E s k ≤ 127
column_small SevenBits s k = omega arith
column_small EightBits s k = omega arith

-- it is the estimate plus 64
read_up : (n c : ℕ) → c ≡ (n + 64) % 128 → pos c ≡ read_signed 64 n +ℤ pos 64
read_up n c e =
    by_cond (λ z. pos c ≡ z +ℤ pos 64) (ltb (n % 128) 64) _ _
    (λ t. simp diffs (omega (arith, ltb→lt))) (λ t. rw (diff_sub (n % 128) 128) (simp diffs (omega (arith, nltb→le))))

pub column_estimate : (E : Estimate) (s k : ℕ) → pos (column E s k) ≡ estimate E s k +ℤ pos 64
unfolding estimate
column_estimate SevenBits s k = read_up ((s / 2 ^ 57 + k / 2 ^ 57) % 128) _ (omega arith)
column_estimate EightBits s k = read_up ((s / 2 ^ 56 + k / 2 ^ 56) % 256 / 2) _ (omega arith)

-- P is t·2^57 + e modulo 2^64, read as signed, for the e that the estimate leaves out of the two words
pub truncation_error_law : (E : Estimate) (s k : ℕ) → signed (s + k) ≡ signed ((column E s k + 64) * 2 ^ 57 + truncation_error E s k)
truncation_error_law SevenBits s k =
    let n = s / 2 ^ 57 + k / 2 ^ 57 in
    signed_same (s + k) ((column SevenBits s k + 64) * 2 ^ 57 + truncation_error SevenBits s k) 1 ((n + 64) / 128) (omega arith)
truncation_error_law EightBits s k =
    let n = s / 2 ^ 56 + k / 2 ^ 56 in
    let m : n + 128 ≡ 256 * ((n + 128) / 256) + 2 * column EightBits s k + n % 2 = omega arith in
    signed_same (s + k) ((column EightBits s k + 64) * 2 ^ 57 + truncation_error EightBits s k) 1 ((n + 128) / 256) (omega arith)

-- which is at most the span
pub truncation_most : (E : Estimate) (s k : ℕ) → truncation_error E s k ≤ span_of E
truncation_most SevenBits s k = omega arith
truncation_most EightBits s k = omega arith

-- so the partial remainder of two words lies in their column
pub column_of : (E : Estimate) (s k : ℕ) → InColumn E (column E s k) (signed (s + k))
column_of E s k = record { e = truncation_error E s k; small = truncation_most E s k; is = truncation_error_law E s k }

-- P in a column, in the specification's wording over the integers: P is (c - 64)·2^57 + e but for a multiple of 2^64, and a signed number of 64 bits
pub record ExactColumn (E : Estimate) (c : ℕ) (P : ℤ) : Type 0 where
  pub e : ℕ
  pub j : ℤ
  pub small : e ≤ span_of E
  pub sum : P +ℤ j *ℤ pos (2 ^ 64) ≡ (pos c -ℤ pos 64) *ℤ pos (2 ^ 57) +ℤ pos e
  pub low : (neg_ℤ (pos (2 ^ 63))) ≤ℤ P
  pub high : (P +ℤ pos 1) ≤ℤ (pos (2 ^ 63))

-- § 2.5 P is t·2^57 + e modulo 2^64.
pub in_column_exact : (E : Estimate) (c : ℕ) (P : ℤ) → InColumn E c P ↔ ExactColumn E c P
in_column_exact E c P = (to, from)
  where
    parts : (z : ℤ) → (a : ℕ) × (b : ℕ) × (z ≡ diff a b)
    parts = by_diff (λ z. (a : ℕ) × (b : ℕ) × (z ≡ diff a b)) (λ a b. (a, b, refl))

    to : InColumn E c P → ExactColumn E c P
    to x =
        let n = (c + 64) * 2 ^ 57 + x.e in
        let f = x.is ∙ signed_diff n in
        record { e = x.e; j = diff ((n + 2 ^ 63) / 2 ^ 64) 1; small = x.small; sum = rw (f, diff_sub c 64) (simp diffs (omega arith)); low = rw f (simp diffs (omega arith)); high = rw f (simp diffs (omega arith)) }

    from : ExactColumn E c P → InColumn E c P
    from x =
        let p = parts P in
        let j = parts x.j in
        let sum = simp diffs at (rw (p.2, j.2, diff_sub c 64) at x.sum) in
        let low = simp diffs at (rw p.2 at x.low) in
        let high = simp diffs at (rw p.2 at x.high) in
        let n = (c + 64) * 2 ^ 57 + x.e in
        let w : (p.0 + 2 ^ 63 - p.1) % 2 ^ 64 ≡ (n + 2 ^ 63) % 2 ^ 64 = same_mod _ _ (2 ^ 64) (j.0 + 1) j.1 (omega arith) in
        record { e = x.e; small = x.small; is = p.2 ∙ (diff_eq _ _ _ _).1 (omega arith) ∙ sym (signed_diff n) }

-- every e up to the span is met in every column
pub column_all : (E : Estimate) (c e : ℕ) → c ≤ 127 → e ≤ span_of E → (s : ℕ) × (k : ℕ) × (s < 2 ^ 64) × (k < 2 ^ 64) × (column E s k ≡ c) × (truncation_error E s k ≡ e)
column_all SevenBits c e hc he =
    let x = min e (2 ^ 57 - 1) in
    let s = (c + 64) % 128 * 2 ^ 57 + x in
    let k = e - x in
    (s, k, omega arith, omega arith, omega arith, omega arith)
column_all EightBits c e hc he =
    let x = min e (2 ^ 57 - 1) in
    let s = (c + 64) % 128 * 2 ^ 57 + x in
    let k = e - x in
    let a : (s / 2 ^ 56 + k / 2 ^ 56 + 128) / 2 ≡ (c + 64) % 128 + 64 = omega arith in
    (s, k, omega arith, omega arith, omega arith, omega arith)
