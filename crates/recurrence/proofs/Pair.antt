-- The value of the digits so far and that value less one: each step renews both by choosing one of the old pair and appending two bits.
use Rattle.laws.proofs.Basics.{◌≡◌, refl, ap, ◌∙◌, List, inl, inr, ℕ, zero, suc, ◌+◌, ◌-◌, ◌*◌, ◌/◌, ◌%◌, ◌^◌, ◌≤◌, ◌<◌, arith, ltb, ltb→lt, nltb→le, cond, get_or, ℤ, pos, negsuc, ◌+ℤ◌, ◌-ℤ◌, ◌*ℤ◌, non_neg}
use Rattle.laws.{specs.Lists.{list_from}, proofs.Diff.{diff, diffs, by_diff}, proofs.Tests.{by_cond}, proofs.Words.{same_mod}}
use Rattle.selection.{proofs.DigitBytes.{up_to_four}, specs.Cell.{digit}, proofs.BiasedPoints.{digit_diff}, specs.declared.Estimate.{Estimate}}
use Rattle.recurrence.specs.{Recurrence.{State, cell_at, appended, step_by, next_of, after, digit_of, digits, value, corrected_quotient}, computed.OnTheFly.{WordOf, PairOf, Appends, Renews}}
use Rattle.recurrence.specs.computed.FastRun.{renewed}
use Rattle.recurrence.proofs.Digits.{value_next}

-- ---- words modulo 2^64

-- a number up to 2^64 times something is its remainder
word_of : (z T : ℤ) (x : ℕ) → z ≡ pos x +ℤ T *ℤ pos (2 ^ 64) → WordOf z (x % 2 ^ 64)
word_of z T x e =
    let rest = by_diff (λ T. pos x +ℤ T *ℤ pos (2 ^ 64) ≡ pos (x % 2 ^ 64) +ℤ (T +ℤ pos (x / 2 ^ 64)) *ℤ pos (2 ^ 64)) (λ a b. simp diffs (omega arith)) T in
    record { word = omega arith; times = T +ℤ pos (x / 2 ^ 64); is = e ∙ rest }

-- a number below 2^64 is its word
pub word_one : (n w : ℕ) → n < 2 ^ 64 → WordOf (pos n) w → n ≡ w
word_one n w h m = by_diff (λ T. pos n ≡ pos w +ℤ T *ℤ pos (2 ^ 64) → n ≡ w) (λ a b e. omega (arith, m.word, simp diffs at e)) m.times m.is

-- ---- one step

-- the code's choices by k = d + 2 and k = d + 1 are those by the digit
pub record ByDigit (v w d : ℕ) : Type 0 where
  pub value : cond (ltb d 2) (appended w (d + 2)) (appended v (d - 2)) ≡ renewed (d + 2) v w
  pub decremented : cond (ltb d 3) (appended w (d + 1)) (appended v (d - 3)) ≡ renewed (d + 1) v w

pub by_digit : (v w d : ℕ) → d ≤ 4 → ByDigit v w d
by_digit v w =
    up_to_four (ByDigit v w) (record { value = refl; decremented = refl }) (record { value = refl; decremented = refl }) (record { value = refl; decremented = refl })
    (record { value = refl; decremented = refl }) (record { value = refl; decremented = refl })

-- whichever is chosen, it is one of the pair with two bits appended
appends : (p : State) (k : ℕ) → Appends p (renewed k p.value p.decremented)
appends p k =
    by_cond (λ (x : ℕ). Appends p ((x * 4 + k % 4) % 2 ^ 64)) (ltb k 4) p.decremented p.value
    (λ t. record { old = p.decremented; bits = k % 4; chosen = inr refl; two_bits = omega arith; is = refl })
    (λ t. record { old = p.value; bits = k % 4; chosen = inl refl; two_bits = omega arith; is = refl })

-- and it is four times the decremented number and k more
renewed_is : (k v w : ℕ) → k < 8 → v ≡ (w + 1) % 2 ^ 64 → renewed k v w ≡ (w * 4 + k) % 2 ^ 64
renewed_is k v w h e =
    by_cond (λ (x : ℕ). (x * 4 + k % 4) % 2 ^ 64 ≡ (w * 4 + k) % 2 ^ 64) (ltb k 4) w v
    (λ t. let s = ltb→lt k 4 t in ap (λ (r : ℕ). (w * 4 + r) % 2 ^ 64) (omega arith))
    (λ t. let s = nltb→le k 4 t in same_mod _ _ (2 ^ 64) (4 * ((w + 1) / 2 ^ 64)) 0 (omega arith))

-- 4S + q, and one less, from the decremented number
record Raised (S T : ℤ) (w d : ℕ) : Type 0 where
  value : pos 4 *ℤ S +ℤ digit d ≡ pos (w * 4 + (d + 2)) +ℤ (pos 4 *ℤ T) *ℤ pos (2 ^ 64)
  decremented : (pos 4 *ℤ S +ℤ digit d) -ℤ pos 1 ≡ pos (w * 4 + (d + 1)) +ℤ (pos 4 *ℤ T) *ℤ pos (2 ^ 64)

raised : (S T : ℤ) (w d : ℕ) → S -ℤ pos 1 ≡ pos w +ℤ T *ℤ pos (2 ^ 64) → Raised S T w d
raised S T w d =
    by_diff (λ S. S -ℤ pos 1 ≡ pos w +ℤ T *ℤ pos (2 ^ 64) → Raised S T w d)
    (λ a b. by_diff (λ T. diff a b -ℤ pos 1 ≡ pos w +ℤ T *ℤ pos (2 ^ 64) → Raised (diff a b) T w d)
    (λ u v e. record { value = rw (digit_diff d) (simp diffs (omega (arith, simp diffs at e))); decremented = rw (digit_diff d) (simp diffs (omega (arith, simp diffs at e))) }) T) S

pair_next : (d : ℕ) (p : State) (S : ℤ) → d ≤ 4 → PairOf S p → PairOf (pos 4 *ℤ S +ℤ digit d) (step_by d p)
pair_next d p S h c =
    let w = p.decremented in
    let b = by_digit p.value w d h in
    let r = raised S c.decremented.times w d c.decremented.is in
    rw (b.value, b.decremented, renewed_is (d + 2) p.value w (omega arith) c.one_apart, renewed_is (d + 1) p.value w (omega arith) c.one_apart)
    (record {
      value = word_of _ (pos 4 *ℤ c.decremented.times) (w * 4 + (d + 2)) r.value;
      decremented = word_of _ (pos 4 *ℤ c.decremented.times) (w * 4 + (d + 1)) r.decremented;
      one_apart = same_mod _ _ (2 ^ 64) 0 ((w * 4 + (d + 1)) / 2 ^ 64) (omega arith);
    })

-- the corrected quotient is one of the two numbers, chosen by the sign
-- § 6.7 Where the end remainder is negative, the quotient is S − 1 and D is added.
pub chosen : (Q : ℕ) (S R : ℤ) (p : State) → Q < 2 ^ 64 → pos Q ≡ corrected_quotient S R → PairOf S p → Q ≡ cond (non_neg R) p.value p.decremented
chosen Q S (pos R) p h e c = word_one Q p.value h (rw e c.value)
chosen Q S (negsuc R) p h e c = word_one Q p.decremented h (rw e c.decremented)

-- in a divider with the estimate E
module _ (E : Estimate) where
  -- ---- through every table of digit bytes

  -- of every state, whatever its two numbers are
  pub renews_next : (t : List ℕ) → ((k : ℕ) → get_or t k 0 ≤ 4) → (p : State) → Renews p (next_of E t p)
  unfolding next_of
  renews_next t small p =
      let d = get_or t (cell_at E p) 0 in
      let c = by_digit p.value p.decremented d (small (cell_at E p)) in
      record { value = rw c.value (appends p (d + 2)); decremented = rw c.decremented (appends p (d + 1)) }

  -- § 6.2 The state holds the value and one less, modulo 2^64.
  pub pair_after : (t : List ℕ) (N D : ℕ) → ((k : ℕ) → get_or t k 0 ≤ 4) → (i : ℕ) → PairOf (value (digits E t N D i)) (after E t N D i)
  unfolding after next_of value list_from
  pair_after t N D small zero = record {
    value = record { word = omega arith; times = pos 0; is = refl };
    decremented = record { word = omega arith; times = pos 0 -ℤ pos 1; is = refl };
    one_apart = refl;
  }
  pair_after t N D small (suc i) =
      let p = after E t N D i in
      let d = get_or t (cell_at E p) 0 in
      rw (value_next (digit_of E t N D) i) (pair_next d p (value (digits E t N D i)) (small (cell_at E p)) (pair_after t N D small i))
