-- The correction of the last digit: the sign of the last remainder says whether S is one too large. The code corrects by the words;
-- S and the end remainder, corrected, are the same numbers, and they are quotient and remainder of N·4^(n−1) by D.
use Rattle.laws.proofs.Basics.{◌≡◌, refl, sym, ap, ap₂, subst, ◌∙◌, false, cond, List, ℕ, zero, suc, ◌+◌, ◌-◌, ◌*◌, ◌/◌, ◌%◌, ◌^◌, ◌≤◌, ◌<◌, arith, ltb, ltb→lt, nltb→le, ℤ, pos, negsuc, nat_abs, ◌+ℤ◌}
use Rattle.laws.proofs.Basics.{non_neg}
use Rattle.laws.proofs.{Diff.{diff, diffs, diff_sub}, Division.{quotient}, Tests.{by_cond}}
use Rattle.std.proofs.Common.{add-zero}
use Rattle.recurrence.specs.{Recurrence.{after, digits, value, corrected_quotient, corrected_remainder, end_remainder, result_of}, computed.Run.{longest}, computed.FastRun.{result_from_word}}
use Rattle.recurrence.specs.{computed.Recheck.{exact_result}, computed.OnTheFly.{PairOf}, declared.RunResult.{RunResult}}
use Rattle.recurrence.proofs.{Steps.{biased, below_word}, Invariant.{Meets, fits_word, Invariant, word_after, quarter}, Pair.{word_one}}
use Rattle.selection.specs.declared.Estimate.{Estimate}

-- S and M − S·D, corrected, are Q and R
pub record Corrected (S M D Q R : ℕ) : Type 0 where
  pub quotient : corrected_quotient (pos S) (diff M (S * D)) ≡ pos Q
  pub remainder : corrected_remainder (diff M (S * D)) D ≡ pos R
  pub divides : Q * D + R ≡ M
  pub below : R < D

-- S is the quotient Q, or one more
pub corrected_same : (Q M D R : ℕ) → Q * D + R ≡ M → R < D → Corrected Q M D Q R
corrected_same Q M D R e l = let d : diff M (Q * D) ≡ pos R = simp diffs (omega arith) in record { quotient = rw d refl; remainder = rw d refl; divides = e; below = l }

pub corrected_less : (Q M D R : ℕ) → Q * D + R ≡ M → R < D → Corrected (Q + 1) M D Q R
corrected_less Q M D R e l =
    let d : diff M ((Q + 1) * D) ≡ negsuc (D - R - 1) = simp diffs (omega arith) in
    let f : non_neg (diff M ((Q + 1) * D)) ≡ false = ap non_neg d in
    let p : diff M ((Q + 1) * D) +ℤ pos D ≡ pos R = simp diffs (omega arith) in
    record { quotient = rw f (diff_sub (Q + 1) 1 ∙ simp diffs (omega arith)); remainder = rw f p; divides = e; below = l }

-- ---- by the last remainder, as a word modulo 2^64

-- the answer from S, the divisor D and that word
abbrev pub by_sign : ℕ → ℕ → ℕ → ℕ → RunResult
by_sign S D w n = record { quotient = S - w / 2 ^ 63; remainder = (w / 4 + w / 2 ^ 63 * (D + 3 * 2 ^ 62)) % 2 ^ 64; count = n }

-- S is Q, or one more; the remainder tells which
by_word : (S D w M : ℕ) → 0 < D → D < 2 ^ 61 → w < 2 ^ 64 → w / 2 ^ 63 ≤ S → w + 4 * (S * D) ≡ M * 4 + w / 2 ^ 63 * 2 ^ 64
    → 3 * w ≤ w / 2 ^ 63 * 3 * 2 ^ 64 + 8 * D → w / 2 ^ 63 * 3 * 2 ^ 64 ≤ 3 * w + 8 * D
    → Corrected S M D (S - w / 2 ^ 63) ((w / 4 + w / 2 ^ 63 * (D + 3 * 2 ^ 62)) % 2 ^ 64)
by_word S D w M z m l h e lo hi =
    let q : S - w / 2 ^ 63 + w / 2 ^ 63 ≡ S = omega arith in
    subst (λ (T : ℕ). Corrected T M D (S - w / 2 ^ 63) ((w / 4 + w / 2 ^ 63 * (D + 3 * 2 ^ 62)) % 2 ^ 64)) q
    (go (w / 2 ^ 63) (S - w / 2 ^ 63) _ refl refl (omega (arith, ap (λ (k : ℕ). k * D) q)) lo hi)
  where
    go : (s Q R : ℕ) → w / 2 ^ 63 ≡ s → R ≡ (w / 4 + s * (D + 3 * 2 ^ 62)) % 2 ^ 64 → w + 4 * ((Q + s) * D) ≡ M * 4 + s * 2 ^ 64
        → 3 * w ≤ s * 3 * 2 ^ 64 + 8 * D → s * 3 * 2 ^ 64 ≤ 3 * w + 8 * D → Corrected (Q + s) M D Q R
    go zero Q R q r e lo hi = rw (add-zero Q) (corrected_same Q M D R (omega arith) (omega arith))
    go (suc zero) Q R q r e lo hi =
        let u : R + 2 ^ 62 ≡ w / 4 + D = omega arith in
        let v : w / 4 + (Q * D + D) ≡ M + 2 ^ 62 = omega arith in
        corrected_less Q M D R (omega arith) (omega arith)
    go (suc (suc s)) Q R q r e lo hi = absurd (omega arith)

-- ---- the answer of a run

-- the sign takes one from S, or chooses: v is S, u one less
by_choice : (S v u w : ℕ) → w < 2 ^ 64 → w / 2 ^ 63 ≤ S → S ≡ v → v ≡ (u + 1) % 2 ^ 64 → u < 2 ^ 64 → cond (ltb w (2 ^ 63)) v u ≡ S - w / 2 ^ 63
by_choice S v u w b h e o m =
    by_cond (λ (q : ℕ). q ≡ S - w / 2 ^ 63) (ltb w (2 ^ 63)) v u (λ c. omega (arith, ltb→lt)) (λ c. omega (arith, nltb→le))

-- where the last remainder is negative, S is not 0
sign_at_most : (S D M W : ℕ) → W < 2 ^ 64 → W + 4 * (S * D) ≡ M + 2 ^ 63 → (W + 2 ^ 63) % 2 ^ 64 / 2 ^ 63 ≤ S
sign_at_most zero D M W l e = omega arith
sign_at_most (suc S) D M W l e = omega arith

-- after steps of any kind, w being the remainder
module _ {W N D n S w : ℕ} (k : Meets W N D n S) (h : 1 ≤ n) (e : w ≡ (W + 2 ^ 63) % 2 ^ 64) where
  sign_most : w / 2 ^ 63 ≤ S
  sign_most = rw e (sign_at_most S D _ W (below_word k.in_range) k.meets)

  pub corrected_word : let r = by_sign S D w n in Corrected S (N * 4 ^ (n - 1)) D r.quotient r.remainder
  corrected_word =
      -- the word is the remainder, and 2^64 more where the sign is set
      let b : w + 2 ^ 63 ≡ W + w / 2 ^ 63 * 2 ^ 64 = omega (arith, below_word k.in_range) in
      by_word S D w (N * 4 ^ (n - 1)) (omega (arith, k.in_range.least)) k.in_range.most (omega arith) sign_most
      (omega (arith, k.meets, quarter N n h)) (omega (arith, k.in_range.below)) (omega (arith, k.in_range.above))

  -- quotient and remainder of N·4^(n−1) by D
  pub word_exact : by_sign S D w n ≡ exact_result N D n
  word_exact = let c = corrected_word in let q = quotient c.divides c.below in rw (q.0, q.1)

  -- and the code's, which chooses the quotient
  pub result_from_word_law : {v u : ℕ} → S ≡ v → v ≡ (u + 1) % 2 ^ 64 → u < 2 ^ 64 → result_from_word v u D w n ≡ exact_result N D n
  result_from_word_law {v} {u} s o m = rw (by_choice S v u w (omega arith) sign_most s o m) word_exact

-- in a divider with the estimate E
module _ (E : Estimate) where
  module _ (t : List ℕ) (N D n S : ℕ) (k : Invariant E t N D n S) where
    pub end_remainder_law : 1 ≤ n → end_remainder E t N D n ≡ diff (N * 4 ^ (n - 1)) (S * D)
    unfolding end_remainder
    end_remainder_law h = rw k.makes (simp diffs (omega arith))

    -- the word is the sum of the last two
    abbrev pub last_word_value : ℕ
    last_word_value = ((after E t N D n).sum + (after E t N D n).carry) % 2 ^ 64

    pub last_word : last_word_value ≡ (biased (after E t N D n) + 2 ^ 63) % 2 ^ 64
    last_word = omega arith

    -- the answer is that which S and the end remainder form
    pub result_by_sign : 1 ≤ n → by_sign S D last_word_value n ≡ result_of E t N D n
    unfolding result_of
    result_by_sign h =
        let c = corrected_word (word_after E t N D k) h last_word in
        rw (k.makes, end_remainder_law h)
        (sym (ap₂ (λ (a b : ℤ). record { quotient = nat_abs a; remainder = nat_abs b; count = n }) c.quotient c.remainder))

    pub corrected_result : 1 ≤ n → Corrected S (N * 4 ^ (n - 1)) D (result_of E t N D n).quotient (result_of E t N D n).remainder
    corrected_result h = rw (← result_by_sign h) (corrected_word (word_after E t N D k) h last_word)

    -- and the right one
    pub exact_result_law : 1 ≤ n → result_of E t N D n ≡ exact_result N D n
    exact_result_law h = sym (result_by_sign h) ∙ word_exact (word_after E t N D k) h last_word

    -- the code's chooses one of the last pair
    pub result_from_pair : 1 ≤ n → n ≤ longest → PairOf (value (digits E t N D n)) (after E t N D n)
        → result_from_word (after E t N D n).value (after E t N D n).decremented D last_word_value n ≡ result_of E t N D n
    result_from_pair h m c =
        let w = word_after E t N D k in
        let e : S ≡ (after E t N D n).value = word_one S _ (fits_word w m) (rw k.makes at c.value) in
        result_from_word_law w h last_word e c.one_apart c.decremented.word ∙ sym (exact_result_law h)
