-- Any run of digits, whatever chose them. As long as no step strays, the two words hold the true remainder P, −4D ≤ P < 4D. Once a step has strayed, P stays outside as a whole number, and the result is wrong.
use Rattle.laws.proofs.Basics.{◌≡◌, refl, sym, ap, ◌∙◌, subst, Bool, true, false, true≢false, ◌||◌, ◌⊎◌, inl, inr, ⊎_elim, ℕ, zero, suc, ◌+◌, ◌-◌, ◌*◌, ◌/◌, ◌%◌, ◌^◌, ◌≤◌, ◌<◌, arith, add-one, ltb, leb, ltb-true, ltb-false, leb-true, leb-false, ℤ, pos, negsuc, nat_abs, ◌+ℤ◌, ◌-ℤ◌, ◌*ℤ◌}
use Rattle.laws.{specs.Lists.{list_from}, proofs.Diff.{diff, diffs}, proofs.Division.{le_or_lt}, proofs.Tests.{either}, proofs.Words.{same_mod}}
use Rattle.std.proofs.Common.{mul-le-mul_right, mod-lt, lt_of_mul-lt-mul_right, eq-or-lt_of_le, div-add-mod'}
use Rattle.selection.{specs.Cell.{digit}, proofs.BiasedPoints.{digit_diff}}
use Rattle.recurrence.specs.{CarrySave.{sum3, maj3, multiple, lowest_carry}, Recurrence.{State, Operands, step_by, residue, start_of, value, formed}}
use Rattle.recurrence.specs.computed.Recheck.{ShowsWrong, left_by, left_end, strays_below}
use Rattle.recurrence.proofs.{CarrySave.{carry_save}, Steps.{biased, residue_biased, term}, Digits.{value_next}, Invariant.{quad, quarter}}
use Rattle.recurrence.proofs.Correction.{Corrected, corrected_same, corrected_less}

-- ---- one step

-- P + 4D modulo 2^64
abbrev pub lifted : State → ℕ
lifted p = (p.sum + p.carry + 4 * p.divisor) % 2 ^ 64

-- after a step it is four times what the digit leaves
lifted_next : (d : ℕ) (p : State) → lifted (step_by d p) ≡ 4 * left_by d p % 2 ^ 64
lifted_next d p = core (sum3 p.sum p.carry (multiple d p.divisor)) (maj3 p.sum p.carry (multiple d p.divisor)) (multiple d p.divisor) (lowest_carry d) (carry_save p.sum p.carry (multiple d p.divisor))
  where
    core : (σ μ x k : ℕ) → σ + μ * 2 ≡ p.sum + p.carry + x
        → (σ * 4 % 2 ^ 64 + (μ * 2 + k) * 4 % 2 ^ 64 + 4 * p.divisor) % 2 ^ 64 ≡ 4 * ((p.sum + p.carry + x + k + p.divisor) % 2 ^ 64) % 2 ^ 64
    core σ μ x k e = same_mod _ _ (2 ^ 64) (σ * 4 / 2 ^ 64 + (μ * 2 + k) * 4 / 2 ^ 64) (4 * ((p.sum + p.carry + x + k + p.divisor) / 2 ^ 64)) (omega arith)

module _ (d : ℕ) (p : State) (small : d ≤ 4) (most : p.divisor < 2 ^ 61) where
  -- a step that does not stray: (q − 1)D ≤ P < (q + 1)D
  left_within : left_by d p < left_end p.divisor → lifted p ≡ left_by d p + d * p.divisor + p.divisor
  left_within h =
      let x = term d p.divisor small most in
      omega (arith, x.1, mul-le-mul_right p.divisor small)

  -- one that does
  left_beyond : lifted p < 8 * p.divisor → left_end p.divisor ≤ left_by d p → (lifted p < d * p.divisor + p.divisor) ⊎ (d * p.divisor + 3 * p.divisor ≤ lifted p)
  left_beyond l h =
      let x = term d p.divisor small most in
      ⊎_elim (λ (g : d * p.divisor + p.divisor ≤ lifted p). inr (omega (arith, x.1, mul-le-mul_right p.divisor small))) (λ g. inl g) (le_or_lt (d * p.divisor + p.divisor) (lifted p))

-- ---- the remainder as a whole number

-- 4M = N·4^i·4 .. the digits make z, and M − 4zD is not from −4D to 4D − 1
pub record Outside (M D : ℕ) (z : ℤ) : Type 0 where
  pub up : ℕ
  pub down : ℕ
  pub is : z ≡ diff up down
  pub out : (4 * (up * D) + 4 * D ≤ M + 4 * (down * D)) ⊎ (M + 4 * (down * D) + 4 * D < 4 * (up * D))

-- it stays so
outside_next : (M D d : ℕ) {z : ℤ} → d ≤ 4 → Outside M D z → Outside (M * 4) D (pos 4 *ℤ z +ℤ digit d)
outside_next M D d {z} h o =
    let l : d * D ≤ 4 * D = mul-le-mul_right D h in
    record {
      up = 4 * o.up + d;
      down = 4 * o.down + 2;
      is = rw (o.is, digit_diff d) (simp diffs (omega arith));
      out = ⊎_elim (λ x. inl (omega arith)) (λ x. inr (omega arith)) o.out;
    }

-- and at the end the result shows itself wrong
pub outside_result : (M D n : ℕ) {z : ℤ} → Outside (M * 4) D z → ShowsWrong M D (formed z (pos M -ℤ z *ℤ pos D) D n)
outside_result M D n {z} o =
    let u = o.up * D in
    let v = o.down * D in
    ⊎_elim
    (λ (x : 4 * u + 4 * D ≤ M * 4 + 4 * v).
    let e : pos M -ℤ z *ℤ pos D ≡ pos (M + v - u) = rw o.is (simp diffs (omega arith)) in
    subst (λ (E : ℤ). ShowsWrong M D (formed z E D n)) (sym e) (inl (omega arith)))
    (λ (x : M * 4 + 4 * v + 4 * D < 4 * u).
    let e : pos M -ℤ z *ℤ pos D ≡ negsuc (u - (M + v) - 1) = rw o.is (simp diffs (omega arith)) in
    let l : o.down + 1 < o.up = lt_of_mul-lt-mul_right D (omega arith) in
    let c : o.up - (o.down + 1) + o.down + 1 ≡ o.up = omega arith in
    let q : z -ℤ pos 1 ≡ pos (o.up - (o.down + 1)) = rw o.is (simp diffs (omega arith)) in
    let m : M < (o.up - (o.down + 1)) * D = omega (arith, ap (λ (k : ℕ). k * D) c) in
    subst (λ (E : ℤ). ShowsWrong M D (formed z E D n)) (sym e) (inr (subst (λ (w : ℤ). M < nat_abs w * D) (sym q) m)))
    o.out

-- neither z nor z − 1 is the quotient
pub outside_neither : (M D : ℕ) {z : ℤ} → 0 < D → Outside (M * 4) D z → (z ≡ pos (M / D) → ⊥) × (z -ℤ pos 1 ≡ pos (M / D) → ⊥)
outside_neither M D {z} p o = (
  λ f. let g : o.up ≡ M / D + o.down = omega (arith, simp diffs at (sym o.is ∙ f)) in far (inl (ap (λ (k : ℕ). k * D) g)),
  λ f. let g : o.up ≡ M / D + o.down + 1 = omega (arith, simp diffs at (rw o.is at f)) in far (inr (ap (λ (k : ℕ). k * D) g)),
)
  where
    far : (o.up * D ≡ (M / D + o.down) * D) ⊎ (o.up * D ≡ (M / D + o.down + 1) * D) → ⊥
    far h = ⊎_elim (λ x. ⊎_elim (λ y. omega (arith, div-add-mod' M D, mod-lt M p)) (λ y. omega (arith, div-add-mod' M D, mod-lt M p)) h)
        (λ x. ⊎_elim (λ y. omega (arith, div-add-mod' M D, mod-lt M p)) (λ y. omega (arith, div-add-mod' M D, mod-lt M p)) h) o.out

-- S·D at most D from M: the result is right
inside_result : (S M D : ℕ) → S * D ≤ M + D → M < S * D + D → (Q : ℕ) × (R : ℕ) × Corrected S M D Q R
inside_result S M D lo hi = ⊎_elim
    (λ (h : S * D ≤ M). (S, M - S * D, corrected_same S M D (M - S * D) (omega arith) (omega arith))) (λ (h : M < S * D). less S lo h) (le_or_lt (S * D) M)
  where
    less : (S : ℕ) → S * D ≤ M + D → M < S * D → (Q : ℕ) × (R : ℕ) × Corrected S M D Q R
    less zero l h = absurd (omega arith)
    less (suc s) l h = (s, M - s * D, rw (← add-one s) (corrected_less s M D (M - s * D) (omega arith) (omega arith)))

-- ---- a run: its states and its digit bytes

-- after i steps, none of which strayed, the digits make S, and the words hold P = N·4^i − 4SD
pub record Exact (p : ℕ → State) (d : ℕ → ℕ) (N D i S : ℕ) : Type 0 where
  pub small : (j : ℕ) → j < i → d j ≤ 4
  pub makes : value (list_from d 0 i) ≡ pos S
  pub meets : lifted (p i) + 4 * (S * D) ≡ N * 4 ^ i + 4 * D
  pub below : lifted (p i) < 8 * D

-- one of the first i bytes is no digit
pub record NoDigit (d : ℕ → ℕ) (i : ℕ) : Type 0 where
  pub step : ℕ
  pub early : step < i
  pub above : 4 < d step

-- n steps, none of which strayed: the digits make a number S from which the right quotient Q and remainder R are formed
pub record ExactEnd (d : ℕ → ℕ) (N D n : ℕ) : Type 0 where
  pub small : (j : ℕ) → j < n → d j ≤ 4
  pub made : ℕ
  pub makes : value (list_from d 0 n) ≡ pos made
  pub Q : ℕ
  pub R : ℕ
  pub corrected : Corrected made (N * 4 ^ (n - 1)) D Q R

-- a run that has strayed has strayed later too
pub strays_later : (p : ℕ → State) (d : ℕ → ℕ) (i n : ℕ) → i ≤ n → strays_below p d i ≡ true → strays_below p d n ≡ true
unfolding strays_below
strays_later p d i zero h e = let z : i ≡ 0 = omega arith in rw z at e
strays_later p d i (suc n) h e = ⊎_elim (λ (q : i ≡ suc n). rw q at e) (λ (l : i < suc n). rw (strays_later p d i n (omega arith) e) refl) (eq-or-lt_of_le h)

-- what the test x says of i steps
record Told (p : ℕ → State) (d : ℕ → ℕ) (N D i : ℕ) (x : Bool) : Type 0 where
  right : x ≡ false → (S : ℕ) × Exact p d N D i S
  wrong : x ≡ true → NoDigit d i ⊎ Outside (N * 4 ^ i) D (value (list_from d 0 i))

module _ (p : ℕ → State) (d : ℕ → ℕ) (N D : ℕ) (o : Operands N D) (first : p 0 ≡ start_of N D) (next : (i : ℕ) → p (suc i) ≡ step_by (d i) (p i)) where
  divisor_of : (i : ℕ) → (p i).divisor ≡ D
  divisor_of zero = ap (λ (s : State). s.divisor) first
  divisor_of (suc i) = ap (λ (s : State). s.divisor) (next i) ∙ divisor_of i

  exact_start : Exact p d N D 0 0
  unfolding value list_from
  exact_start = record { small = λ j h. omega arith; makes = refl; meets = rw first (omega (arith, o.dividend, o.most)); below = rw first (omega (arith, o.dividend, o.least, o.most)) }

  exact_next : (i S : ℕ) → Exact p d N D i S → d i ≤ 4 → left_by (d i) (p i) < left_end (p i).divisor → Exact p d N D (suc i) (4 * S + d i - 2)
  exact_next i S x s l =
      let v = divisor_of i in
      let m : (p i).divisor < 2 ^ 61 = omega (arith, o.most) in
      let k : lifted (p i) ≡ left_by (d i) (p i) + d i * D + D = left_within (d i) (p i) s m l ∙ ap (λ (x : ℕ). left_by (d i) (p i) + d i * x + x) v in
      let f : lifted (p (suc i)) ≡ 4 * left_by (d i) (p i) = ap lifted (next i) ∙ lifted_next (d i) (p i) ∙ omega arith in
      -- S stays a natural number
      let e : 1 < 4 * S + d i = lt_of_mul-lt-mul_right D (omega (arith, x.meets)) in
      let g : 4 * S + d i - 2 + 2 ≡ 4 * S + d i = omega arith in
      record {
        small = λ j h. ⊎_elim (λ (q : j ≡ i). subst (λ (b : ℕ). d b ≤ 4) (sym q) s) (λ (q : j < i). x.small j q) (eq-or-lt_of_le (omega arith));
        makes = value_next d i ∙ rw (x.makes, digit_diff (d i)) (simp diffs (omega arith));
        meets = omega (arith, x.meets, quad N i, ap (λ (n : ℕ). n * D) g);
        below = omega arith;
      }

  outside_start : (i S : ℕ) → Exact p d N D i S → d i ≤ 4 → left_end (p i).divisor ≤ left_by (d i) (p i) → Outside (N * 4 ^ suc i) D (value (list_from d 0 (suc i)))
  outside_start i S x s l =
      let v = divisor_of i in
      let w = ap (λ (x : ℕ). d i * x) v in
      let m : (p i).divisor < 2 ^ 61 = omega (arith, o.most) in
      record {
        up = 4 * S + d i;
        down = 2;
        is = value_next d i ∙ rw (x.makes, digit_diff (d i)) (simp diffs (omega arith));
        out = ⊎_elim (λ g. inr (omega (arith, w, x.meets, quad N i))) (λ g. inl (omega (arith, w, x.meets, quad N i))) (left_beyond (d i) (p i) s m (omega (arith, x.below)) l);
      }

  told : (i : ℕ) → Told p d N D i (strays_below p d i)
  unfolding strays_below
  told zero = record { right = λ e. (0, exact_start); wrong = λ e. absurd (true≢false (sym e)) }
  told (suc i) = go (strays_below p d i) (ltb 4 (d i)) (leb (left_end (p i).divisor) (left_by (d i) (p i))) refl refl (told i)
    where
      more : NoDigit d i → NoDigit d (suc i)
      more x = record { step = x.step; early = omega (arith, x.early); above = x.above }

      on : Outside (N * 4 ^ i) D (value (list_from d 0 i)) → NoDigit d (suc i) ⊎ Outside (N * 4 ^ suc i) D (value (list_from d 0 (suc i)))
      on x = ⊎_elim (λ (s : d i ≤ 4). inr (rw (quad N i, value_next d i) (outside_next (N * 4 ^ i) D (d i) s x))) (λ (b : 4 < d i). inl (record { step = i; early = omega arith; above = b })) (le_or_lt (d i) 4)

      go : (x a b : Bool) → ltb 4 (d i) ≡ a → leb (left_end (p i).divisor) (left_by (d i) (p i)) ≡ b → Told p d N D i x → Told p d N D (suc i) (x || (a || b))
      go true a b f g t = record { right = λ e. absurd (true≢false e); wrong = λ e. ⊎_elim (λ x. inl (more x)) on (t.wrong refl) }
      go false true b f g t = record { right = λ e. absurd (true≢false e); wrong = λ e. inl (record { step = i; early = omega arith; above = ltb-true 4 (d i) f }) }
      go false false true f g t = record {
        right = λ e. absurd (true≢false e);
        wrong = λ e. let x = t.right refl in inr (outside_start i x.0 x.1 (ltb-false 4 (d i) f) (leb-true _ _ g));
      }
      go false false false f g t = record {
        right = λ e. let x = t.right refl in (_, exact_next i x.0 x.1 (ltb-false 4 (d i) f) (leb-false _ _ g));
        wrong = λ e. absurd (true≢false (sym e));
      }

  -- before each of n steps and after the last, where none strayed, the words hold the true remainder
  pub exact_words : (n i : ℕ) → strays_below p d n ≡ false → i ≤ n → residue (p i) ≡ pos (N * 4 ^ i) -ℤ pos 4 *ℤ (value (list_from d 0 i) *ℤ pos D)
  exact_words n i e h =
      let f : strays_below p d i ≡ false = ⊎_elim (λ g. absurd (true≢false (sym (strays_later p d i n h g) ∙ e))) (λ g. g) (either (strays_below p d i)) in
      let x = ((told i).right f).1 in
      let v = divisor_of i in
      let b : biased (p i) + 4 * D ≡ lifted (p i) + 2 ^ 63 = omega (arith, x.below, o.most) in
      residue_biased (p i) ∙ rw x.makes (simp diffs (omega (arith, x.meets)))

  -- after the last of n steps
  module _ (n : ℕ) (h : 1 ≤ n) where
    -- no step strayed
    pub exact_end : strays_below p d n ≡ false → ExactEnd d N D n
    exact_end e =
        let t = (told n).right e in
        let x = t.1 in
        let q = quarter N n h in
        let c = inside_result t.0 (N * 4 ^ (n - 1)) D (omega (arith, x.meets)) (omega (arith, x.meets, x.below)) in
        record { small = x.small; made = t.0; makes = x.makes; Q = c.0; R = c.1; corrected = c.2 }

    -- one did
    pub outside_end : strays_below p d n ≡ true → NoDigit d n ⊎ Outside (N * 4 ^ (n - 1) * 4) D (value (list_from d 0 n))
    outside_end e = rw (quarter N n h) at ((told n).wrong e)
