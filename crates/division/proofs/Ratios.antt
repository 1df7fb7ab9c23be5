-- How two ratios compare, found through the remainders.
use Rattle.laws.proofs.{Basics.{◌≡◌, refl, sym, ap, subst, ◌∙◌, ◌⊎◌, inl, inr, ⊎_elim, true, false, ℕ, zero, suc, ◌+◌, ◌*◌, ◌/◌, ◌%◌, ◌^◌, ◌≤◌, ◌<◌, arith, lit<}, Division.{le_or_lt}}
use Rattle.std.proofs.lemmas.Cmp.{ranked, by_ranked}
use Rattle.std.specs.Ordering.{nat_cmp, is_ne}
use Rattle.std.proofs.lemmas.Bool.Decides.{nat_tests}
use Rattle.std.proofs.Common.{lt_trans, mul-le-mul_right, mod-lt, mul-lt-mul_of_pos_right, mul-pos, div-add-mod', le-div_iff_mul-le}
use Rattle.selection.{specs.computed.Outcomes.{made_table}, proofs.MadeTables.{kept_passes}, specs.declared.Estimate.TheVariants.{EightBits}}
use Rattle.division.specs.{computed.WholeSteps.{whole_through}, computed.Ratios.{Ratios, Round, FoundIn, comparison_of}, declared.whole.WholeResult.{WholeResult}}
use Rattle.std.specs.declared.cmp.Ordering.TheVariants.{Less, Equal, Greater}
use Rattle.division.proofs.WholeThrough.{whole_divides}

-- ---- how two numbers compare

pub comparison_less : (m n : ℕ) → m < n → comparison_of m n ≡ Less
comparison_less m n h = grind (arith, nat_tests)

pub comparison_equal : (m n : ℕ) → m ≡ n → comparison_of m n ≡ Equal
comparison_equal m n h = grind (arith, nat_tests)

pub comparison_greater : (m n : ℕ) → n < m → comparison_of m n ≡ Greater
comparison_greater m n h = grind (arith, nat_tests)

-- a number that both have more
compared_same : (m n k : ℕ) → comparison_of (k + m) (k + n) ≡ comparison_of m n
compared_same m n k = grind (arith, nat_tests)

-- ---- a round

-- the smaller whole part is that of the smaller ratio
parts_less : (a b c d : ℕ) → 0 < b → 0 < d → a / b < c / d → a * d < c * b
parts_less a b c d hb hd l =
    let x : a % b * d < b * d = mul-lt-mul_of_pos_right (mod-lt a hb) hd in
    let y : (a / b + 1) * (b * d) ≤ c / d * (b * d) = mul-le-mul_right (b * d) (omega arith) in
    omega (arith, x, y, ap (λ (z : ℕ). z * d) (div-add-mod' a b), ap (λ (z : ℕ). z * b) (div-add-mod' c d))

module _ (a b c d : ℕ) (hb : 0 < b) (hd : 0 < d) where
  -- where the whole parts are the same, the remainders tell
  by_rest : a / b ≡ c / d → comparison_of (a * d) (c * b) ≡ comparison_of (d * (a % b)) (b * (c % d))
  by_rest e =
      let x : a * d ≡ a / b * (b * d) + d * (a % b) = omega (arith, ap (λ (z : ℕ). z * d) (div-add-mod' a b)) in
      let y : c * b ≡ a / b * (b * d) + b * (c % d) = rw e (omega (arith, ap (λ (z : ℕ). z * b) (div-add-mod' c d))) in
      rw (x, y, compared_same (d * (a % b)) (b * (c % d)) (a / b * (b * d)))

  round_to : {N : Type 0} → (a / b ≡ c / d → 0 < a % b → 0 < c % d → N) → Round (a / b) (a % b) (c / d) (c % d) (comparison_of (a * d) (c * b)) N
  round_to next = record {
    less = λ h. comparison_less (a * d) (c * b) (parts_less a b c d hb hd h);
    greater = λ h. comparison_greater (a * d) (c * b) (parts_less c d a b hd hb h);
    both_end = λ e h k. by_rest e ∙ comparison_equal (d * (a % b)) (b * (c % d)) (rw (h, k) (omega arith));
    first_ends = λ e h k. by_rest e ∙ comparison_less (d * (a % b)) (b * (c % d)) (rw h (omega (arith, mul-pos hb k)));
    second_ends = λ e h k. by_rest e ∙ comparison_greater (d * (a % b)) (b * (c % d)) (rw k (omega (arith, mul-pos hd h)));
    next = next;
  }

  pub round_of : Round (a / b) (a % b) (c / d) (c % d) (comparison_of (a * d) (c * b)) (comparison_of (d * (a % b)) (b * (c % d)) ≡ comparison_of (a * d) (c * b))
  round_of = round_to (λ e h k. sym (by_rest e))

-- ---- how many rounds: Fibonacci's numbers grow as slowly as remainders can

-- from 1 and 2 on
abbrev fibonacci_from : ℕ → ℕ → ℕ → ℕ
fibonacci_from i j zero = i
fibonacci_from i j (suc n) = fibonacci_from j (i + j) n

sum_of_two : (n i j : ℕ) → fibonacci_from i j (suc (suc n)) ≡ fibonacci_from i j (suc n) + fibonacci_from i j n
sum_of_two zero i j = omega arith
sum_of_two (suc n) i j = sum_of_two n j (i + j)

-- a divisor y, below the n-th of them or below the dividend x, which is below the next
abbrev Within : ℕ → ℕ → ℕ → Type 0
Within n x y = (y < fibonacci_from 1 2 n) ⊎ ((y < x) × (x < fibonacci_from 1 2 (suc n)))

-- once around, the divisor is the dividend and the remainder the divisor
within_next : (n x y : ℕ) → 0 < y → Within (suc n) x y → Within n y (x % y)
within_next n x y h u = ⊎_elim
    (λ (l : fibonacci_from 1 2 (suc n) ≤ y). inl (⊎_elim (λ (k : y < fibonacci_from 1 2 (suc n)). absurd (omega arith))
    (λ (k : (y < x) × (x < fibonacci_from 1 2 (suc (suc n)))).
    -- at least one divisor is taken away
    let z = mul-le-mul_right y ((le-div_iff_mul-le {k = y} {x = 1} {y = x} h).1 (omega (arith, k.0))) in
    omega (arith, sum_of_two n 1 2, k.1, div-add-mod' x y, z)) u))
    (λ (l : y < fibonacci_from 1 2 (suc n)). inr (mod-lt x h, l))
    (le_or_lt (fibonacci_from 1 2 (suc n)) y)

found_within : (n a b c d : ℕ) → 0 < b → 0 < d → Within n a b → Within n c d → FoundIn n a b c d (comparison_of (a * d) (c * b))
unfolding FoundIn
found_within zero a b c d hb hd u v = ⊎_elim (λ (k : b < 1). omega arith) (λ (k : (b < a) × (a < 2)). omega (arith, k.0, k.1)) u
found_within (suc n) a b c d hb hd u v = round_to a b c d hb hd (λ e r s.
    subst (FoundIn n d (c % d) b (a % b)) (sym (by_rest a b c d hb hd e)) (found_within n d (c % d) b (a % b) s r (within_next n c d hd v) (within_next n a b hb u)))

-- 2^60 is below the 87th
pub found_in_87 : (a b c d : ℕ) → Ratios a b c d → FoundIn 87 a b c d (comparison_of (a * d) (c * b))
found_in_87 a b c d r =
    let most : 2 ^ 60 < fibonacci_from 1 2 87 = lit< {m = 2 ^ 60} {n = fibonacci_from 1 2 87} tt in
    found_within 87 a b c d r.b_some r.d_some (inl (lt_trans r.b_below most)) (inl (lt_trans r.d_below most))

-- ---- a round of the code: x and y are the divisions of n by m and of p by q
module _ (n m p q : ℕ) (x y : WholeResult) (r : Ratios n m p q) (ex : x ≡ whole_through EightBits (made_table EightBits) n m) (ey : y ≡ whole_through EightBits (made_table EightBits) p q) where
  first : x ≡ record { quotient = n / m; remainder = n % m }
  first = ex ∙ whole_divides EightBits (made_table EightBits) n m (kept_passes EightBits) r.a_below r.b_some r.b_below

  second : y ≡ record { quotient = p / q; remainder = p % q }
  second = ey ∙ whole_divides EightBits (made_table EightBits) p q (kept_passes EightBits) r.c_below r.d_some r.d_below

  pub code_round : Round x.quotient x.remainder y.quotient y.remainder (comparison_of (n * q) (p * m)) (comparison_of (q * x.remainder) (m * y.remainder) ≡ comparison_of (n * q) (p * m))
  code_round = rw (first, second) (round_of n m p q r.b_some r.d_some)

  below : (x.remainder < m) × (y.remainder < q)
  below = rw (first, second) (mod-lt n r.b_some, mod-lt p r.d_some)

  -- quotients that differ tell
  pub quotients_tell : is_ne (nat_cmp x.quotient y.quotient) ≡ true → nat_cmp x.quotient y.quotient ≡ comparison_of (n * q) (p * m)
  quotients_tell h = by_ranked _ _ _ _ (ranked x.quotient y.quotient _ refl) (λ e l. e ∙ sym (code_round.less l)) (λ e l. cc) (λ e l. e ∙ sym (code_round.greater l))

  pub quotients_same : is_ne (nat_cmp x.quotient y.quotient) ≡ false → x.quotient ≡ y.quotient
  quotients_same h = grind (arith, nat_tests)

  -- then a remainder of 0 tells
  pub remainders_tell : x.quotient ≡ y.quotient → (x.remainder ≡ 0) ⊎ (y.remainder ≡ 0) → nat_cmp x.remainder y.remainder ≡ comparison_of (n * q) (p * m)
  remainders_tell e z = by_ranked _ _ _ _ (ranked x.remainder y.remainder _ refl)
      (λ o l. o ∙ sym (code_round.first_ends e (⊎_elim (λ h. h) (λ h. omega arith) z) (omega arith)))
      (λ o l. o ∙ sym (code_round.both_end e (⊎_elim (λ h. h) (λ h. omega arith) z) (⊎_elim (λ h. omega arith) (λ h. h) z)))
      (λ o l. o ∙ sym (code_round.second_ends e (omega arith) (⊎_elim (λ h. omega arith) (λ h. h) z)))

  -- the next round has smaller divisors
  pub round_next : (x.remainder ≡ 0 → ⊥) → (y.remainder ≡ 0 → ⊥) → Ratios q y.remainder m x.remainder × (y.remainder + x.remainder < m + q)
  round_next h k = omega (arith, below)
