-- ℤ as differences of naturals: `diff a b` is a − b. Each law turns a statement on ℤ into one on ℕ, which
-- `omega` reads: `simp diffs (omega arith)` proves an equation or an order of sums and products of such differences, and
-- `simp diffs at h` reads one.
use Rattle.laws.proofs.Basics.{◌≡◌, refl, sym, ap, subst, ◌↔◌, ℕ, zero, suc, ◌+◌, ◌-◌, ◌*◌, ◌≤◌, ◌<◌, arith, ltb, ltb→lt, nltb→le, leb→le, le→leb, ℤ, pos, negsuc, neg_ℤ, sub_ℕ, ◌+ℤ◌, ◌*ℤ◌, ◌≤ℤ◌, lt_z, nat_abs, ⊎_elim}
use Rattle.laws.proofs.{Comparisons.{not_most}, Tests.{by_cond, either}}
use lib.{IntN.{pos-ne-negsuc}, Signed.{◌<ℤ◌, lt_z_yes, lt_z_no, clash_ℤ}}

unfoldable pub diff : ℕ → ℕ → ℤ
diff a b = sub_ℕ a b

-- ---- `Is a b z`: a − b is z

data Is (a b : ℕ) : ℤ → Type 0 where
  above : (n : ℕ) → a ≡ n + b → Is a b (pos n)
  under : (n : ℕ) → b ≡ suc n + a → Is a b (negsuc n)

is : (a b : ℕ) → Is a b (diff a b)
unfolding diff
is a b = by_cond (Is a b) (ltb a b) (negsuc (b - suc a)) (pos (a - b)) (λ t. under _ (omega (arith, ltb→lt a b t))) (λ t. above _ (omega (arith, nltb→le a b t)))

moved : {z : ℤ} {a b c d : ℕ} → a + d ≡ c + b → Is a b z → Is c d z
moved e (above n h) = above n (omega arith)
moved e (under n h) = under n (omega arith)

is_neg : {z : ℤ} {a b : ℕ} → Is a b z → Is b a (neg_ℤ z)
is_neg (above zero h) = above 0 (omega arith)
is_neg (above (suc n) h) = under n (omega arith)
is_neg (under n h) = above (suc n) (omega arith)

-- two of them
module _ {a b c d : ℕ} where
  eq_iff : {z w : ℤ} → Is a b z → Is c d w → (z ≡ w) ↔ (a + d ≡ c + b)
  eq_iff (above m h) (above n k) = (λ e. omega (arith, ap nat_abs e), λ e. ap pos (omega arith))
  eq_iff (above m h) (under n k) = (λ e. absurd (pos-ne-negsuc m n e), λ e. absurd (omega arith))
  eq_iff (under m h) (above n k) = (λ e. absurd (pos-ne-negsuc n m (sym e)), λ e. absurd (omega arith))
  eq_iff (under m h) (under n k) = (λ e. omega (arith, ap nat_abs e), λ e. ap negsuc (omega arith))

  le_iff : {z w : ℤ} → Is a b z → Is c d w → (z ≤ℤ w) ↔ (a + d ≤ c + b)
  le_iff (above m h) (above n k) = (λ e. omega (arith, leb→le m n e.le), λ e. record { le = le→leb m n (omega arith) })
  le_iff (above m h) (under n k) = (λ e. absurd e.le, λ e. absurd (omega arith))
  le_iff (under m h) (above n k) = (λ e. omega arith, λ e. record { le = tt })
  le_iff (under m h) (under n k) = (λ e. omega (arith, leb→le n m e.le), λ e. record { le = le→leb n m (omega arith) })

  is_add : {z w : ℤ} → Is a b z → Is c d w → Is (a + c) (b + d) (z +ℤ w)
  unfolding diff
  is_add (above m h) (above n k) = above (m + n) (omega arith)
  is_add (above m h) (under n k) = moved (omega arith) (is m (suc n))
  is_add (under m h) (above n k) = moved (omega arith) (is n (suc m))
  is_add (under m h) (under n k) = under (suc (m + n)) (omega arith)

  is_mul : {z w : ℤ} → Is a b z → Is c d w → Is (a * c + b * d) (a * d + b * c) (z *ℤ w)
  is_mul (above m h) (above n k) = above (m * n) (rw (h, k) (omega arith))
  is_mul (above m h) (under n k) = is_neg (above (m * suc n) (rw (h, k) (omega arith)))
  is_mul (under m h) (above n k) = is_neg (above (suc m * n) (rw (h, k) (omega arith)))
  is_mul (under m h) (under n k) = above (suc m * suc n) (rw (h, k) (omega arith))

-- ---- the laws

is_diff : {z : ℤ} {a b : ℕ} → Is a b z → z ≡ diff a b
is_diff {z} {a} {b} h = (eq_iff h (is a b)).1 refl

pub diff_pos : (n : ℕ) → pos n ≡ diff n 0
diff_pos n = is_diff (above n (omega arith))

pub diff_negsuc : (n : ℕ) → negsuc n ≡ diff 0 (suc n)
diff_negsuc n = is_diff (under n (omega arith))

pub diff_neg : (a b : ℕ) → neg_ℤ (diff a b) ≡ diff b a
diff_neg a b = is_diff (is_neg (is a b))

module _ (a b c d : ℕ) where
  pub diff_add : diff a b +ℤ diff c d ≡ diff (a + c) (b + d)
  diff_add = is_diff (is_add (is a b) (is c d))

  pub diff_mul : diff a b *ℤ diff c d ≡ diff (a * c + b * d) (a * d + b * c)
  diff_mul = is_diff (is_mul (is a b) (is c d))

  pub diff_eq : (diff a b ≡ diff c d) ↔ (a + d ≡ c + b)
  diff_eq = eq_iff (is a b) (is c d)

  pub diff_le : ((diff a b) ≤ℤ (diff c d)) ↔ (a + d ≤ c + b)
  diff_le = le_iff (is a b) (is c d)

pub diff_lt : (a b c d : ℕ) → ((diff a b) <ℤ (diff c d)) ↔ (a + d < c + b)
diff_lt a b c d = (
  λ h. not_most (λ l. clash_ℤ h ((diff_le c d a b).1 l)),
  λ l. ⊎_elim (λ e. lt_z_yes (rw e tt)) (λ e. absurd (omega (arith, (diff_le c d a b).0 (lt_z_no (rw e tt))))) (either (lt_z (diff a b) (diff c d))),
)

pub ruleset diffs = (diff_pos, diff_negsuc, diff_neg, diff_add, diff_mul, diff_eq, diff_le, diff_lt)

-- what holds of every difference holds of every integer
pub by_diff : (P : ℤ → Type 0) → ((a b : ℕ) → P (diff a b)) → (z : ℤ) → P z
by_diff P f (pos n) = subst P (sym (diff_pos n)) (f n 0)
by_diff P f (negsuc n) = subst P (sym (diff_negsuc n)) (f 0 (suc n))

pub diff_sub : (a b : ℕ) → sub_ℕ a b ≡ diff a b
unfolding diff
diff_sub a b = refl
