-- The specification's points over the integers, and those over natural numbers, are the same: P is W - 2^63.
use Rattle.laws.proofs.{Basics.{◌≡◌, sym, ap, ◌∙◌, ◌⊎◌, inl, inr, ⊎_elim, ◌↔◌, ℕ, ◌+◌, ◌*◌, ◌-◌, ◌%◌, ◌^◌, ◌≤◌, arith, ltb, ltb→lt, nltb→le, ℤ, pos, ◌-ℤ◌, ◌*ℤ◌}, Tests.{by_cond}}
use Rattle.std.specs.Prelude.{Ok, Err}
use Rattle.laws.proofs.{Diff.{diff, diffs, diff_sub, diff_eq}, Division.{le_or_lt}, Words.{same_mod}}
use Rattle.selection.specs.{Word.{signed, Within}, Cell.{Point, Keeps, Allows, Against, digit}, computed.Cell.{IsCell, cell_rules, CellChecked, CellMeaning}}
use Rattle.selection.specs.computed.{CellTest.{Finding, multiples_of, test_of, cell_verdict_of}, CellTest.Finding.{NoWitness, LeastAt}, Answer.{answer_by}, Refusals.{Wrongs, rank, IsFirstRefusal}}
use Rattle.selection.specs.{computed.Outcomes.{cell_of}, declared.Estimate.{Estimate}}
use Rattle.selection.proofs.{Rules.{WellFormed, by_first}, RuleByRule.{none_clear, clear_none, clear_admits}, BreakingPoints.{BiasedPoint, Low, High, Breaks, IsLeast}}
use Rattle.selection.proofs.{TestIsSearch.{test_right}, Search.{span_most}}

-- a word read as signed is that word with its top bit turned, less 2^63
pub signed_diff : (n : ℕ) → signed n ≡ diff ((n + 2 ^ 63) % 2 ^ 64) (2 ^ 63)
unfolding signed
signed_diff n =
    by_cond (λ z. z ≡ diff ((n + 2 ^ 63) % 2 ^ 64) (2 ^ 63)) (ltb (n % 2 ^ 64) (2 ^ 63)) _ _
    (λ t. simp diffs (omega (arith, ltb→lt))) (λ t. diff_sub (n % 2 ^ 64) (2 ^ 64) ∙ (diff_eq _ _ _ _).1 (omega (arith, nltb→le)))

-- numbers that are equal modulo 2^64 read alike
pub signed_same : (m n j k : ℕ) → m + j * 2 ^ 64 ≡ n + k * 2 ^ 64 → signed m ≡ signed n
signed_same m n j k e = signed_diff m ∙ ap (λ (x : ℕ). diff x (2 ^ 63)) (same_mod (m + 2 ^ 63) (n + 2 ^ 63) (2 ^ 64) j k (omega arith)) ∙ sym (signed_diff n)

pub digit_diff : (b : ℕ) → digit b ≡ diff b 2
unfolding digit
digit_diff b = diff_sub b 2

-- -kD ≤ 3z ≤ kD, of z as a difference
within : (k D a b : ℕ) → Within k D (pos 3 *ℤ diff a b) ↔ ((3 * b ≤ 3 * a + k * D) × (3 * a ≤ 3 * b + k * D))
within k D a b = ((λ w. (omega (arith, simp diffs at w.low), omega (arith, simp diffs at w.high))), λ h. record { low = simp diffs (omega arith); high = simp diffs (omega arith) })

-- P - qD
left_over : (b D W : ℕ) → diff W (2 ^ 63) -ℤ pos D *ℤ digit b ≡ diff (W + D * 2) (2 ^ 63 + D * b)
left_over b D W = rw (digit_diff b) (simp diffs (omega arith))

pub record Biased (E : Estimate) (r c D : ℕ) (P : ℤ) : Type 0 where
  pub W : ℕ
  pub is : P ≡ diff W (2 ^ 63)
  pub point : BiasedPoint E r c D W

pub of_point : (E : Estimate) {r c D : ℕ} {P : ℤ} → r ≤ 15 → c ≤ 127 → Point E r c D P → Biased E r c D P
of_point E {D = D} hr hc p =
    let most = span_most E in
    let e = p.column.is ∙ signed_diff _ in
    let w = (within 8 D _ _).0 (rw e at p.range) in
    record { W = _; is = e; point = omega (arith, p.column.small, p.row, w) }

module _ (b D W : ℕ) where
  broken : Low b D W ⊎ High b D W → Keeps (digit b) D (diff W (2 ^ 63)) → ⊥
  broken k h = let w = (within 2 D _ _).0 (rw (left_over b D W) at h) in ⊎_elim (λ l. omega arith) (λ l. omega arith) k

  -- a remainder is kept, or it is too low, or too high
  sides : Keeps (digit b) D (diff W (2 ^ 63)) ⊎ (Low b D W ⊎ High b D W)
  sides =
      ⊎_elim
      (λ l. ⊎_elim (λ h. inl (rw (left_over b D W) ((within 2 D _ _).1 (l, h)))) (λ k. inr (inr (omega arith))) (le_or_lt _ _))
      (λ k. inr (inl (omega arith)))
      (le_or_lt (3 * (2 ^ 63 + D * b)) (3 * (W + D * 2) + 2 * D))

pub cell_rules_law : (r c b : ℕ) → WellFormed (cell_rules r c b)
unfolding rank
cell_rules_law r c b = record { sound = (tt, λ _. (tt, λ _. tt)); in_order = tt }

pub known_not_refused : {r c b n p : ℕ} {X : Type 0} → IsCell r c b → IsFirstRefusal (Wrongs (cell_rules r c b)) n p → X
known_not_refused {r} {c} {b} k u = absurd (clear_none (cell_rules r c b) ((k.row, k.column), (k.byte, tt)) _ _ u.holds)

module _ (E : Estimate) where
  module _ {r c b : ℕ} (known : IsCell r c b) where
    breaks : {D : ℕ} {P : ℤ} → Against E r c (digit b) D P → (W : ℕ) × (P ≡ diff W (2 ^ 63)) × Breaks E r c b D W
    breaks {D} a =
        let p = of_point E known.row known.column a.point in
        (p.W, p.is, record { point = p.point; side = ⊎_elim (λ h. absurd (a.broken (rw p.is h))) (λ s. s) (sides b D p.W) })

    against : {D W : ℕ} → Breaks E r c b D W → Against E r c (digit b) D (diff W (2 ^ 63))
    against {D} {W} k =
        let most = span_most E in
        let e = W - c * 2 ^ 57 in
        let is : diff W (2 ^ 63) ≡ signed ((c + 64) * 2 ^ 57 + e) = sym (signed_diff _ ∙ ap (λ (n : ℕ). diff n (2 ^ 63)) (omega arith)) in
        record {
          point = record { row = omega arith; column = record { e = e; small = omega arith; is = is }; range = (within 8 D W (2 ^ 63)).1 (omega arith) };
          broken = broken b D W k.side;
        }

    -- a digit without a witness against it is allowed
    pub allows_unless : ((D : ℕ) (P : ℤ) → Against E r c (digit b) D P → ⊥) → Allows E r c (digit b)
    allows_unless n D P p =
        let q = of_point E known.row known.column p in
        rw q.is (⊎_elim (λ k. k) (λ k. absurd (n D _ (against (record { point = q.point; side = k })))) (sides b D q.W))

    result_means : (h : Finding) → IsLeast (Breaks E r c b) h → CellMeaning E r c b (Ok (cell_verdict_of h))
    result_means NoWitness s = (known, allows_unless (λ D P a. let k = breaks a in s D k.0 k.2))
    result_means (LeastAt d w) s = (
      known,
      rw (diff_sub w (2 ^ 63)) (record {
        against = against s.0;
        divisor_least = λ D P a. let k = breaks a in s.1 D k.0 k.2;
        remainder_least = λ P a. let k = breaks a in rw k.1 (simp diffs (omega (arith, s.2 k.0 k.2)));
      }),
    )

    -- so the test's verdict is the specification's
    pub test_checked : CellChecked E r c b (Ok (cell_verdict_of (test_of (multiples_of E r) c b)))
    test_checked = record { means = result_means (test_of (multiples_of E r) c b) (test_right E known) }

  -- the computed verdict is the specification's
  -- § 4.2 A single cell's digit is allowed, or the least witness is shown.
  pub cell_checked : (r c b : ℕ) → CellChecked E r c b (cell_of E r c b)
  cell_checked r c b = by_first (cell_rules_law r c b) (λ v. CellChecked E r c b (answer_by Err (Ok (cell_verdict_of (test_of (multiples_of E r) c b))) v))
      (λ m. let k = none_clear (cell_rules_law r c b) m in test_checked (record { row = k.0.0; column = k.0.1; byte = k.1.0 }))
      (λ f m. record { means = m })

  -- a cell and a byte that are taken: the test tells
  pub cell_known : {r c b : ℕ} → IsCell r c b → cell_of E r c b ≡ Ok (cell_verdict_of (test_of (multiples_of E r) c b))
  cell_known {r} {c} {b} k = ap (answer_by Err _) (clear_admits (cell_rules_law r c b) ((k.row, k.column), (k.byte, tt)))

  pub not_allowed : {r c D : ℕ} {q : ℤ} {P : ℤ} → Against E r c q D P → Allows E r c q → ⊥
  not_allowed {D = D} {P = P} a h = a.broken (h D P a.point)
