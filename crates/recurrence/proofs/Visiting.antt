-- The loops over digits, divisors and dividends: each adds to the counts what its turns add.
use Rattle.laws.proofs.Basics.{◌≡◌, refl, sym, ap, ◌∙◌, Bool, true, false, true≢false, List, ℕ, zero, suc, ◌+◌, ◌-◌, ◌*◌, ◌%◌, ◌^◌, ◌≤◌, ◌<◌, arith, length, get_or, set, length-set, eqb, eqb-true, eqb-false, eq-eqb, ne_eqb}
use Rattle.laws.{specs.Lists.{filled}, proofs.Lists.{fill_at, fill_rest, fill_length, fill_right, filled_one}, specs.Sums.{sum_below}, proofs.Sums.{sum_more, sum_most}, specs.Counting.{count_below}}
use Rattle.laws.proofs.Counting.{bit_most, count_none, count_more}
use Rattle.std.proofs.Common.{mul-le-mul_right, suc-mul, mul-lt-mul_of_pos_right}
use lib.{Pow.{pow-add, pow_mono}, Seq.{get_or-set_same, get_or-set_other}}
use Rattle.selection.{specs.Cell.{row}, proofs.Columns.{column_small}, specs.declared.Estimate.{Estimate}, specs.declared.Estimate.TheVariants.{EightBits}}
use Rattle.recurrence.specs.{Recurrence.{State, cell_at, start_of, next_of, after}, computed.FastRun.{Divider, run_state_of, state_of}, computed.Visits.{is_at, operand, run_visits, all_visits}}
use Rattle.recurrence.specs.{computed.VisitSteps.{Added, Room, VisitsSpans}, declared.state.RunState.{RunState}}
use Rattle.recurrence.proofs.{Digits.{divisor_after}, Loop.{stands_next}}

-- ---- one cell

pub at_most : (a c : ℕ) → is_at a c ≤ 1
unfolding is_at
at_most a c = bit_most (eqb a c)

pub at_here : (a c : ℕ) → a ≡ c → is_at a c ≡ 1
unfolding is_at
at_here a c e = rw (eq-eqb a c e) refl

pub at_other : (a c : ℕ) → (a ≡ c → ⊥) → is_at a c ≡ 0
unfolding is_at
at_other a c n = rw (ne_eqb a c n) refl

-- of all cells, a is one
pub sum_at : (a m : ℕ) → a < m → sum_below (is_at a) m ≡ 1
unfolding is_at count_below
sum_at a m h =
    omega (arith, count_more (eqb a) (λ c. false) a m h (eq-eqb a a refl) refl (λ k l n. ne_eqb a k (λ e. n (sym e))), count_none (λ c. false) m (λ k l e. true≢false (sym e)))

-- ---- what is added

-- after j turns, each of which adds its F j
pub record Turned (F : ℕ → ℕ → ℕ) (a b : List ℕ) (j : ℕ) : Type 0 where
  pub added : Added (λ c. sum_below (λ j. F j c) j) a b

pub turned_none : {F : ℕ → ℕ → ℕ} (a : List ℕ) → Turned F a a 0
unfolding sum_below
turned_none a = record { added = record { size = refl; each = λ c h. omega arith; rest = λ c h. refl } }

module _ {F : ℕ → ℕ → ℕ} {a b : List ℕ} {j : ℕ} (x : Turned F a b j) where
  pub turned_more : {d : List ℕ} → Added (F j) b d → Turned F a d (j + 1)
  turned_more y =
      let z = x.added in
      record {
        added = record {
          size = y.size ∙ z.size;
          each = λ c h. omega (arith, y.each c h, z.each c h, sum_more (λ j. F j c) j);
          rest = λ c h. y.rest c h ∙ z.rest c h;
        };
      }

  -- there is room for one more of m, if each adds at most s to a place
  pub turned_room : {s m : ℕ} → ((j c : ℕ) → F j c ≤ s) → j < m → Room (m * s) a → Room s b
  turned_room {s} {m} most h r =
      let z = x.added in
      let l : suc j * s ≤ m * s = mul-le-mul_right s h in
      record { size = omega (arith, r.size, z.size); fits = λ c g. omega (arith, r.fits c g, z.each c g, sum_most (λ j. F j c) s j (λ i l. most i c), l, suc-mul j s) }

-- one at one place
pub added_one : (l : List ℕ) (a : ℕ) → a < 2048 → 2048 ≤ length l → Added (is_at a) l (set l a (get_or l a 0 + 1))
added_one l a h k = record {
  size = length-set l a (get_or l a 0 + 1);
  each = λ c g. go c (eqb a c) refl;
  rest = λ c g. get_or-set_other l a c (get_or l a 0 + 1) 0 (λ e. omega arith);
}
  where
    go : (c : ℕ) (x : Bool) → eqb a c ≡ x → get_or (set l a (get_or l a 0 + 1)) c 0 ≡ get_or l c 0 + is_at a c
    go c true e = let q : a ≡ c = eqb-true a c e in rw (← q) (omega (arith, get_or-set_same l a (get_or l a 0 + 1) 0 (omega arith), at_here a a refl))
    go c false e = let n = eqb-false a c e in omega (arith, get_or-set_other l a c (get_or l a 0 + 1) 0 (λ q. n (sym q)), at_other a c n)

-- to zeros
module _ (v : List ℕ) (h : 2048 ≤ length v) where
  pub room_cleared : {s : ℕ} → s < 2 ^ 32 → Room s (filled (λ (c : ℕ). 0) 2048 v)
  room_cleared l = record { size = omega (arith, fill_length (λ (c : ℕ). 0) v 2048 h); fits = λ c g. omega (arith, fill_at (λ (c : ℕ). 0) v 0 2048 c g) }

  pub added_cleared : {f : ℕ → ℕ} {w : List ℕ} → Added f (filled (λ (c : ℕ). 0) 2048 v) w → w ≡ filled f 2048 v
  added_cleared {f} {w} x = filled_one
      (record {
        each = λ c g. omega (arith, x.each c g, fill_at (λ (c : ℕ). 0) v 0 2048 c g);
        kept = record { size = x.size ∙ fill_length (λ (c : ℕ). 0) v 2048 h; rest = λ c g. x.rest c g ∙ fill_rest (λ (c : ℕ). 0) v 0 2048 c g };
      })
      (fill_right f 2048 v h)

-- ---- the operands of k bits

pub unit_some : (m u : ℕ) → m * u ≡ 2 ^ 60 → 0 < u
unit_some m zero e = absurd (omega arith)
unit_some m (suc u) e = omega arith

pub few_operands : (k : ℕ) → k ≤ 6 → 2 ^ (k - 1) ≤ 32
few_operands k h = let l : k - 1 ≤ 5 = omega arith in omega (arith, pow_mono l)

-- as the code forms it
pub few_word : (k : ℕ) → k ≤ 6 → 1 * 2 ^ (k - 1) % 2 ^ 64 ≡ 2 ^ (k - 1)
few_word k h = omega (arith, few_operands k h)

module _ (k : ℕ) (some : 1 ≤ k) (few : k ≤ 6) where
  -- the units of an operand: as many as its leading one stands for reach bit 60
  pub units : 2 ^ (k - 1) * 2 ^ (61 - k) ≡ 2 ^ 60
  units = let e : k - 1 + (61 - k) ≡ 60 = omega arith in sym (pow-add 2 (k - 1) (61 - k)) ∙ ap (λ (j : ℕ). 2 ^ j) e

  module _ (x : ℕ) (h : x < 2 ^ (k - 1)) where
    pub operand_span : (2 ^ 60 ≤ operand k x) × (operand k x < 2 ^ 61)
    operand_span =
        let u : 2 ^ (k - 1) * 2 ^ (61 - k) ≡ 2 ^ 60 = units in
        let l : x * 2 ^ (61 - k) < 2 ^ (k - 1) * 2 ^ (61 - k) = mul-lt-mul_of_pos_right h (unit_some (2 ^ (k - 1)) (2 ^ (61 - k)) u) in
        (omega arith, omega arith)

    -- as the code forms it
    pub operand_law : (1 * 2 ^ (k - 1) % 2 ^ 64 + x) * 2 ^ (61 - k) % 2 ^ 64 ≡ operand k x
    operand_law =
        rw (few_word k few) (omega (arith, operand_span.1))

-- ---- a run

pub cell_below : (E : Estimate) (p : State) → cell_at E p < 2048
cell_below E p = omega (arith, column_small E p.sum p.carry)

pub record Visited (t : List ℕ) (N D : ℕ) (v₀ v : List ℕ) (state : RunState) (i : ℕ) : Type 0 where
  pub stands : state ≡ run_state_of EightBits (after EightBits t N D i)
  pub turned : Turned (λ j. is_at (cell_at EightBits (after EightBits t N D j))) v₀ v i

module _ (t : List ℕ) (N D : ℕ) where
  pub visited_none : (v : List ℕ) (p : RunState) → p ≡ run_state_of EightBits (start_of N D) → Visited t N D v v p 0
  unfolding after
  visited_none v p e = record { stands = e; turned = turned_none v }

  pub run_most : (n c : ℕ) → run_visits t N D n c ≤ n
  unfolding run_visits
  run_most n c = omega (arith, sum_most (λ i. is_at (cell_at EightBits (after EightBits t N D i)) c) 1 n (λ i h. at_most (cell_at EightBits (after EightBits t N D i)) c))

  module _ {v₀ v : List ℕ} {p : RunState} {i start : ℕ} (x : Visited t N D v₀ v p i) (s : start ≡ 128 * row D) where
    -- the index of the state's cell
    cell_is : start + p.column ≡ cell_at EightBits (after EightBits t N D i)
    cell_is = rw (x.stands, s, divisor_after EightBits t N D i) refl

    pub cell_small : start + p.column < 2048
    cell_small = rw cell_is (cell_below EightBits (after EightBits t N D i))

    pub visited_more : {m : Divider} {q : RunState} → 2048 ≤ length v₀ → m ≡ record { estimate = EightBits; divisor = D } → q ≡ run_state_of m.estimate (next_of m.estimate t (state_of m.divisor p))
        → Visited t N D v₀ (set v (start + p.column) (get_or v (start + p.column) 0 + 1)) q (i + 1)
    visited_more h m e = record {
      stands = stands_next EightBits t N D i x.stands m e;
      turned = rw cell_is (turned_more x.turned (added_one v (cell_at EightBits (after EightBits t N D i)) (cell_below EightBits (after EightBits t N D i)) (omega (arith, x.turned.added.size))));
    }

    pub visited_room : {n : ℕ} → i < n → Room n v₀ → Room 1 v
    visited_room {n} h r = let e : n * 1 ≡ n = omega arith in turned_room x.turned (λ j. at_most (cell_at EightBits (after EightBits t N D j))) h (rw e r)

-- ---- all runs of k bits

module _ (t : List ℕ) (k n : ℕ) where
  -- those of one dividend
  abbrev pub dividend_visits : ℕ → ℕ → ℕ
  dividend_visits x c = sum_below (λ y. run_visits t (operand k x) (operand k y) n c) (2 ^ (k - 1))

  pub dividend_most : (x c : ℕ) → dividend_visits x c ≤ 2 ^ (k - 1) * n
  dividend_most x c = sum_most (λ y. run_visits t (operand k x) (operand k y) n c) n (2 ^ (k - 1)) (λ y h. run_most t (operand k x) (operand k y) n c)

  pub all_most : k ≤ 6 → n ≤ 28 → (c : ℕ) → all_visits t k n c ≤ 28672
  unfolding all_visits
  all_most few l c =
      let a : 2 ^ (k - 1) * (2 ^ (k - 1) * n) ≤ 32 * (2 ^ (k - 1) * n) = mul-le-mul_right (2 ^ (k - 1) * n) (few_operands k few) in
      let b : 2 ^ (k - 1) * n ≤ 32 * n = mul-le-mul_right n (few_operands k few) in
      omega (arith, sum_most (λ x. dividend_visits x c) (2 ^ (k - 1) * n) (2 ^ (k - 1)) (λ x h. dividend_most x c))

-- room for all of them in zeros
pub all_room : (k n : ℕ) (v : List ℕ) {l : List ℕ} → VisitsSpans k n (length v) → l ≡ filled (λ (c : ℕ). 0) 2048 v → Room (2 ^ (k - 1) * (2 ^ (k - 1) * n)) l
all_room k n v r e =
    let a : 2 ^ (k - 1) * (2 ^ (k - 1) * n) ≤ 32 * (2 ^ (k - 1) * n) = mul-le-mul_right (2 ^ (k - 1) * n) (few_operands k r.bits) in
    let b : 2 ^ (k - 1) * n ≤ 32 * n = mul-le-mul_right n (few_operands k r.bits) in
    rw e (room_cleared v r.room (omega (arith, r.digits)))
