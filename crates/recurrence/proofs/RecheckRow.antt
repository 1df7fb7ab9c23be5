-- The loop of `run_mark`: it goes on as long as no step strays.
use Rattle.laws.proofs.Basics.{◌≡◌, refl, ap, ap₂, ◌∙◌, true, false, List, ℕ, suc, ◌+◌, ◌*◌, ◌≤◌, ◌<◌, arith, add-one, length, get_or, length-take, length-drop, lt-ltb, le-ltb, le-leb, lt-leb}
use Rattle.selection.{specs.Cell.{row, column}, proofs.Columns.{column_small}, specs.computed.Table.{row_bytes}, specs.declared.Estimate.{Estimate}}
use Rattle.recurrence.specs.{Recurrence.{cell_at, step_by, start_of, next_of, after}, computed.FastRun.{Divider, run_state_of, state_of}}
use Rattle.recurrence.specs.{computed.Recheck.{byte_read, left_by, left_end, strays, strays_below, runs_wrong, run_mark}, declared.state.RunState.{RunState}}
use Rattle.recurrence.proofs.{Rows.{row_at}, Loop.{stands_state}, Digits.{divisor_after}, Straying.{strays_later}}

-- the row has 128 bytes
pub row_size : (t : List ℕ) {bytes : List ℕ} (D : ℕ) → length t ≡ 2048 → bytes ≡ row_bytes t (row D) → length bytes ≡ 128
row_size t D n e = rw e (simp (length-take, length-drop, n) (omega arith))

module _ (E : Estimate) (t : List ℕ) (N D : ℕ) where
  -- after i turns
  pub record Followed (state : RunState) (i : ℕ) : Type 0 where
    pub stands : state ≡ run_state_of E (after E t N D i)
    pub clear : runs_wrong E t N D i ≡ false

  module _ {p : RunState} {i : ℕ} (x : Followed p i) where
    pub column_below : p.column < 128
    column_below = rw x.stands (omega (arith, column_small E (after E t N D i).sum (after E t N D i).carry))

    -- what stands at that column is the byte that the step reads
    pub byte_read_law : {bytes : List ℕ} → bytes ≡ row_bytes t (row D) → get_or bytes p.column 0 ≡ byte_read E t N D i
    byte_read_law e =
        let s = after E t N D i in
        let k : 128 * row D + column E s.sum s.carry ≡ cell_at E s = rw (divisor_after E t N D i) refl in
        rw (e, x.stands) (row_at t (row D) (column E s.sum s.carry) (omega (arith, column_small E s.sum s.carry)) ∙ ap (λ (j : ℕ). get_or t j 0) k)

    -- the step strays
    strayed : {n : ℕ} → i < n → strays (byte_read E t N D i) (after E t N D i) ≡ true → 1 ≡ run_mark E t N D n
    unfolding strays_below
    strayed {n} h e =
        let now : runs_wrong E t N D (suc i) ≡ true = rw (x.clear, e) refl in
        rw (strays_later (after E t N D) (byte_read E t N D) (suc i) n h now) refl

    -- the byte that the code reads, and what its digit leaves of the remainder
    module _ {bytes : List ℕ} (is : bytes ≡ row_bytes t (row D)) where
      -- the byte is no digit
      pub followed_above : {n : ℕ} → 4 < get_or bytes p.column 0 → i < n → 1 ≡ run_mark E t N D n
      followed_above b h = let l : 4 < byte_read E t N D i = omega (arith, byte_read_law is) in strayed h (rw (lt-ltb 4 (byte_read E t N D i) l) refl)

      module _ {m : Divider} {r : ℕ} (d : m ≡ record { estimate = E; divisor = D }) (few : get_or bytes p.column 0 ≤ 4) (left : r ≡ left_by (get_or bytes p.column 0) (state_of m.divisor p)) where
        few_read : byte_read E t N D i ≤ 4
        few_read = omega (arith, byte_read_law is, few)

        state_same : state_of m.divisor p ≡ after E t N D i
        state_same = ap (λ (m : Divider). state_of m.divisor p) d ∙ stands_state E t N D i x.stands

        left_same : r ≡ left_by (byte_read E t N D i) (after E t N D i)
        left_same = left ∙ ap₂ left_by (byte_read_law is) state_same

        -- its digit leaves too much, or too little
        pub followed_strayed : {n : ℕ} → left_end D ≤ r → i < n → 1 ≡ run_mark E t N D n
        followed_strayed l h =
            let s = after E t N D i in
            let g : left_end s.divisor ≤ left_by (byte_read E t N D i) s = omega (arith, divisor_after E t N D i, left_same) in
            strayed h (rw (le-ltb 4 (byte_read E t N D i) few_read, le-leb _ _ g) refl)

        -- the step is the run's
        pub followed_more : {q : RunState} → r < left_end D → q ≡ run_state_of m.estimate (step_by (get_or bytes p.column 0) (state_of m.divisor p)) → Followed q (i + 1)
        unfolding after next_of strays_below
        followed_more {q} l e =
            let s = after E t N D i in
            let o : left_by (byte_read E t N D i) s < left_end s.divisor = omega (arith, divisor_after E t N D i, left_same) in
            record {
              stands = e ∙ ap₂ run_state_of (ap (λ (m : Divider). m.estimate) d) (ap₂ step_by (byte_read_law is) state_same) ∙ rw (add-one i) refl;
              clear = rw (add-one i, x.clear, le-ltb 4 (byte_read E t N D i) few_read, lt-leb _ _ o) refl;
            }

  pub followed_start : {p : RunState} → p ≡ run_state_of E (start_of N D) → Followed p 0
  unfolding after strays_below
  followed_start e = record { stands = e; clear = refl }

  pub followed_all : {p : RunState} {n : ℕ} → Followed p n → 0 ≡ run_mark E t N D n
  followed_all x = rw x.clear refl
