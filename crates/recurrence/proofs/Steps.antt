-- One step: with a digit that is allowed, P′ = 4 (P − qD), and P′ is in range again. A remainder P is handled as its word P + 2^63, a
-- natural number below 2^64, which `omega` reads.
use Rattle.laws.proofs.{Basics.{◌≡◌, List, ℕ, ◌+◌, ◌-◌, ◌*◌, ◌/◌, ◌%◌, ◌^◌, ◌≤◌, ◌<◌, arith, get_or, pos, ◌-ℤ◌, ◌*ℤ◌}, Diff.{diff, diffs}}
use Rattle.selection.{proofs.DigitBytes.{up_to_four}, specs.Word.{Within}, specs.Cell.{row, column, digit, Allows}, specs.Table.{Passes}, specs.Repair.{FaultyAt}}
use Rattle.selection.proofs.{BiasedPoints.{signed_diff, digit_diff}, Columns.{row_in, column_small, column_of}, Reports.{passes_at}, Tables.{cell_row, cell_column}, RepairCells.{copied_byte}}
use Rattle.selection.specs.declared.{Estimate.{Estimate}, Estimate.TheVariants.{EightBits}}
use Rattle.recurrence.specs.{CarrySave.{sum3, maj3, multiple, lowest_carry}, Recurrence.{State, residue, cell_at, step_by, state_from}, computed.OneWord.{step_terms}}
use Rattle.recurrence.proofs.CarrySave.{carry_save}

abbrev pub biased : State → ℕ
biased p = (p.sum + p.carry + 2 ^ 63) % 2 ^ 64

pub residue_biased : (p : State) → residue p ≡ diff (biased p) (2 ^ 63)
residue_biased p = signed_diff (p.sum + p.carry)

-- the term is −qD modulo 2^64
-- § 6.3 Multiple word and lowest carry together are −qD.
pub term : (d D : ℕ) → d ≤ 4 → D < 2 ^ 61 → (j : ℕ) × (multiple d D + lowest_carry d + d * D ≡ 2 * D + j * 2 ^ 64)
term d D h l =
    up_to_four (λ d. (j : ℕ) × (multiple d D + lowest_carry d + d * D ≡ 2 * D + j * 2 ^ 64)) (0, omega arith) (0, omega arith) (0, omega arith) (1, omega arith) (1, omega arith) d h

-- what holds of a divisor and the word W of a remainder: the divisor is in its span, and the remainder in range
pub record InRange (W D : ℕ) : Type 0 where
  pub least : 2 ^ 60 ≤ D
  pub most : D < 2 ^ 61
  pub above : 3 * 2 ^ 63 ≤ 3 * W + 8 * D
  pub below : 3 * W ≤ 3 * 2 ^ 63 + 8 * D

pub below_word : {W D : ℕ} → InRange W D → W < 2 ^ 64
below_word g = omega (arith, g.most, g.below)

pub range_of : (p : State) → InRange (biased p) p.divisor → Within 8 p.divisor (pos 3 *ℤ residue p)
range_of p g = rw (residue_biased p) (record { low = simp diffs (omega (arith, g.above)); high = simp diffs (omega (arith, g.below)) })

-- a digit byte that is allowed there
pub record AllowedAt (d W D : ℕ) : Type 0 where
  pub byte : d ≤ 4
  pub low : 3 * (d * D) + 3 * 2 ^ 63 ≤ 3 * W + 8 * D
  pub high : 3 * W + 4 * D ≤ 3 * (d * D) + 3 * 2 ^ 63

-- W′ is the word of P′ = 4 (P − qD)
abbrev pub Next : ℕ → ℕ → ℕ → ℕ → Type 0
Next d D W W' = W' + 4 * (d * D) + 3 * 2 ^ 63 ≡ 4 * W + 8 * D

module _ {d W D W' : ℕ} (g : InRange W D) (f : AllowedAt d W D) where
  -- it is so if it is so modulo 2^64
  pub next_word : (j k : ℕ) → W' < 2 ^ 64 → W' + 4 * (d * D) + 3 * 2 ^ 63 + j * 2 ^ 64 ≡ 4 * W + 8 * D + k * 2 ^ 64 → Next d D W W'
  next_word j k l e = omega (arith, g.most, f.low, f.high)

  pub next_in_range : Next d D W W' → InRange W' D
  next_in_range e = record { least = g.least; most = g.most; above = omega (arith, f.low); below = omega (arith, f.high) }

-- a step of the run
module _ (d : ℕ) (p : State) (g : InRange (biased p) p.divisor) (f : AllowedAt d (biased p) p.divisor) where
  pub step_law : Next d p.divisor (biased p) (biased (step_by d p))
  step_law =
      let x = multiple d p.divisor in
      let ok = term d p.divisor f.byte g.most in
      core (sum3 p.sum p.carry x) (maj3 p.sum p.carry x) x (lowest_carry d) ok.0 (carry_save p.sum p.carry x) ok.1
    where
      core : (σ μ x k j : ℕ) → σ + μ * 2 ≡ p.sum + p.carry + x → x + k + d * p.divisor ≡ 2 * p.divisor + j * 2 ^ 64
          → Next d p.divisor (biased p) ((σ * 4 % 2 ^ 64 + (μ * 2 + k) * 4 % 2 ^ 64 + 2 ^ 63) % 2 ^ 64)
      core σ μ x k j e ok =
          let s = σ * 4 in
          let c = (μ * 2 + k) * 4 in
          next_word g f
          (s / 2 ^ 64 + c / 2 ^ 64 + (s % 2 ^ 64 + c % 2 ^ 64 + 2 ^ 63) / 2 ^ 64)
          (4 * ((p.sum + p.carry + 2 ^ 63) / 2 ^ 64) + 4 * j)
          (omega arith)
          (omega arith)

  -- the same over ℤ
  pub step_residue : residue (step_by d p) ≡ pos 4 *ℤ (residue p -ℤ digit d *ℤ pos p.divisor)
  step_residue = rw (residue_biased (step_by d p), residue_biased p, digit_diff d) (simp diffs (omega (arith, step_law)))

-- in a divider with the estimate E
module _ (E : Estimate) where
  -- a digit that the state's cell allows: divisor and remainder are a point of it
  digit_allowed : (d : ℕ) (p : State) → InRange (biased p) p.divisor → d ≤ 4 → Allows E (row p.divisor) (column E p.sum p.carry) (digit d) → AllowedAt d (biased p) p.divisor
  digit_allowed d p g h a =
      let w = a p.divisor (residue p) (record { row = (row_in p.divisor g.least g.most).1; column = column_of E p.sum p.carry; range = range_of p g }) in
      record {
        byte = h;
        low = omega (arith, simp diffs at (rw (residue_biased p, digit_diff d) at w.low));
        high = omega (arith, simp diffs at (rw (residue_biased p, digit_diff d) at w.high));
      }

  -- that of a table that passes, and that of a good cell
  module _ (t : List ℕ) (p : State) where
    pub table_digit_allowed : Passes E t → InRange (biased p) p.divisor → AllowedAt (get_or t (cell_at E p) 0) (biased p) p.divisor
    table_digit_allowed ok g = digit_allowed _ p g (ok.table.digits (cell_at E p)) (passes_at E ok (row p.divisor) (column E p.sum p.carry) (omega arith) (column_small E p.sum p.carry))

    pub good_digit_allowed : (FaultyAt E t (cell_at E p) → ⊥) → InRange (biased p) p.divisor → AllowedAt (get_or t (cell_at E p) 0) (biased p) p.divisor
    good_digit_allowed n g =
        let r = row p.divisor in
        let c = column E p.sum p.carry in
        let h = column_small E p.sum p.carry in
        let x = copied_byte E t (cell_at E p) (omega arith) n in
        digit_allowed _ p g x.0 (rw (cell_row r c h, cell_column r c h) at x.1)

-- ---- a step in one word

-- the term is −4qD + 2^63 modulo 2^64
one_term : (d D : ℕ) → d ≤ 4 → D < 2 ^ 61 → (j : ℕ) × (get_or (step_terms D) d 0 + 4 * (d * D) + j * 2 ^ 64 ≡ 8 * D + 3 * 2 ^ 63)
one_term d D h l =
    up_to_four (λ d. (j : ℕ) × (get_or (step_terms D) d 0 + 4 * (d * D) + j * 2 ^ 64 ≡ 8 * D + 3 * 2 ^ 63)) (1 + (8 * D + 2 ^ 63) / 2 ^ 64, omega arith) (1, omega arith) (1, omega arith) (1, omega arith)
    ((3 * 2 ^ 63 - 8 * D) / 2 ^ 64, omega arith) d h

pub one_step : (d W D : ℕ) → InRange W D → AllowedAt d W D → Next d D W ((W * 4 % 2 ^ 64 + get_or (step_terms D) d 0) % 2 ^ 64)
one_step d W D g f =
    let x = one_term d D f.byte g.most in
    next_word g f (x.0 + W * 4 / 2 ^ 64 + (W * 4 % 2 ^ 64 + get_or (step_terms D) d 0) / 2 ^ 64) 3 (omega arith) (omega (arith, x.1))

-- the word's top seven bits are the column of the pair (P, 0), so the digit there is allowed
pub one_allowed : (t : List ℕ) (W D : ℕ) → Passes EightBits t → InRange W D → AllowedAt (get_or t (128 * row D + W / 2 ^ 57) 0) W D
one_allowed t W D ok g =
    let s = (W + 2 ^ 63) % 2 ^ 64 in
    let b : (s + 0 + 2 ^ 63) % 2 ^ 64 ≡ W = omega (arith, below_word g) in
    let c : column EightBits s 0 ≡ W / 2 ^ 57 = omega (arith, b) in
    rw (b, c) at (table_digit_allowed EightBits t (state_from s 0 D) ok (rw b g))
