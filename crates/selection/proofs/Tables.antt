-- Tables, and a table's index as a row and a column.
use Rattle.laws.{proofs.Basics.{◌≡◌, List, ⊎_elim, ℕ, ◌+◌, ◌*◌, ◌/◌, ◌%◌, ◌≤◌, ◌<◌, arith, ℤ, length, get_or, List·getD-eq-default}, specs.Search.{First}, proofs.Comparisons.{not_below}}
use Rattle.laws.proofs.Division.{le_or_lt}
use Rattle.selection.specs.{Cell.{LeastWitness, digit}, computed.Cell.{IsCell}, Table.{Table, BadAt}, computed.Table.{FirstBad, NoTable}, declared.Estimate.{Estimate}}

-- 2,048 bytes of which none is above 4 are a table
pub table_of : (t : List ℕ) → length t ≡ 2048 → ((k : ℕ) → k < 2048 → 4 < get_or t k 0 → ⊥) → Table t
table_of t e h =
    record {
      size = e;
      digits = λ k. ⊎_elim (λ n. rw (List·getD-eq-default t 0 {n = k} (omega arith)) (omega arith)) (λ l. not_below (h k l)) (le_or_lt 2048 k);
    }

-- no table is refused as none
pub no_table : {t : List ℕ} {n p : ℕ} {X : Type 0} → Table t → NoTable t n p → X
no_table {p = p} a w = absurd (⊎_elim (λ l. l.1.1 a.size) (⊎_elim (λ r. omega (arith, r.1.1.here, a.digits p)) (λ z. z)) w.holds)

-- a cell's index is below 2,048 and gives back its row and its column
pub cell_row : (r c : ℕ) → c ≤ 127 → (128 * r + c) / 128 ≡ r
cell_row r c h = omega arith

pub cell_column : (r c : ℕ) → c ≤ 127 → (128 * r + c) % 128 ≡ c
cell_column r c h = omega arith

-- an index below 2,048 is that of a cell
pub cell_at : {t : List ℕ} → Table t → (k : ℕ) → k < 2048 → IsCell (k / 128) (k % 128) (get_or t k 0)
cell_at a k h = record { row = omega arith; column = omega arith; byte = a.digits k }

module _ (E : Estimate) where
  -- index f as a cell
  pub first_bad_of : {t : List ℕ} {f D : ℕ} {P : ℤ} → f < 2048 → First (BadAt E t) f → LeastWitness E (f / 128) (f % 128) (digit (get_or t f 0)) D P → FirstBad E t (f / 128) (f % 128) D P
  first_bad_of {f = f} h b w = let e : 128 * (f / 128) + f % 128 ≡ f = omega arith in record { row = omega arith; column = omega arith; first = rw e b; witness = rw e w }
