-- Counts and first numbers from row to row of a table.
use Rattle.laws.{proofs.Basics.{◌≡◌, sym, ◌∙◌, Bool, ℕ, ◌+◌, ◌*◌, ◌-◌, ◌<◌, arith, lt-ltb, le-ltb}, specs.Search.{first_from}, specs.Counting.{count_below}, proofs.Search.{first_part}}
use Rattle.laws.proofs.Counting.{count_part, none_counted}
use Rattle.std.proofs.Common.{add-zero, zero-add}
use Rattle.selection.specs.{computed.TableRow.{TableRow}, declared.Estimate.{Estimate}}

-- a row more, of a row that is known by another name
pub row_counted : (f : Estimate → ℕ → Bool) (row : ℕ) {E : Estimate} {v : TableRow} {count n : ℕ} → v ≡ record { estimate = E; row = row } → count ≡ count_below (f E) (128 * row) → n ≡ count_below (λ c. f v.estimate (128 * v.row + c)) 128 → count + n ≡ count_below (f E) (128 * (row + 1))
row_counted f row {E = E} same e g = let next : 128 * (row + 1) ≡ 128 * row + 128 = omega arith in rw (e, rw same at g, next) (sym (count_part (f E) (128 * row) 128))

-- where none passes the test before the row, the first in the row is the first
pub row_first : (f : ℕ → Bool) (row : ℕ) → row < 16 → 0 ≡ count_below f (128 * row) → let c = first_from (λ k. f (128 * row + k)) 0 128 in c < 128 → first_from f 0 2048 ≡ 128 * row + c
row_first f row h z l =
    let m = 2048 - (128 * row + 128) in
    let s : 128 * row + (128 + m) ≡ 2048 = omega arith in
    let j : first_from (λ c. f (0 + c)) 0 (128 * row) ≡ 128 * row = simp zero-add (none_counted f (128 * row) (sym z)) in
    simp (zero-add, le-ltb (128 * row) (128 * row) (omega arith)) at (rw (s, j) at (first_part f 0 0 (128 * row) (128 + m)))
    ∙ simp (add-zero, lt-ltb _ 128 l) at (first_part f (128 * row) 0 128 m)
