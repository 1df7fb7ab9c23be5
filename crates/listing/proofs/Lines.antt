-- Laws of the listing's lines: the computed ones are those in the specification's words, and there are no others.
use Rattle.laws.proofs.Basics.{◌≡◌, refl, sym, ap, subst, ◌∙◌, List, ◌++◌, ℕ, zero, suc, ◌+◌, ◌*◌, ◌/◌, ◌%◌, ◌≤◌, ◌<◌, add-one, arith, get_or}
use Rattle.std.specs.Prelude.{Option, Some, None, Result, Ok, Err}
use Rattle.selection.specs.{Cell.{LeastWitness, digit}, computed.Cell.{CellChecked}, computed.Outcomes.{cell_of}, Table.{Table}, declared.Refusal.{Refusal}, declared.Witness.{Witness}}
use Rattle.selection.{proofs.BiasedPoints.{known_not_refused, cell_checked}, proofs.Tables.{cell_at}, proofs.UniqueCell.{cell_checked_one}, specs.declared.Estimate.{Estimate}}
use Rattle.printing.{specs.Text.{Filled, pushed, Adds}, proofs.Texts.{adds_then}}
use Rattle.listing.specs.{Listing.{Listed, Lines, none, more, line_from, line_of, text_of, lines_upto}, declared.Line.{Line}}

module _ (E : Estimate) where
  module _ (t : List ℕ) (k : ℕ) (h : Table t) (below : k < 2048) where
    verdict_listed : (v : Result (Option Witness) Refusal) → CellChecked E (k / 128) (k % 128) (get_or t k 0) v → Listed E t k (line_from t k v)
    verdict_listed (Ok None) j = record { means = j.means.1 }
    verdict_listed (Ok (Some w)) j = record { means = record { row_is = refl; column_is = refl; digit_is = refl; witness_is = j.means.1 } }
    verdict_listed (Err f) j = known_not_refused (cell_at h k below) j.means

    pub line_listed : Listed E t k (line_of E t k)
    unfolding line_of
    line_listed = verdict_listed (cell_of E (k / 128) (k % 128) (get_or t k 0)) (cell_checked E (k / 128) (k % 128) (get_or t k 0))

    -- a line by the verdict on the cell is the line in the specification's words
    pub told_line : {l : Option Line} {v : Result (Option Witness) Refusal} → v ≡ cell_of E (k / 128) (k % 128) (get_or t k 0) → l ≡ line_from t k v → (l ≡ line_of E t k) × Listed E t k l
    unfolding line_of
    told_line e i = let o = i ∙ ap (line_from t k) e in (o, subst (Listed E t k) (sym o) line_listed)

  -- one cell more
  pub lines_more : (t : List ℕ) (k : ℕ) {l : Option Line} → l ≡ line_of E t k → lines_upto E t k ++ text_of l ≡ lines_upto E t (k + 1)
  unfolding lines_upto
  lines_more t k e = rw (add-one, e)

  -- a table's lines in the specification's words are those computed, and no others
  pub lines_right : {t : List ℕ} → Table t → (n : ℕ) → n ≤ 2048 → Lines E t n (lines_upto E t n)
  unfolding lines_upto
  lines_right h zero k = none
  lines_right {t} h (suc n) k = more (line_listed t n h (omega arith)) (lines_right h n (omega arith))

  verdict_line : (t : List ℕ) (k : ℕ) (v : Result (Option Witness) Refusal) → CellChecked E (k / 128) (k % 128) (get_or t k 0) v → line_from t k v ≡ line_of E t k
  unfolding line_of
  verdict_line t k v j = ap (line_from t k) (cell_checked_one E v (cell_of E (k / 128) (k % 128) (get_or t k 0)) j (cell_checked E (k / 128) (k % 128) (get_or t k 0)))

  pub listed_one : {t : List ℕ} {k : ℕ} {l : Option Line} → Table t → k < 2048 → Listed E t k l → l ≡ line_of E t k
  listed_one {t} {k} {l = None} h b j = verdict_line t k (Ok None) (record { means = (cell_at h k b, j.means) })
  listed_one {t} {k} {l = Some l} h b j =
      let m = j.means in
      let w = l.witness in
      let x : LeastWitness E (k / 128) (k % 128) (digit (get_or t k 0)) w.divisor w.remainder = rw (← m.row_is, ← m.column_is, ← m.digit_is) m.witness_is in
      let same : Some l ≡ line_from t k (Ok (Some w)) = λ i. Some (record { row = m.row_is i; column = m.column_is i; digit = m.digit_is i; witness = w }) in
      same ∙ verdict_line t k (Ok (Some w)) (record { means = (cell_at h k b, x) })

  pub lines_one : {t x : List ℕ} {n : ℕ} → Table t → n ≤ 2048 → Lines E t n x → x ≡ lines_upto E t n
  unfolding lines_upto
  lines_one h b none = refl
  lines_one h b (more j r) = rw (lines_one h (omega arith) r, listed_one h (omega arith) j)

  -- the same in the text of the listing
  pub adds_line : (t : List ℕ) (k : ℕ) {s s' s'' : Filled} {l : Option Line} → Adds s (lines_upto E t k) (107 * k) s' → l ≡ line_of E t k → Adds s' (text_of l) 107 s'' → Adds s (lines_upto E t (k + 1)) (107 * (k + 1)) s''
  adds_line t k {s} a e b = let c = adds_then a b in record { is = c.is ∙ ap (pushed s) (lines_more t k e); room = omega (arith, c.room) }
