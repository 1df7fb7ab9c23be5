-- Bad cells: one more in a row, and that all of them are drawn.
use Rattle.laws.proofs.{Basics.{◌≡◌, ⊎_elim, refl, sym, Bool, true, false, not, true≢false, ◌↔◌, List, get_or, ℕ, ◌+◌, ◌*◌, ◌-◌, ◌/◌, ◌%◌, ◌≤◌, ◌<◌, arith}}
use Rattle.std.proofs.Common.{Option, Some, None, MatchOption, IsTrue}
use Rattle.std.specs.Option.{unwrap_or}
use native.Mathlib.Nat.{eq-or-lt_of_le}
use Rattle.selection.specs.{Table.{BadAt}, declared.Estimate.{Estimate}}
use Rattle.plot.specs.Plot.{HasPoint, AllowedIs, BadTo}
use Rattle.selection.proofs.Tables.{cell_row, cell_column}
use Rattle.plot.proofs.Points.{has_point_columns}

module _ (E : Estimate) where
  decides : {t : List ℕ} (k : ℕ) (x : Bool) → get_or t k 0 ≤ 4 → AllowedIs E (k / 128) (k % 128) (get_or t k 0) x → IsTrue (not x) ↔ BadAt E t k
  decides k true h a = (λ e. absurd (true≢false (sym e)), λ w. absurd (w.against.broken (a.yes refl _ _ w.against.point)))
  decides k false h a = let w = a.no refl in (λ e. record { byte = h; divisor = w.divisor; remainder = w.remainder; against = w.against }, λ w. refl)

  -- a cell of a table is bad where its digit is not allowed
  pub bad_decides : {t : List ℕ} (r c : ℕ) (x : Bool) → c ≤ 127 → get_or t (128 * r + c) 0 ≤ 4 → AllowedIs E r c (get_or t (128 * r + c) 0) x → IsTrue (not x) ↔ BadAt E t (128 * r + c)
  bad_decides r c x l h a = decides (128 * r + c) x h (rw (cell_row r c l, cell_column r c l) a)

  module _ (t : List ℕ) (row : ℕ) where
    abbrev pub Bad : ℕ → Type 0
    Bad c = BadAt E t (128 * row + c)

    abbrev pub Good : ℕ → Type 0
    Good c = BadAt E t (128 * row + c) → ⊥

    -- the first column whose digit is allowed ends the bad ones
    pub bad_to : {from : ℕ} (r : Option ℕ) → from ≤ 128 → MatchOption r ((c : ℕ) → from ≤ c → c < 128 → Bad c) (λ i. (from ≤ i) × (i < 128) × Good i × ((c : ℕ) → from ≤ c → c < i → Bad c)) → BadTo E t row from (unwrap_or r 128)
    bad_to None h m = record { starts = h; within = omega arith; bad = m; next = λ l. absurd (omega arith) }
    bad_to (Some i) h m = record { starts = m.0; within = omega (arith, m.1); bad = m.3; next = λ l. m.2 }

    -- a bad cell is one of those that start with it
    pub bad_some : {from end : ℕ} → from < 128 → Bad from → BadTo E t row from end → from < end
    bad_some {from} h w s = ⊎_elim (λ (e : from ≡ _). absurd (s.next (omega arith) (rw (← e) w))) (λ l. l) (eq-or-lt_of_le s.starts)

  -- bad cells have points, so they are among the cells that are drawn
  pub bad_drawn : {t : List ℕ} {r from end : ℕ} → r ≤ 15 → BadTo E t r from end → from < end → end ≤ 112
  bad_drawn {r = r} {end = end} hr s h =
      let w = s.bad (end - 1) (omega arith) (omega arith) in
      let k = 128 * r + (end - 1) in
      let p : HasPoint E (k / 128) (k % 128) = record { divisor = w.divisor; remainder = w.remainder; point = w.against.point } in
      omega (arith, s.within, has_point_columns E (omega (arith, s.within)) (omega arith) p)
