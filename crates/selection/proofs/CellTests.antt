-- The test of a cell, given its row's multiples, gives the verdict and witness of the single cell.
use Rattle.laws.proofs.Basics.{◌≡◌, refl, sym, subst, ap, ◌∙◌, ◌↔◌, Bool, true, false, cond, not, ◌||◌, ℕ, ◌+◌, ◌^◌, ◌≤◌, ◌<◌, arith, ltb, eqb, lt-ltb, le-ltb}
use Rattle.std.specs.Prelude.{Some, None, Ok, IsSome}
use Rattle.selection.specs.computed.{Cell.{IsCell}, Allowed.{allows_of}, CellTest.{RowOf, multiples_of, past, allows_by, least_byte, greatest_byte, has_point, found_at, test_of, witness_of, cell_verdict_of, low_divisor, high_divisor, low_at, high_at}, TableRow.{TableRow}}
use Rattle.selection.specs.{computed.CellTest.Finding.{NoWitness, LeastAt}, computed.Outcomes.{verdict_at, cell_of}}
use Rattle.selection.specs.declared.Estimate.{Estimate}
use Rattle.selection.specs.declared.cell.RowMultiples.TheInside.{Inside}
use Rattle.selection.proofs.{Rows.{fields_of}, Search.{span_most}, BreakingPoints.{Breaks, IsLeast}, TestIsSearch.{test_right}, BiasedPoints.{cell_known}}

-- ---- what the code of `allows` asks: that neither side is passed, or there is no point

by_sum : (x y p : Bool) → (eqb (cond x 1 0 + cond y 1 0) 0 || p) ≡ cond (x || y) p true
by_sum true true p = refl
by_sum true false p = refl
by_sum false true p = refl
by_sum false false p = refl

pub by_sides : (m : Inside) (c b : ℕ) {g l x y : ℕ} {p : Bool} → g ≡ greatest_byte m c → l ≡ least_byte m c → x ≡ past g b → y ≡ past b l → p ≡ has_point m c → (eqb (x + y) 0 || not p) ≡ allows_by m c b
by_sides m c b g l x y p = rw (x, y, g, l, p) (by_sum (ltb (greatest_byte m c) b) (ltb b (least_byte m c)) (not (has_point m c)))

-- ---- the test of a cell, and what the code of `test_cell` asks

module _ (m : Inside) (c b : ℕ) where
  -- the digit is allowed exactly where the test says so
  pub allows_tested : (allows_by m c b ≡ true) ↔ (cell_verdict_of (test_of m c b) ≡ None)
  allows_tested = ((λ e. rw e refl), go (allows_by m c b) (ltb (greatest_byte m c) b))
    where
      go : (x y : Bool) → cell_verdict_of (cond x NoWitness (found_at m.estimate m.smallest c b y)) ≡ None → x ≡ true
      go true y v = refl
      go false true v = cc
      go false false v = cc

-- so a digit is allowed exactly where it has no witness
pub allowed_is : (E : Estimate) (r c b : ℕ) {x : Bool} → x ≡ allows_by (multiples_of E r) c b → (x ≡ allows_of E r c b) × ((x ≡ true) ↔ (verdict_at E r c b ≡ None))
unfolding allows_of
allowed_is E r c b e = (e, rw e (allows_tested (multiples_of E r) c b))

-- and a digit that is not allowed has one
pub disallowed_some : (E : Estimate) (r c b : ℕ) → allows_of E r c b ≡ false → IsSome (verdict_at E r c b)
unfolding allows_of
disallowed_some E r c b = let m = multiples_of E r in go (allows_by m c b) (ltb (greatest_byte m c) b)
  where
    go : (x y : Bool) → x ≡ false → IsSome (cell_verdict_of (cond x NoWitness (found_at E (multiples_of E r).smallest c b y)))
    go true y e = cc
    go false true e = refl
    go false false e = refl

-- D = d and W = w are the witness that the single cell's answer shows
pub record Found (v : TableRow) (c b d w : ℕ) : Type 0 where
  pub divisor : d ≤ 2 ^ 61
  pub column : (20 ≤ c) × (c ≤ 106)
  pub answer : Some (witness_of d w) ≡ verdict_at v.estimate v.row c b

module _ {m : Inside} {c b : ℕ} (o : RowOf m) (hc : c ≤ 127) (hb : b ≤ 4) where
  cell : IsCell m.row c b
  cell = record { row = o.small; column = hc; byte = hb }

  verdict : cell_verdict_of (test_of m c b) ≡ verdict_at m.estimate m.row c b
  verdict = ap (λ (n : Inside). cell_verdict_of (test_of n c b)) o.is

  -- at every column and byte from 0 to 4 the test by a row's multiples is the single cell's answer
  -- § 4.3 Given its row's multiples, the test of a cell returns the verdict and witness of the single cell.
  pub row_tested : Ok (cell_verdict_of (test_of m c b)) ≡ cell_of m.estimate m.row c b
  row_tested = ap Ok verdict ∙ sym (cell_known m.estimate cell)

  -- what is found is the answer: its divisor is the row's, and its column is not far from 0
  found_is : {d w : ℕ} → test_of m c b ≡ LeastAt d w → Found (record { estimate = m.estimate; row = m.row }) c b d w
  found_is e =
      let s = subst (IsLeast (Breaks m.estimate m.row c b)) (sym (ap (λ (n : Inside). test_of n c b) o.is) ∙ e) (test_right m.estimate cell) in
      let p = s.0.point in
      let most = span_most m.estimate in
      record { divisor = omega (arith, o.small); column = (omega (arith, o.small), omega (arith, o.small)); answer = sym (ap cell_verdict_of e) ∙ verdict }

-- what the code finds against a digit that is not allowed, by the greatest byte that is not too low: m are the multiples of the row v
module _ {m : Inside} {v : TableRow} {c b g : ℕ} {x : Bool} (o : RowOf m) (e : record { estimate = m.estimate; row = m.row } ≡ v) (h : (c ≤ 127) × (b ≤ 4))
    (is : x ≡ allows_of v.estimate v.row c b) (no : x ≡ false) (greatest : g ≡ greatest_byte (multiples_of v.estimate v.row) c) where
  same : m ≡ multiples_of v.estimate v.row
  same = fields_of o e

  tested : {y : Bool} → ltb g b ≡ y → test_of m c b ≡ found_at m.estimate m.smallest c b y
  unfolding allows_of
  tested {y} l =
      let a : allows_by m c b ≡ false = ap (λ (n : Inside). allows_by n c b) same ∙ sym is ∙ no in
      let k : ltb (greatest_byte m c) b ≡ y = ap (λ (n : Inside). ltb (greatest_byte n c) b) same ∙ ap (λ (i : ℕ). ltb i b) (sym greatest) ∙ l in
      rw (a, k) refl

  pub low_found : g < b → let d = low_divisor m.estimate m.smallest c b in Found v c b d (low_at d c)
  low_found l = subst (λ (z : TableRow). let d = low_divisor m.estimate m.smallest c b in Found z c b d (low_at d c)) e (found_is o h.0 h.1 (tested (lt-ltb _ _ l)))

  pub high_found : b ≤ g → let d = high_divisor m.estimate m.smallest c b in Found v c b d (high_at d c b)
  high_found l = subst (λ (z : TableRow). let d = high_divisor m.estimate m.smallest c b in Found z c b d (high_at d c b)) e (found_is o h.0 h.1 (tested (le-ltb _ _ l)))
