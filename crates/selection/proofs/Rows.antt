-- A row's multiples are columns.
use Rattle.laws.proofs.Basics.{◌≡◌, sym, ap, subst, ℕ, ◌+◌, ◌*◌, ◌-◌, ◌^◌, ◌≤◌, rules}
use Rattle.selection.specs.{computed.CellTest.{Bounds, RowOf, multiples_of}, computed.TableRow.{TableRow}, declared.cell.RowMultiples.TheInside.{Inside}, declared.Estimate.{Estimate}}
use Rattle.selection.specs.declared.Estimate.TheVariants.{SevenBits, EightBits}

-- each column is the last on the lower side of its multiple
-- § 4.3 A row's multiples are those of its least and greatest divisor.
pub bounds : (E : Estimate) (r : ℕ) → r ≤ 15 → Bounds (multiples_of E r) ((16 + r) * 2 ^ 56) ((17 + r) * 2 ^ 56 - 1)
bounds SevenBits r h = search rules
bounds EightBits r h = search rules

-- the multiples lie from column 19 to column 106
abbrev pub Columns : Inside → Type 0
Columns m = (19 ≤ m.minus8) × (m.minus5 ≤ 106) × (m.minus4 ≤ 106) × (m.minus2 ≤ 106) × (m.minus1 ≤ 106)
    × (m.plus1 ≤ 106) × (m.plus2 ≤ 106) × (m.plus4 ≤ 106) × (m.plus5 ≤ 106) × (m.minus8 ≤ m.plus8) × (m.plus8 ≤ 106)

pub columns : {m : Inside} → RowOf m → Columns m
columns {m} o = subst Columns (sym o.is) (elim m.estimate as (λ E. Columns (multiples_of E m.row)) [ SevenBits ↦ search rules | EightBits ↦ search rules ])

-- the number of the row v, and the fields that hold its multiples
pub row_is : {E : Estimate} {r : ℕ} {v : TableRow} → record { estimate = E; row = r } ≡ v → r ≡ v.row
row_is = ap (λ (v : TableRow). v.row)

pub fields_of : {m : Inside} {v : TableRow} → RowOf m → record { estimate = m.estimate; row = m.row } ≡ v → m ≡ multiples_of v.estimate v.row
fields_of o e = rw (← e) o.is
