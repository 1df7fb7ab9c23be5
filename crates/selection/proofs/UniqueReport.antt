-- The check has one answer to each table: one count, one first bad cell, one witness.
use Rattle.laws.proofs.{Basics.{◌≡◌, refl, sym, ap, ◌∙◌, List, ℕ, ◌+◌, ◌*◌, arith, ℤ, get_or}, Tests.{less_decides}, Counting.{tally_one}}
use Rattle.selection.specs.{Cell.{LeastWitness, digit}, computed.Table.{FirstBad, form_rules, Checked, ReportMeaning}, Table.{Table, Passes}, declared.table.Outcome.{Outcome}}
use Rattle.selection.specs.{declared.table.Outcome.TheVariants.{Passed, Bad}, declared.table.TableVerdict.{TableVerdict}, declared.table.BadCell.{BadCell}, computed.Refusals.{rank}}
use Rattle.selection.specs.declared.{Refusal.{Refusal}, Estimate.{Estimate}}
use Rattle.std.specs.Prelude.{Result, Ok, Err}
use Rattle.selection.proofs.{OneRule.{first_one}, Rules.{WellFormed, refusal_one}, Tables.{no_table}, BiasedPoints.{not_allowed}, UniqueCell.{one_witness}}

pub form_rules_law : (t : List ℕ) → WellFormed (form_rules t)
unfolding rank
form_rules_law t = record { sound = (tt, λ _. ((λ k h. less_decides 4 (get_or t k 0)), λ _. tt)); in_order = tt }

module _ (E : Estimate) where
  bad_one : {t : List ℕ} (a b : BadCell) → FirstBad E t a.row a.column a.witness.divisor a.witness.remainder
      → FirstBad E t b.row b.column b.witness.divisor b.witness.remainder → a ≡ b
  bad_one {t} a b x y =
      let e : 128 * a.row + a.column ≡ 128 * b.row + b.column = first_one x.first y.first in
      let r : a.row ≡ b.row = omega (arith, x.column, y.column) in
      let c : a.column ≡ b.column = omega (arith, x.column, y.column) in
      let w : LeastWitness E a.row a.column (digit (get_or t (128 * a.row + a.column) 0)) b.witness.divisor b.witness.remainder = rw (r, c) y.witness in
      λ i. record { row = r i; column = c i; witness = one_witness E x.row x.column a.witness b.witness x.witness w i }

  no_bad : {t : List ℕ} {r c D : ℕ} {P : ℤ} {X : Type 0} → Passes E t → FirstBad E t r c D P → X
  no_bad p f = absurd (not_allowed E f.first.here.against (p.allowed _ (omega (arith, f.row, f.column))))

  means_table : {t : List ℕ} (n : ℕ) (o : Outcome) → ReportMeaning E t n o → Table t
  means_table n Passed h = h.0.table
  means_table n (Bad b) h = h.0

  means_one : (t : List ℕ) (m n : ℕ) (x y : Outcome) → ReportMeaning E t m x → ReportMeaning E t n y → (m ≡ n) × (x ≡ y)
  means_one t m n Passed Passed h k = (h.1 ∙ sym k.1, refl)
  means_one t m n Passed (Bad b) h k = no_bad h.0 k.2
  means_one t m n (Bad b) Passed h k = no_bad k.0 h.2
  means_one t m n (Bad a) (Bad b) h k = (tally_one h.1 k.1, ap Bad (bad_one a b h.2 k.2))

  -- no two answers to one table
  -- § 4.1 No other answer of the check fits.
  pub checked_one : {t : List ℕ} (a b : Result TableVerdict Refusal) → Checked E t a → Checked E t b → a ≡ b
  checked_one {t} (Ok a) (Ok b) x y =
      let e = means_one t a.count b.count a.outcome b.outcome x.means y.means in
      λ i. Ok (record { count = e.0 i; outcome = e.1 i })
  checked_one (Ok a) (Err f) x y = no_table (means_table a.count a.outcome x.means) y.means
  checked_one (Err f) (Ok b) x y = no_table (means_table b.count b.outcome y.means) x.means
  checked_one {t} (Err f) (Err g) x y = ap Err (refusal_one (form_rules_law t) f g x.means y.means)
