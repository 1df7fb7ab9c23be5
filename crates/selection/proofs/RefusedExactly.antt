-- Refused exactly when a point leaves the range, and a single cell's verdict: demand 3's words on the check.
use Rattle.laws.proofs.{Basics.{refl, sym, ◌↔◌, List, ℕ, ◌+◌, ◌*◌, ◌/◌, ◌%◌, ◌<◌, arith, ℤ, pos, ◌-ℤ◌, ◌*ℤ◌, get_or}, Diff.{diffs, by_diff}, Counting.{tally_as, tally_nothing}}
use Rattle.std.specs.Prelude.{Option, Some, None, Result, Ok, Err}
use Rattle.selection.specs.{Word.{Within}, computed.Answer.{cell_numbers, outcome_numbers, report_numbers}, Cell.{Against, LeastWitness, digit}, computed.Cell.{IsCell, CellChecked}}
use Rattle.selection.specs.{Table.{Table, BadAt, Passes}, computed.Table.{Checked, ReportMeaning, AnswerMeaning}, Demand.{Leaves, SomeLeaves, RefusedExactly, CellTold}, declared.table.Outcome.{Outcome}}
use Rattle.selection.specs.declared.{table.Outcome.TheVariants.{Passed, Bad}, table.TableVerdict.{TableVerdict}, Witness.{Witness}, Refusal.{Refusal}, Estimate.{Estimate}}
use Rattle.selection.proofs.{BiasedPoints.{not_allowed, known_not_refused}, Tables.{no_table, cell_row, cell_column}}

-- -2D ≤ 3z ≤ 2D exactly if -8D ≤ 3·4z ≤ 8D
four : (D : ℕ) (z : ℤ) → Within 2 D (pos 3 *ℤ z) ↔ Within 8 D (pos 3 *ℤ (pos 4 *ℤ z))
four D =
    by_diff (λ z. Within 2 D (pos 3 *ℤ z) ↔ Within 8 D (pos 3 *ℤ (pos 4 *ℤ z)))
    (λ a b. (
      (λ w. record { low = simp diffs (omega (arith, simp diffs at w.low)); high = simp diffs (omega (arith, simp diffs at w.high)) }),
      λ w. record { low = simp diffs (omega (arith, simp diffs at w.low)); high = simp diffs (omega (arith, simp diffs at w.high)) },
    ))

module _ (E : Estimate) where
  module _ {t : List ℕ} {k : ℕ} where
    -- a witness is a point that leaves
    of_against : {D : ℕ} {P : ℤ} → Against E (k / 128) (k % 128) (digit (get_or t k 0)) D P ↔ Leaves E t k D P
    of_against {D} {P} =
        let z = four D (P -ℤ pos D *ℤ digit (get_or t k 0)) in
        ((λ a. record { point = a.point; out = λ w. a.broken (z.1 w) }), λ l. record { point = l.point; broken = λ w. l.out (z.0 w) })

    of_bad : Table t → BadAt E t k ↔ SomeLeaves E t k
    of_bad h = ((λ b. record { divisor = _; remainder = _; leaves = of_against.0 b.against }), λ s. record { byte = h.digits k; divisor = _; remainder = _; against = of_against.1 s.leaves })

  kept : {t : List ℕ} → Passes E t → (k : ℕ) → k < 2048 → SomeLeaves E t k → ⊥
  kept p k h s = not_allowed E ((of_bad p.table).1 s).against (p.allowed k h)

  -- § 21.3 A table is refused exactly when a point leaves the range.
  pub refused_exactly : {t : List ℕ} {a : Result TableVerdict Refusal} → Table t → Checked E t a → RefusedExactly E t (report_numbers a)
  refused_exactly {t} {a} h x = answered a x.means
    where
      go : (n : ℕ) (o : Outcome) → ReportMeaning E t n o → RefusedExactly E t (outcome_numbers n o)
      go n Passed w = record {
        when = ((λ e. absurd (omega arith)), λ l. absurd (kept w.0 l.0 l.1 l.2));
        count = tally_nothing 2048 (kept w.0);
        first = λ e. absurd (omega arith);
        otherwise = λ e. refl;
      }
      go n (Bad b) w =
          let k = 128 * b.row + b.column in
          let f = w.2 in
          let l : LeastWitness E (k / 128) (k % 128) (digit (get_or t k 0)) b.witness.divisor b.witness.remainder = rw (cell_row b.row b.column f.column, cell_column b.row b.column f.column) f.witness in
          record {
            when = ((λ e. (k, omega (arith, f.row, f.column), (of_bad h).0 f.first.here)), λ l. refl);
            count = tally_as (λ k l. (of_bad h).0) (λ k l. (of_bad h).1) w.1;
            first = λ e. record {
              row = sym (cell_row b.row b.column f.column);
              column = sym (cell_column b.row b.column f.column);
              cell = record { here = (of_bad h).0 f.first.here; before = λ j l s. f.first.before j l ((of_bad h).1 s) };
              leaves = of_against.0 l.against;
              divisor_least = λ D P m. l.divisor_least D P (of_against.1 m);
              remainder_least = λ P m. l.remainder_least P (of_against.1 m);
            };
            otherwise = λ e. absurd (e refl);
          }

      answered : (a : Result TableVerdict Refusal) → AnswerMeaning E t a → RefusedExactly E t (report_numbers a)
      answered (Ok a) w = go a.count a.outcome w
      answered (Err f) w = no_table h w

  -- § 4.2 The answer on one cell is told in numbers.
  pub cell_told : {r c b : ℕ} → IsCell r c b → (v : Result (Option Witness) Refusal) → CellChecked E r c b v → CellTold E r c b (cell_numbers v)
  cell_told k (Ok None) x = record { done = refl; allowed = ((λ e. x.means.1), λ a. refl); besides = λ e. refl; disallowed = λ e. absurd (e refl) }
  cell_told k (Ok (Some w)) x = record {
    done = refl;
    allowed = ((λ e. absurd (omega arith)), λ a. absurd (not_allowed E x.means.1.against a));
    besides = λ e. absurd (omega arith);
    disallowed = λ e. (refl, x.means.1);
  }
  cell_told k (Err f) x = known_not_refused k x.means
