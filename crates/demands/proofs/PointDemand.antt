-- The points of a cell are what a divider meets in it.
use Rattle.laws.proofs.Basics.{sym, ap, ◌∙◌, ℕ, ◌+◌, ◌*◌, ◌^◌, ◌≤◌, arith, ℤ}
use Rattle.selection.{specs.Word.{signed}, specs.Cell.{Point, truncation_error}, proofs.Burned.{burned_tables}, specs.declared.Estimate.{Estimate}}
use Rattle.demands.specs.computed.PointDemand.{Meets, PointDemand}

module _ (E : Estimate) (r c D : ℕ) (P : ℤ) (hr : r ≤ 15) (hc : c ≤ 127) where
  there : Point E r c D P → Meets E r c D P
  there p =
      let w = burned_tables.occurs E c p.column.e hc p.column.small in
      record {
        divisor = (omega (arith, p.row.from), omega (arith, p.row.below));
        row = omega (arith, p.row.from, p.row.below);
        sum = w.sum;
        carry = w.carry;
        words = w.words;
        column = w.column;
        remainder = burned_tables.remainder_is E w.sum w.carry ∙ rw (w.column, w.truncation_error_law) (sym p.column.is);
        range = p.range;
      }

  back : Meets E r c D P → Point E r c D P
  back m = record {
    row = record { from = omega (arith, m.row, m.divisor.0, m.divisor.1); below = omega (arith, m.row, m.divisor.0, m.divisor.1) };
    column = record {
      e = truncation_error E m.sum m.carry;
      small = burned_tables.at_most E m.sum m.carry;
      is = sym m.remainder ∙ burned_tables.remainder_is E m.sum m.carry ∙ ap (λ (k : ℕ). signed ((k + 64) * 2 ^ 57 + truncation_error E m.sum m.carry)) m.column;
    };
    range = m.range;
  }

-- § 3.1 A point has D in the row, P in the column, and −8D ≤ 3P ≤ 8D.
pub point_demand : PointDemand
point_demand = record { points = λ E r c D P hr hc. (there E r c D P hr hc, back E r c D P hr hc) }
