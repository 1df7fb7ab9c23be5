-- For a user with a burned table: what passes for seven bits passes for eight, and the check says so. The converse is false, by the table that is made for eight.
use Rattle.laws.{proofs.Basics.{refl, sym, ◌∙◌, List, ℕ, ◌*◌, ◌-◌, ◌^◌, arith, lit<, lit≤, pos}, specs.Lists.{list_from}}
use Rattle.selection.specs.{Word.{signed}, Cell.{estimate, span_of, Point, digit}, Table.{BadAt, Passes}, computed.Allowed.{allows_of}, computed.Outcomes.{made_of, made_table}}
use Rattle.selection.specs.{declared.Estimate.TheVariants.{SevenBits, EightBits}, computed.Burned.{BurnedTables}}
use Rattle.selection.proofs.{BiasedPoints.{not_allowed}, Columns.{column_estimate, truncation_error_law, truncation_most, column_all}, MadeTables.{kept_passes}}
use Rattle.selection.proofs.Reports.{report_passed, passes_admitted, admission_rules}

-- every table that passes for seven bits passes for eight: these leave out less, so a cell has fewer points
pub burned_passes : {t : List ℕ} → Passes SevenBits t → Passes EightBits t
burned_passes p = record {
  table = p.table;
  allowed = λ k l D P x. p.allowed k l D P (record { row = x.row; column = record { e = x.column.e; small = omega (arith, x.column.small); is = x.column.is }; range = x.range });
}

-- the table that is made for eight bits holds 0 in row 1, column 68. For seven e goes up to 2^58 - 2 there, and P to 6·2^57 - 2, which is above 2D/3 at the row's least D
corner : Point SevenBits 1 68 (17 * 2 ^ 56) (pos (6 * 2 ^ 57 - 2))
unfolding signed
corner = record { row = record { from = lit≤ tt; below = lit< tt }; column = record { e = span_of SevenBits; small = lit≤ tt; is = refl }; range = record { low = record { le = tt }; high = record { le = tt } } }

pub kept_bad : BadAt SevenBits (made_table EightBits) 196
unfolding made_table list_from made_of allows_of digit
kept_bad = record { byte = lit≤ tt; divisor = 17 * 2 ^ 56; remainder = pos (6 * 2 ^ 57 - 2); against = record { point = corner; broken = λ k. k.high.le } }

-- § 2.6 Sections 2.4 to 2.6 hold of both dividers.
pub burned_tables : BurnedTables
unfolding estimate
burned_tables = record {
  column_is = column_estimate;
  remainder_is = truncation_error_law;
  at_most = truncation_most;
  occurs = λ E c e hc he. let w = column_all E c e hc he in record { sum = w.0; carry = w.1; words = (w.2, w.3); column = w.4; truncation_error_law = w.5 };
  passes = λ t. burned_passes;
  told = λ t p. report_passed EightBits (burned_passes p);
  admitted = λ t p. sym (admission_rules EightBits t) ∙ passes_admitted EightBits (burned_passes p);
  made_passes = kept_passes;
  seven_passes = burned_passes (kept_passes SevenBits);
  kept_bad = kept_bad;
  kept_fails = λ p. not_allowed SevenBits kept_bad.against (p.allowed 196 (lit< tt));
  example = (refl, refl, refl);
}
