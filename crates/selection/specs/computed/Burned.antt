-- Burned tables: the specification, section 2.6. The column of each estimate and what it leaves out, and what is said of a table for a divider that adds seven bits.
use Rattle.std.specs.Prelude.{◌≡◌, ℕ, ◌+◌, ◌-◌, ◌*◌, ◌^◌, ◌<◌, ◌≤◌, List, pos, ◌+ℤ◌, Ok}
use Rattle.selection.specs.Word.{signed}
use Rattle.selection.specs.Cell.{estimate, column, truncation_error, span_of}
use Rattle.selection.specs.Table.{BadAt, Passes}
use Rattle.selection.specs.computed.Table.{table_rules}
use Rattle.selection.specs.Answer.{refusal}
use Rattle.selection.specs.computed.Answer.{report_numbers}
use Rattle.selection.specs.computed.Refusals.{first_refusal}
use Rattle.selection.specs.computed.Outcomes.{made_table, report_of}
use Rattle.selection.specs.declared.Estimate.{Estimate}
use Rattle.selection.specs.declared.Estimate.TheVariants.{SevenBits, EightBits}

-- two words of the column c, of which the estimate E leaves out e
-- § 2.5 Every e up to the span occurs in every column.
pub record TruncatesBy (E : Estimate) (c e : ℕ) : Type 0 where
  pub sum : ℕ
  pub carry : ℕ
  pub words : (sum < 2 ^ 64) × (carry < 2 ^ 64)
  pub column : column E sum carry ≡ c
  pub truncation_error_law : truncation_error E sum carry ≡ e

-- § 2.6 Sections 2.4 to 2.6 hold of both dividers.
pub record BurnedTables : Type 0 where
  -- the column is the estimate t plus 64
  -- § 2.4 The column is t + 64.
  pub column_is : (E : Estimate) (s k : ℕ) → pos (column E s k) ≡ estimate E s k +ℤ pos 64
  -- P is t·2^57 + e, read as signed, and e goes from 0 to the span: no farther, and every such e occurs in every column
  -- § 2.5 P is t·2^57 + e modulo 2^64.
  pub remainder_is : (E : Estimate) (s k : ℕ) → signed (s + k) ≡ signed ((column E s k + 64) * 2 ^ 57 + truncation_error E s k)
  -- § 2.5 e is at most the estimate's span.
  pub at_most : (E : Estimate) (s k : ℕ) → truncation_error E s k ≤ span_of E
  -- § 2.5 Every e up to the span occurs in every column.
  pub occurs : (E : Estimate) (c e : ℕ) → c ≤ 127 → e ≤ span_of E → TruncatesBy E c e
  -- every table that passes for seven bits passes for eight: the check refuses nothing of it, and no other call turns it away
  -- § 2.6 A table that passes by seven bits passes by eight.
  pub passes : (t : List ℕ) → Passes SevenBits t → Passes EightBits t
  pub told : (t : List ℕ) → Passes SevenBits t → report_numbers (report_of EightBits t) ≡ record { refusal = refusal 0 0; count = 0; row = 0; column = 0; divisor = 0; remainder = pos 0 }
  pub admitted : (t : List ℕ) → Passes SevenBits t → first_refusal (table_rules EightBits t) ≡ Ok tt
  -- the table made for an estimate passes for it. The one made for seven bits passes for eight too; the one made for eight, the kept one, does not pass for seven: its byte 196 is bad there
  pub made_passes : (E : Estimate) → Passes E (made_table E)
  pub seven_passes : Passes EightBits (made_table SevenBits)
  pub kept_bad : BadAt SevenBits (made_table EightBits) 196
  -- § 2.6 The kept table does not pass by seven bits.
  pub kept_fails : Passes SevenBits (made_table EightBits) → ⊥
  -- two words of which seven bits leave out all that they can: their sum is 0 by seven bits, and 1 by eight
  pub example : (estimate SevenBits (2 ^ 57 - 1) (2 ^ 57 - 1) ≡ pos 0) × (truncation_error SevenBits (2 ^ 57 - 1) (2 ^ 57 - 1) ≡ 2 ^ 58 - 2) × (estimate EightBits (2 ^ 57 - 1) (2 ^ 57 - 1) ≡ pos 1)
