-- A refusal, its number (0: none) and its place (the specification's term: the index of what is wrong, or 0), and the answer of the check where it has nothing else to tell: the specification, section 18.
use Rattle.std.specs.Prelude.{ℕ, pos}
use Rattle.selection.specs.declared.Reason.{Reason}
use Rattle.selection.specs.declared.Reason.TheVariants as R
use Rattle.selection.specs.declared.Refusal.{Refusal}
use Rattle.selection.specs.declared.numbers.Report.{Report}

abbrev pub refusal : ℕ → ℕ → Refusal
refusal n p = record { number = n; place = p }

-- the number of each reason
-- § 18.1 Each condition has a number and a place.
abbrev pub number_of_reason : Reason → ℕ
number_of_reason R.Cell = 1
number_of_reason R.Digits = 2
number_of_reason R.Span = 3
number_of_reason R.TooLarge = 4
number_of_reason R.ByZero = 5
number_of_reason R.Direction = 6
number_of_reason R.Room = 7
number_of_reason R.Length = 8
number_of_reason R.Byte = 9
number_of_reason R.BadCell = 10
number_of_reason R.Lists = 11
number_of_reason R.Width = 12
number_of_reason R.Reading = 13
number_of_reason R.Range = 14
number_of_reason R.Decimal = 15
number_of_reason R.Bits = 16
number_of_reason R.EstimateBits = 17

-- the check's answer: refusal 10 also carries count, cell and witness
abbrev pub report_zeros : Refusal → Report
report_zeros f = record { refusal = f; count = 0; row = 0; column = 0; divisor = 0; remainder = pos 0 }
