-- The run as a caller sees it: the specification, sections 6 and 18. The refusals in their order, and the outcome: the answer and the buffer whole.
use Rattle.std.specs.Prelude.{ℕ, ◌+◌, ◌-◌, ◌^◌, List, [], ◌∷◌, ◌++◌, length, take, drop, Result, Ok, Err}
use Rattle.selection.specs.Answer.{refusal}
use Rattle.selection.specs.computed.Answer.{answer_by}
use Rattle.selection.specs.computed.Table.{table_rules}
use Rattle.selection.specs.computed.Refusals.{Condition, Rule, too_short, below, same, either_of, number, first_refusal}
use Rattle.selection.specs.declared.Refusal.{Refusal}
use Rattle.recurrence.specs.Recurrence.{digits, result_of}
use Rattle.recurrence.specs.declared.RunResult.{RunResult}
use Rattle.recurrence.specs.declared.Ran.{Ran}
use Rattle.selection.specs.declared.Estimate.TheVariants.{EightBits}

-- the most digits that the recurrence gives: whole-number division needs so many
-- § 6.1 A caller's run has at most 28 digits, a run inside the unit 31.
abbrev pub longest : ℕ
longest = 31

-- the most digits that a caller may ask for
-- § 6.1 A caller's run has at most 28 digits, a run inside the unit 31.
abbrev pub most_digits : ℕ
most_digits = 28

-- a number of digits that may not be asked for: 0, or above the most
abbrev pub digits_outside : ℕ → ℕ → Condition
digits_outside most n = either_of (same n 0) (below most n)

-- a divisor outside its span, from 2^60 to 2^61 - 1
abbrev pub divisor_outside : ℕ → Condition
divisor_outside D = either_of (below D (2 ^ 60)) (below (2 ^ 61 - 1) D)

-- 3: D or N outside its span, from 2^60 to 2^61 - 1 and from 0 to 2^61 - 1
abbrev pub span_rule : ℕ → ℕ → Rule
span_rule N D = number 3 (either_of (divisor_outside D) (below (2 ^ 61 - 1) N))

-- what a run refuses of its arguments. 2: n is 0 or above the most that a caller may ask for. 3: D or N outside its span. 7: the buffer ends before the last byte to write
-- § 18.1 Each condition has a number and a place.
unfoldable pub run_rules : ℕ → ℕ → ℕ → ℕ → ℕ → List Rule
run_rules N D n len place =
    number 2 (digits_outside most_digits n)
    ∷ span_rule N D
    ∷ number 7 (too_short len (place + n))
    ∷ []

-- n digit bytes from the place on, and the other bytes as they were
-- § 6.4 Digits are written from the given place on; other bytes are kept.
abbrev pub written : List ℕ → ℕ → List ℕ → ℕ → List ℕ
written b place ds n = take place b ++ (ds ++ drop (place + n) b)

-- number and place of a refusal, and zeros
abbrev pub run_zeros : Refusal → Ran
run_zeros f = record { refusal = f; quotient = 0; remainder = 0; digits = 0 }

-- quotient, remainder and n, and no refusal
abbrev pub run_values : RunResult → Ran
run_values x = record { refusal = refusal 0 0; quotient = x.quotient; remainder = x.remainder; digits = x.count }

abbrev pub run_numbers : Result RunResult Refusal → Ran
run_numbers (Ok x) = run_values x
run_numbers (Err f) = run_zeros f

-- the outcome of a run: its answer, and what the buffer then holds; refused, the buffer b is as it was
pub record RunOutcome : Type 0 where
  pub answer : Ran
  pub buffer : List ℕ

abbrev pub run_refused : List ℕ → Refusal → RunOutcome
run_refused b f = record { answer = run_zeros f; buffer = b }

-- not refused
abbrev pub run_done : List ℕ → ℕ → ℕ → ℕ → List ℕ → ℕ → RunOutcome
run_done t N D n b place = record { answer = run_values (result_of EightBits t N D n); buffer = written b place (digits EightBits t N D n) n }

-- the outcome, where the buffer held b: after the arguments' refusals the table's, 8, 9, 10
abbrev pub run_of : List ℕ → ℕ → ℕ → ℕ → List ℕ → ℕ → RunOutcome
run_of t N D n b place = answer_by (run_refused b) (run_done t N D n b place) (first_refusal (run_rules N D n (length b) place ++ table_rules EightBits t))
