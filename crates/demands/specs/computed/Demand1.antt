-- Demand 1: each call refuses exactly under the conditions of the specification, section 18, in their order; a refused answer is its
-- number, its place and zeros, and a lent buffer keeps its contents. (That every call finishes is the language's own promise.)
use Rattle.std.specs.Prelude.{◌≡◌, Bool, List, [], ◌∷◌, ◌++◌, ℕ, ◌+◌, ◌*◌, ◌<◌, pos, length, get_or}
use Rattle.laws.specs.Counting.{Tally}
use Rattle.selection.specs.Answer.{refusal, report_zeros}
use Rattle.selection.specs.computed.Answer.{refusal_of, cell_numbers, cell_zeros, report_numbers}
use Rattle.selection.specs.declared.Refusal.{Refusal}
use Rattle.selection.specs.declared.numbers.Report.{Report}
use Rattle.selection.specs.computed.Refusals.{Rule, Wrongs, first_refusal, rank, IsFirstRefusal, RefusedBy, Refuses}
use Rattle.selection.specs.Cell.{LeastWitness, digit}
use Rattle.selection.specs.computed.Cell.{cell_rules}
use Rattle.selection.specs.computed.Maker.{limits_rules, limits_zeros, make_rules, make_refused}
use Rattle.selection.specs.Table.{BadAt}
use Rattle.selection.specs.computed.Table.{table_rules}
use Rattle.selection.specs.computed.Outcomes.{cell_of, row_limits_of, make_of, made_table, report_of, repair_of}
use Rattle.selection.specs.computed.Repair.{repair_rules, repair_zeros, repair_refused}
use Rattle.recurrence.specs.computed.Run.{run_rules, run_zeros, run_refused, run_of}
use Rattle.recurrence.specs.computed.Step.{step_rules, step_zeros, step_of}
use Rattle.recurrence.specs.computed.Visits.{visits_rules, visits_refused, visits_of}
use Rattle.recurrence.specs.computed.Recheck.{affected_run_rules, mark_zeros, affected_run_of, affected_run_for}
use Rattle.division.specs.computed.Whole.{whole_rules, whole_zeros, whole_of}
use Rattle.division.specs.computed.Binary64.{binary64_of}
use Rattle.division.specs.computed.Format.{direction_rules, binary64_zeros}
use Rattle.division.specs.computed.Samples.{samples_rules, samples_zeros, samples_refused, samples_of}
use Rattle.division.specs.computed.Recheck.{recheck_rules, recheck_zeros, affected_refused, affected_of, affected_for}
use Rattle.division.specs.computed.RecheckWhole.{recheck_whole_rules, recheck_whole_of, recheck_whole_for}
use Rattle.division.specs.computed.Packed.{packed_rules, packed_zeros, packed_of}
use Rattle.division.specs.computed.Ratios.{ratios_rules, comparison_zeros, comparison_numbers, compared_of}
use Rattle.division.specs.computed.RootCalls.{root_rules, root_zeros, root_whole_of, root_binary64_of}
use Rattle.exposure.specs.computed.Averages.{averages_rules, averages_refused}
use Rattle.exposure.specs.computed.Outcomes.{averages_of}
use Rattle.selection.specs.declared.Estimate.{Estimate}
use Rattle.selection.specs.declared.Estimate.TheVariants.{EightBits}
use Rattle.selection.specs.computed.Bits.{bits_rules, estimate_of, check_cell_for, check_table_for, row_limits_for, make_for, repair_for}

-- what the check's refusal 10 at the place p carries: the number of bad cells, the first of them, its witness
-- § 18.5 The check's refusal 10 carries count, cell and witness.
pub record Carries (E : Estimate) (t : List ℕ) (p : ℕ) (x : Report) : Type 0 where
  pub count : Tally (BadAt E t) 2048 x.count
  pub cell : 128 * x.row + x.column ≡ p
  pub witness : LeastWitness E x.row x.column (digit (get_or t p 0)) x.divisor x.remainder

-- the check, by a list of rules: zeros besides under all others
-- § 18.5 The check's refusal 10 carries count, cell and witness.
pub record CheckRefuses (rules : List Rule) (E : Estimate) (t : List ℕ) (x : Report) : Type 0 where
  pub by : RefusedBy (Wrongs rules) x.refusal
  pub besides : (n p : ℕ) → (n ≡ 10 → ⊥) → IsFirstRefusal (Wrongs rules) n p → x ≡ report_zeros (refusal n p)
  pub carries : (p : ℕ) → IsFirstRefusal (Wrongs rules) 10 p → Carries E t p x

-- the zeros beside a refusal, in numbers; the maker, the visits and the averages answer a number and a place, and nothing besides
-- § 18.5 Of each answer these are the zeros:
pub record ZerosBesides : Type 0 where
  pub number_and_place : (n p : ℕ) → refusal n p ≡ record { number = n; place = p }
  pub cell : (f : Refusal) → cell_zeros f ≡ record { refusal = f; allowed = 0; divisor = 0; remainder = pos 0 }
  pub report : (f : Refusal) → report_zeros f ≡ record { refusal = f; count = 0; row = 0; column = 0; divisor = 0; remainder = pos 0 }
  pub limits : (f : Refusal) → limits_zeros f ≡ record { refusal = f; limits = 0 ∷ 0 ∷ 0 ∷ 0 ∷ 0 ∷ 0 ∷ [] }
  pub run : (f : Refusal) → run_zeros f ≡ record { refusal = f; quotient = 0; remainder = 0; digits = 0 }
  pub step : (f : Refusal) → step_zeros f ≡ record { refusal = f; digit = pos 0; sum = 0; carry = 0 }
  pub packed : (f : Refusal) → packed_zeros f ≡ record { refusal = f; quotient = 0 ∷ 0 ∷ 0 ∷ 0 ∷ 0 ∷ 0 ∷ 0 ∷ 0 ∷ []; remainder = 0 ∷ 0 ∷ 0 ∷ 0 ∷ 0 ∷ 0 ∷ 0 ∷ 0 ∷ [] }
  pub repair : (f : Refusal) → repair_zeros f ≡ record { refusal = f; count = 0 }
  pub recheck : (f : Refusal) → recheck_zeros f ≡ record { refusal = f; count = 0 }
  pub recheck_one : (f : Refusal) → mark_zeros f ≡ record { refusal = f; affected = 0 }
  pub comparison : (f : Refusal) → comparison_zeros f ≡ record { refusal = f; order = pos 0 }
  pub whole : (f : Refusal) → whole_zeros f ≡ record { refusal = f; quotient = 0; remainder = 0 }
  pub binary64 : (f : Refusal) → binary64_zeros f ≡ record { refusal = f; pattern = 0; flags = 0 }
  pub samples : (f : Refusal) → samples_zeros f ≡ record { refusal = f; flags = 0; count = 0 }
  pub root : (f : Refusal) → root_zeros f ≡ record { refusal = f; root = 0; remainder = 0 }

-- § 18.3 Each call refuses by its own rules, in that order.
-- § 21.1 Demand 1 holds.
pub record Demand1 : Type 0 where
  pub zeros : ZerosBesides
  -- the order is that of the numbers, from 1 to 10; 11 comes after 6 and before 7, 12 before 13 and that before 7, 14 after 3 and before 8, 15 before 5, 16 after 2 and before 7, 17 before all
  pub order : (m n : ℕ) → m < n → n < 10 → rank (m + 1) < rank (n + 1)
  pub order_11 : (rank 6 < rank 11) × (rank 11 < rank 7)
  pub order_12 : (rank 12 < rank 13) × (rank 13 < rank 7)
  pub order_14 : (rank 3 < rank 14) × (rank 14 < rank 8)
  pub order_15 : rank 15 < rank 5
  pub order_16 : (rank 2 < rank 16) × (rank 16 < rank 7)
  pub order_17 : (m : ℕ) → m < 16 → rank 17 < rank (m + 1)
  pub check_cell : (E : Estimate) (r c b : ℕ) → Refuses (Wrongs (cell_rules r c b)) (λ x. x.refusal) cell_zeros (cell_numbers (cell_of E r c b))
  pub row_limits : (E : Estimate) (r : ℕ) → Refuses (Wrongs (limits_rules r)) (λ x. x.refusal) limits_zeros (row_limits_of E r)
  pub make_table : (E : Estimate) (s : List ℕ) → Refuses (Wrongs (make_rules (length s))) (λ x. x.answer) (make_refused s) (make_of E s)
  pub repair : (E : Estimate) (t rs cs : List ℕ) → Refuses (Wrongs (repair_rules (length t) (length rs) (length cs))) (λ x. x.answer.refusal) (repair_refused rs cs) (repair_of E t rs cs)
  pub check_table : (E : Estimate) (t : List ℕ) → CheckRefuses (table_rules E t) E t (report_numbers (report_of E t))
  -- the same calls for a number of bits: 17, then as above
  pub check_cell_for_law : (bits r c b : ℕ) → Refuses (Wrongs (bits_rules bits ++ cell_rules r c b)) (λ x. x.refusal) cell_zeros (check_cell_for bits r c b)
  pub row_limits_for_law : (bits r : ℕ) → Refuses (Wrongs (bits_rules bits ++ limits_rules r)) (λ x. x.refusal) limits_zeros (row_limits_for bits r)
  pub make_table_for : (bits : ℕ) (s : List ℕ) → Refuses (Wrongs (bits_rules bits ++ make_rules (length s))) (λ x. x.answer) (make_refused s) (make_for bits s)
  pub repair_for_law : (bits : ℕ) (t rs cs : List ℕ) → Refuses (Wrongs (bits_rules bits ++ repair_rules (length t) (length rs) (length cs))) (λ x. x.answer.refusal) (repair_refused rs cs) (repair_for bits t rs cs)
  pub check_table_for_law : (bits : ℕ) (t : List ℕ) → CheckRefuses (bits_rules bits ++ table_rules (estimate_of bits) t) (estimate_of bits) t (check_table_for bits t)
  -- what the calls below make of a table that they are lent
  pub admit : (t : List ℕ) → RefusedBy (Wrongs (table_rules EightBits t)) (refusal_of (first_refusal (table_rules EightBits t)))
  pub run : (t : List ℕ) (N D n : ℕ) (b : List ℕ) (place : ℕ) → Refuses (Wrongs (run_rules N D n (length b) place ++ table_rules EightBits t)) (λ x. x.answer.refusal) (run_refused b) (run_of t N D n b place)
  pub step : (s k D : ℕ) (t : List ℕ) → Refuses (Wrongs (step_rules s k D ++ table_rules EightBits t)) (λ x. x.refusal) step_zeros (step_of s k D t)
  pub visits : (t : List ℕ) (k n : ℕ) (v : List ℕ) → Refuses (Wrongs (visits_rules k n (length v) ++ table_rules EightBits t)) (λ x. x.answer) (visits_refused v) (visits_of t k n v)
  pub whole : (t : List ℕ) (a b : ℕ) → Refuses (Wrongs (whole_rules a b ++ table_rules EightBits t)) (λ x. x.refusal) whole_zeros (whole_of t a b)
  pub binary64 : (t : List ℕ) (direction a b : ℕ) → Refuses (Wrongs (direction_rules direction ++ table_rules EightBits t)) (λ x. x.refusal) binary64_zeros (binary64_of t direction a b)
  pub samples : (t : List ℕ) (direction : ℕ) (currents sensitivities given : List ℕ)
      → Refuses (Wrongs (samples_rules direction (length currents) (length sensitivities) (length given) ++ table_rules EightBits t)) (λ x. x.answer.refusal) (samples_refused given) (samples_of t direction currents sensitivities given)
  -- a table as it was burned: no byte of it is refused
  pub recheck : (E : Estimate) (t currents sensitivities given : List ℕ)
      → Refuses (Wrongs (recheck_rules (length t) (length currents) (length sensitivities) (length given))) (λ x. x.answer.refusal) (affected_refused given) (affected_of E t currents sensitivities given)
  pub recheck_run : (E : Estimate) (t : List ℕ) (N D n : ℕ) → Refuses (Wrongs (affected_run_rules (length t) N D n)) (λ x. x.refusal) mark_zeros (affected_run_of E t N D n)
  pub recheck_whole : (E : Estimate) (t : List ℕ) (a b : ℕ) → Refuses (Wrongs (recheck_whole_rules (length t) a b)) (λ x. x.refusal) mark_zeros (recheck_whole_of E t a b)
  -- the calls: 17, then as above
  pub recheck_for : (bits : ℕ) (t currents sensitivities given : List ℕ)
      → Refuses (Wrongs (bits_rules bits ++ recheck_rules (length t) (length currents) (length sensitivities) (length given))) (λ x. x.answer.refusal) (affected_refused given) (affected_for bits t currents sensitivities given)
  pub recheck_run_for : (bits : ℕ) (t : List ℕ) (N D n : ℕ) → Refuses (Wrongs (bits_rules bits ++ affected_run_rules (length t) N D n)) (λ x. x.refusal) mark_zeros (affected_run_for bits t N D n)
  pub recheck_whole_for_law : (bits : ℕ) (t : List ℕ) (a b : ℕ) → Refuses (Wrongs (bits_rules bits ++ recheck_whole_rules (length t) a b)) (λ x. x.refusal) mark_zeros (recheck_whole_for bits t a b)
  -- over the kept table no table is refused
  pub run_kept : (N D n : ℕ) (b : List ℕ) (place : ℕ) → Refuses (Wrongs (run_rules N D n (length b) place)) (λ x. x.answer.refusal) (run_refused b) (run_of (made_table EightBits) N D n b place)
  pub whole_kept : (a b : ℕ) → Refuses (Wrongs (whole_rules a b)) (λ x. x.refusal) whole_zeros (whole_of (made_table EightBits) a b)
  pub binary64_kept : (direction a b : ℕ) → Refuses (Wrongs (direction_rules direction)) (λ x. x.refusal) binary64_zeros (binary64_of (made_table EightBits) direction a b)
  -- packed numbers are divided over the kept table
  pub packed : (xs ys : List ℕ) → Refuses (Wrongs (packed_rules xs ys)) (λ x. x.refusal) packed_zeros (packed_of xs ys)
  -- ratios are compared over the kept table
  pub compare_ratios : (a b c d : ℕ) → Refuses (Wrongs (ratios_rules a b c d)) (λ x. x.refusal) comparison_zeros (comparison_numbers (compared_of a b c d))
  -- roots use no table
  pub root_whole : (a : ℕ) → Refuses (Wrongs (root_rules a)) (λ x. x.refusal) root_zeros (root_whole_of a)
  pub root_binary64 : (direction p : ℕ) → Refuses (Wrongs (direction_rules direction)) (λ x. x.refusal) binary64_zeros (root_binary64_of direction p)
  -- averages are divided over the kept table, and their direction has no part in what is refused
  pub averages : (xs : List ℕ) (w : ℕ) (newest_first : Bool) (ms rs : List ℕ)
      → Refuses (Wrongs (averages_rules xs w (length ms) (length rs))) (λ x. x.answer) (averages_refused ms rs) (averages_of xs w newest_first ms rs)
