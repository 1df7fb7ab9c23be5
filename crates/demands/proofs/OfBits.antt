-- The calls for a number of bits, as C is told.
use Rattle.laws.proofs.Basics.{◌≡◌, refl, ap, ◌∙◌, List, ℕ}
use Rattle.selection.specs.{Answer.{refusal, report_zeros}, computed.Answer.{cell_numbers, cell_zeros, report_numbers}, computed.Bits.{for_bits}, computed.Maker.{limits_zeros, MakeOutcome, make_refused}}
use Rattle.selection.{specs.computed.Repair.{RepairOutcome, repair_refused}, specs.computed.Outcomes.{cell_of, report_of, row_limits_of, make_of, repair_of}, proofs.ForBits.{bits_refused}}
use Rattle.selection.specs.declared.{Refusal.{Refusal}, Estimate.{Estimate}, Estimate.TheVariants.{SevenBits, EightBits}, numbers.Cell.{Cell}, numbers.Report.{Report}, maker.Limits.{Limits}}
use Rattle.division.specs.computed.{Recheck.{AffectedOutcome, affected_refused, affected_of}, RecheckWhole.{recheck_whole_of}}
use Rattle.recurrence.specs.{computed.Recheck.{mark_zeros, affected_run_of}, declared.recheck.AffectedMark.{AffectedMark}}
use Rattle.demands.specs.Calls.{ForBits, ChecksTableFor, ChecksCellFor, TellsLimitsFor, MakesTableFor, RepairsTableFor, AffectsSamplesFor, AffectsWholeFor, AffectsRunFor}
use Rattle.demands.proofs.{OfSelection.{checks_table, checks_cell, tells_limits, makes_table, repairs_table}, OfRecords.{affects_samples, affects_whole, affects_run}}

-- x, a call's outcome by the number of bits: what is refused of the number, and what is right of each estimate
for_bits_law : {X : Type 0} {n : ℕ} (zeros : Refusal → X) (f : Estimate → X) {x : X} {Only : Type 0} {C : Estimate → Type 0} → x ≡ for_bits zeros f n → (x ≡ zeros (refusal 17 0) → Only)
    → ((E : Estimate) → x ≡ f E → C E) → ForBits n Only C
for_bits_law {n} zeros f e only right =
    record { neither = λ h. only (e ∙ bits_refused n zeros f h); seven = λ s. right SevenBits (e ∙ ap (for_bits zeros f) s); eight = λ s. right EightBits (e ∙ ap (for_bits zeros f) s) }

pub checks_table_for : {n : ℕ} {t : List ℕ} {x : Report} → x ≡ for_bits report_zeros (λ (E : Estimate). report_numbers (report_of E t)) n → ChecksTableFor n t x
checks_table_for {t} e = for_bits_law report_zeros (λ (E : Estimate). report_numbers (report_of E t)) e (λ h. h) (λ E. checks_table E)

pub checks_cell_for : {n r c b : ℕ} {x : Cell} → x ≡ for_bits cell_zeros (λ (E : Estimate). cell_numbers (cell_of E r c b)) n → ChecksCellFor n r c b x
checks_cell_for {r} {c} {b} e = for_bits_law cell_zeros (λ (E : Estimate). cell_numbers (cell_of E r c b)) e (λ h. h) (λ E. checks_cell E)

pub tells_limits_for : {n r : ℕ} {x : Limits} → x ≡ for_bits limits_zeros (λ (E : Estimate). row_limits_of E r) n → TellsLimitsFor n r x
tells_limits_for {r} e = for_bits_law limits_zeros (λ (E : Estimate). row_limits_of E r) e (λ h. h) (λ E. tells_limits E)

pub makes_table_for : {n : ℕ} {s : List ℕ} {x : MakeOutcome} → x ≡ for_bits (make_refused s) (λ (E : Estimate). make_of E s) n → MakesTableFor n s x.buffer x.answer
makes_table_for {s} e = for_bits_law (make_refused s) (λ (E : Estimate). make_of E s) e (λ h. rw h (refl, refl)) (λ E. makes_table E)

pub repairs_table_for : {n : ℕ} {t rs cs : List ℕ} {x : RepairOutcome} → x ≡ for_bits (repair_refused rs cs) (λ (E : Estimate). repair_of E t rs cs) n → RepairsTableFor n t rs cs x.repaired x.changed x.answer
repairs_table_for {t} {rs} {cs} e = for_bits_law (repair_refused rs cs) (λ (E : Estimate). repair_of E t rs cs) e (λ h. rw h (refl, refl, refl)) (λ E. repairs_table E)

pub affects_samples_for : {n : ℕ} {t currents sensitivities given : List ℕ} {x : AffectedOutcome} → x ≡ for_bits (affected_refused given) (λ (E : Estimate). affected_of E t currents sensitivities given) n
    → AffectsSamplesFor n t currents sensitivities given x.affected x.answer
affects_samples_for {t} {currents = xs} {sensitivities = ys} {given} e = for_bits_law (affected_refused given) (λ (E : Estimate). affected_of E t xs ys given) e (λ h. rw h (refl, refl)) (λ E. affects_samples E)

pub affects_whole_for : {n : ℕ} {t : List ℕ} {a b : ℕ} {x : AffectedMark} → x ≡ for_bits mark_zeros (λ (E : Estimate). recheck_whole_of E t a b) n → AffectsWholeFor n t a b x
affects_whole_for {t} {a} {b} e = for_bits_law mark_zeros (λ (E : Estimate). recheck_whole_of E t a b) e (λ h. h) (λ E. affects_whole E)

pub affects_run_for : {n : ℕ} {t : List ℕ} {N D k : ℕ} {x : AffectedMark} → x ≡ for_bits mark_zeros (λ (E : Estimate). affected_run_of E t N D k) n → AffectsRunFor n t N D k x
affects_run_for {t} {N} {D} {k} e = for_bits_law mark_zeros (λ (E : Estimate). affected_run_of E t N D k) e (λ h. h) (λ E. affects_run E)
