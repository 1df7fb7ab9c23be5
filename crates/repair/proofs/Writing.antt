-- What is written is the call's repair and its text; of an input that is read in part, as of all of it.
use Rattle.laws.proofs.Basics.{◌≡◌, refl, sym, ap, subst, ◌∙◌, List, [], ⊎_elim, ◌≢◌, ℕ, ◌<◌, arith, length, take, length-take, replicate, length-replicate}
use Rattle.laws.{specs.Lists.{list_from}, proofs.Lists.{fill_all}, proofs.Division.{le_or_lt}, specs.Counting.{count_below}, proofs.Comparisons.{equal}}
use lib.Seq.{take_all}
use Rattle.selection.{proofs.RefusalNames.{refusal, first_refusal}, specs.declared.Refusal.{Refusal}, specs.computed.Allowed.{is_faulty}}
use Rattle.std.specs.Prelude.{Ok}
use Rattle.selection.specs.{Table.{Passes}, computed.Outcomes.{repaired_byte, repair_of}, computed.Repair.{repair_rules, RepairOutcome}}
use Rattle.selection.{proofs.RepairAnswers.{repair_admits, length_refused, repair_told}, proofs.RepairDemand.{repair_demand}, specs.declared.Estimate.{Estimate}}
use Rattle.printing.specs.Text.{decimal_upto, decimal_of, refusal_text}
use Rattle.repair.specs.Changes.{changes_text, Writes, WritesRead, LineExample}

-- § 19.4 A repair is printed whole.
pub line_example : LineExample
unfolding decimal_of decimal_upto
line_example = record { changed = refl; same = refl }

module _ (E : Estimate) where
  -- the call, by the table alone
  module _ (t rs cs : List ℕ) (h : length t ≡ 2048) (r : length rs ≡ 2048) (c : length cs ≡ 2048) where
    admitted : first_refusal (repair_rules (length t) (length rs) (length cs)) ≡ Ok tt
    admitted = repair_admits (length t) (length rs) (length cs) (record { repaired_room = omega arith; changed_room = omega arith; size = h })

    table_is : (repair_of E t rs cs).repaired ≡ list_from (repaired_byte E t) 0 2048
    table_is = rw admitted (fill_all (repaired_byte E t) rs 2048 (omega arith))

    count_is : (repair_of E t rs cs).answer.count ≡ count_below (is_faulty E t) 2048
    count_is = rw admitted refl

  -- x is the outcome of a call with buffers of 2,048 bytes
  pub record Called (t rs cs : List ℕ) (x : RepairOutcome) : Type 0 where
    pub table_room : length rs ≡ 2048
    pub marks_room : length cs ≡ 2048
    pub outcome : x ≡ repair_of E t rs cs

  -- what the code of `repair` asks
  module _ {t rs cs : List ℕ} {x : RepairOutcome} (k : Called t rs cs x) where
    other_length : length t ≢ 2048 → x.answer.refusal ≡ refusal 8 0
    other_length m = ap (λ (z : RepairOutcome). z.answer.refusal) (k.outcome ∙ length_refused E t rs cs (omega arith) (omega arith) m)

    size_is : x.answer.refusal.number ≡ 0 → length t ≡ 2048
    size_is n = equal (length t) 2048 (λ m. let z = ap (λ (f : Refusal). f.number) (other_length m) in omega arith)

    written_is : length t ≡ 2048 → x.repaired ≡ list_from (repaired_byte E t) 0 2048
    written_is h = ap (λ (z : RepairOutcome). z.repaired) k.outcome ∙ table_is t rs cs h k.table_room k.marks_room

    -- § 19.4 `repair` writes the changes and the repaired table.
    pub writes_table : {y : List ℕ} → x.answer.refusal.number ≡ 0 → y ≡ changes_text E t x.repaired x.answer.count → Writes E t x.repaired y
    writes_table n ey = record {
      repaired = λ h qs ds q d. (
        written_is h ∙ sym (table_is t qs ds h q d),
        ey
            ∙ ap (changes_text E t x.repaired) (ap (λ (z : RepairOutcome). z.answer.count) k.outcome ∙ count_is t rs cs h k.table_room k.marks_room ∙ sym (count_is t qs ds h q d)),
      );
      refused = λ m. absurd (m (size_is n));
    }

    -- § 19.4 `repair` writes the changes and the repaired table.
    pub writes_refusal : {y : List ℕ} → x.answer.refusal.number ≢ 0 → y ≡ refusal_text x.answer.refusal → Writes E t [] y
    writes_refusal n ey = record {
      repaired = λ h qs ds q d. absurd (n (ap (λ (z : RepairOutcome). z.answer.refusal.number) k.outcome ∙ ap (λ (f : Refusal). f.number) (repair_told E t rs cs h (omega arith) (omega arith))));
      refused = λ m. (refl, ey ∙ ap refusal_text (other_length m));
    }

  -- more than 2,048 bytes of the input settle what is written for all of it
  -- § 19.1 Input of another length is refusal 8.
  pub writes_read : {s x y : List ℕ} {n : ℕ} → 2048 < length s → Writes E (take n s) x y → WritesRead E s n x y
  writes_read {s} {x} {y} h w = record {
    writes = λ t e. ⊎_elim (λ l. subst (λ (z : List ℕ). Writes E z x y) (e ∙ take_all (length s) t l) w)
        (λ l. record { repaired = λ g. absurd (omega arith); refused = λ g. w.refused (λ q. omega (arith, l, simp length-take at (sym (ap length e) ∙ q))) })
        (le_or_lt (length t) (length s));
  }

  -- the table that is written passes
  pub written_passes : {t x y : List ℕ} → length t ≡ 2048 → Writes E t x y → Passes E x
  written_passes {t} {x} h w =
      let z = replicate {A = ℕ} 2048 0 in
      let l : length z ≡ 2048 = length-replicate {A = ℕ} 2048 0 in
      let told = (repair_demand E).told t z z h (omega arith) (omega arith) in
      let e = (w.repaired h z z l l).0 in
      rw e (rw (take_all 2048 (repair_of E t z z).repaired (omega (arith, told.repaired.repaired_kept.size))) at told.claim.passes)
