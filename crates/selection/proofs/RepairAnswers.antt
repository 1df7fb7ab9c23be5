-- The outcome of the repair: its refusals, that the computed outcome is the specification's, and that there is no other.
use Rattle.std.specs.Prelude.{Ok}
use Rattle.laws.proofs.{Basics.{◌≡◌, refl, ap, List, ℕ, ◌≤◌, length}, Lists.{fill_at, fill_kept, kept_one}, Counting.{count_tally, tally_one}}
use Rattle.selection.proofs.RefusalNames.{refusal, answer_by, first_refusal, rank, WellFormed, refuses_one, refuses, cleared, clear_admits, refused_at}
use Rattle.selection.proofs.RepairCells.{cell_repaired, changed_decides, repaired_one}
use Rattle.selection.specs.{computed.Allowed.{is_faulty}, computed.Outcomes.{repaired_byte, change_mark, repair_of}}
use Rattle.selection.specs.{computed.Repair.{RepairedTable, repair_rules, RepairOutcome, repair_refused, RepairAccepts, Repairs}, declared.Estimate.{Estimate}}

-- ---- refusals

module _ (len r c : ℕ) where
  pub repair_rules_law : WellFormed (repair_rules len r c)
  unfolding rank
  repair_rules_law = record { sound = (tt, λ _. (tt, λ _. tt)); in_order = tt }

  -- nothing is refused exactly if all is accepted
  pub repair_accepts : first_refusal (repair_rules len r c) ≡ Ok tt → RepairAccepts len r c
  repair_accepts e = let c = cleared repair_rules_law e in record { repaired_room = c.0.0; changed_room = c.0.1; size = c.1.0 }

  pub repair_admits : RepairAccepts len r c → first_refusal (repair_rules len r c) ≡ Ok tt
  repair_admits a = clear_admits repair_rules_law ((a.repaired_room, a.changed_room), (a.size, tt))

module _ (E : Estimate) where
  -- ---- the call

  -- § 14.1 Faulty cells get the made digit, changed ones a mark, and the marks are counted.
  pub repairs_right : (t rs cs : List ℕ) → Repairs E t rs cs (repair_of E t rs cs)
  repairs_right t rs cs = record {
    refuses = refuses (repair_rules_law (length t) (length rs) (length cs)) (λ (y : RepairOutcome). y.answer.refusal) (repair_refused rs cs) _ refl (λ f. refl) refl;
    repairs = λ a. rw (repair_admits (length t) (length rs) (length cs) a) (record {
      cell = λ k h. rw (fill_at (repaired_byte E t) rs 0 2048 k h, fill_at (change_mark E t) cs 0 2048 k h) (cell_repaired E t k h);
      repaired_kept = fill_kept _ 2048 rs a.repaired_room;
      changed_kept = fill_kept _ 2048 cs a.changed_room;
      count = count_tally (is_faulty E t) 2048 (λ k h. rw (fill_at (repaired_byte E t) rs 0 2048 k h) (changed_decides E t k h (cell_repaired E t k h)));
    });
  }

  -- each refusal in numbers: its condition, all earlier ones false, the answer
  -- § 14.3 A repair is refused under these rules.
  pub length_refused : (t rs cs : List ℕ) → 2048 ≤ length rs → 2048 ≤ length cs → (length t ≡ 2048 → ⊥) → repair_of E t rs cs ≡ repair_refused rs cs (refusal 8 0)
  length_refused t rs cs hr hc h = ap (answer_by (repair_refused rs cs) _) (refused_at (repair_rules_law (length t) (length rs) (length cs)) 1 0 ((hr, hc), (refl, h)))

  -- and where none does, it refuses nothing
  pub repair_told : (t rs cs : List ℕ) → length t ≡ 2048 → 2048 ≤ length rs → 2048 ≤ length cs → (repair_of E t rs cs).answer.refusal ≡ refusal 0 0
  repair_told t rs cs e hr hc = rw (repair_admits (length t) (length rs) (length cs) (record { repaired_room = hr; changed_room = hc; size = e })) refl

  -- ---- no other answer fits

  pub lists_one : {t rs cs a b c d : List ℕ} {m n : ℕ} → RepairedTable E t rs cs a b m → RepairedTable E t rs cs c d n → (a ≡ c) × (b ≡ d) × (m ≡ n)
  lists_one {t} {rs} {cs} {a} {b} {c} {d} {m} {n} x y =
      let e : a ≡ c = kept_one x.repaired_kept y.repaired_kept (λ k h. (repaired_one E t k h (x.cell k h) (y.cell k h)).0) in
      (e, kept_one x.changed_kept y.changed_kept (λ k h. (repaired_one E t k h (x.cell k h) (y.cell k h)).1), tally_one (rw e at x.count) y.count)

  -- § 14.1 No other answer or content fits.
  pub repairs_one : {t rs cs : List ℕ} (a b : RepairOutcome) → Repairs E t rs cs a → Repairs E t rs cs b → a ≡ b
  repairs_one {t} {rs} {cs} a b x y = refuses_one (repair_rules_law (length t) (length rs) (length cs)) x.refuses y.refuses (λ e f.
      let k = repair_accepts (length t) (length rs) (length cs) e in
      let s = lists_one (x.repairs k) (y.repairs k) in
      λ i. record { answer = record { refusal = f i; count = s.2 i }; repaired = s.0 i; changed = s.1 i })
