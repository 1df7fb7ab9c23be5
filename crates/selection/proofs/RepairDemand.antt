-- Tables read back are repaired rightly: the specification's sentences, and the example.
use Rattle.laws.proofs.Basics.{◌≡◌, refl, sym, ◌∙◌, Bool, not, cond, ◌||◌, List, ℕ, ◌/◌, ◌%◌, ◌<◌, arith, T, ltb, eqb, eqb→eq, length, set, length-set, replicate, length-replicate}
use Rattle.laws.{specs.Lists.{list_from, filled}, proofs.Lists.{list_length, list_value, fill_at, fill_length}, specs.Counting.{count_below}}
use Rattle.laws.{proofs.Tests.{both, both_left, both_right, alike, alike_eq, every, every_at}, specs.Sums.{sum_below}, proofs.Sums.{sum_as}}
use Rattle.std.proofs.Common.{ext_get_or}
use Rattle.selection.specs.computed.{Allowed.{allows_of, is_faulty}, Outcomes.{made_of, made_at, made_table, repaired_byte, change_mark, repair_of}}
use Rattle.selection.specs.{computed.RepairDemand.{read_back, lent, RepairExample, RepairDemand}, declared.Estimate.{Estimate}, declared.Estimate.TheVariants.{SevenBits, EightBits}}
use Rattle.selection.proofs.{MadeTables.{kept_passes}, Reports.{report_passed}, RepairCells.{differ_tally, repaired_claim}}
use Rattle.selection.proofs.RepairAnswers.{repairs_right, repairs_one, repair_admits, repair_told}

-- ---- the example

-- the two cells of the table read back that are faulty
abbrev changed : ℕ → Bool
changed k = eqb k 0 || eqb k 215

-- antt computes whether the byte x of cell k is faulty, and its repair, over the whole table
repaired : Estimate → ℕ → ℕ → Bool
repaired E k x = let f = ltb 4 x || not (allows_of E (k / 128) (k % 128) x) in both (alike f (changed k)) (eqb (cond f (made_at E k) x) (made_at E k))

all_repaired : (E : Estimate) → T (every (repaired E) 0 (read_back E))
unfolding repaired made_table list_from made_of allows_of
all_repaired SevenBits = tt
all_repaired EightBits = tt

marks : list_from (λ k. cond {A = ℕ} (changed k) 1 0) 0 2048 ≡ set (set (replicate 2048 0) 0 1) 215 1
unfolding list_from
marks = refl

filled_as : (f g : ℕ → ℕ) (o : List ℕ) → length o ≡ 2048 → ((k : ℕ) → k < 2048 → f k ≡ g k) → filled f 2048 o ≡ list_from g 0 2048
filled_as f g o h e =
    let n : length (filled f 2048 o) ≡ 2048 = fill_length f o 2048 (omega arith) ∙ h in
    ext_get_or 0 _ _ (n ∙ sym (list_length g 0 2048)) (λ k b. let c : k < 2048 = omega arith in fill_at f o 0 2048 k c ∙ e k c ∙ sym (list_value g 0 2048 k c))

module _ (E : Estimate) where
  size : length (read_back E) ≡ 2048
  size = simp length-set (kept_passes E).table.size

  cells : (k : ℕ) → k < 2048 → (is_faulty E (read_back E) k ≡ changed k) × (repaired_byte E (read_back E) k ≡ made_at E k)
  unfolding repaired repaired_byte
  cells k h =
      let f = is_faulty E (read_back E) k in
      let t = every_at (repaired E) (read_back E) (all_repaired E) k (omega (arith, size)) in
      (alike_eq f (changed k) (both_left (alike f (changed k)) _ t), eqb→eq (repaired_byte E (read_back E) k) (made_at E k) (both_right (alike f (changed k)) _ t))

  two : count_below (is_faulty E (read_back E)) 2048 ≡ 2
  unfolding count_below sum_below
  two = sum_as (λ k. cond (is_faulty E (read_back E) k) 1 0) (λ k. cond (changed k) 1 0) 2048 (λ k h. rw (cells k h).0)

  example : RepairExample E
  unfolding made_table change_mark
  example =
      let room = length-replicate {A = ℕ} 2048 7 in
      let admitted = repair_admits (length (read_back E)) (length lent) (length lent) (record { repaired_room = omega (arith, room); changed_room = omega (arith, room); size = size }) in
      let bytes = filled_as (repaired_byte E (read_back E)) (made_at E) lent room (λ k h. (cells k h).1) in
      record { outcome = rw (admitted, two, bytes, filled_as (change_mark E (read_back E)) (λ k. cond (changed k) 1 0) lent room (λ k h. rw (cells k h).0) ∙ marks) refl }

  -- ---- the demand

  -- § 14.2 The repaired table passes, and no passing table needs fewer changes.
  pub repair_demand : RepairDemand E
  repair_demand = record {
    outcome = repairs_right E;
    one = λ t rs cs x r. repairs_one E x (repair_of E t rs cs) r (repairs_right E t rs cs);
    told = λ t rs cs size room marks_room.
        let r = (repairs_right E t rs cs).repairs (record { repaired_room = room; changed_room = marks_room; size = size }) in
        let claim = repaired_claim E room size r in
        record { done = repair_told E t rs cs size room marks_room; repaired = r; claim = claim; checked = report_passed E claim.passes };
    differ = differ_tally;
    example = example;
  }
