-- The whole text of a repair, worked.
use Rattle.laws.{proofs.Basics.{◌≡◌, refl, ap, ◌∙◌, List, ◌++◌, append-nil, ⊎_elim, ◌≢◌, ℕ, zero, suc, ◌≤◌, ◌<◌, arith, eq-eqb, length, get_or, set, length-set}, specs.Lists.{list_from}}
use native.Mathlib.Nat.{eq-or-lt_of_le}
use lib.Seq.{get_or-set_same, get_or-set_other}
use Rattle.selection.specs.{computed.Allowed.{allows_of}, Answer.{refusal}, computed.Outcomes.{made_of, made_table}, computed.RepairDemand.{read_back, lent}, computed.Repair.{RepairOutcome}}
use Rattle.selection.{proofs.MadeTables.{kept_passes}, proofs.RepairDemand.{repair_demand}, specs.declared.Estimate.TheVariants.{EightBits}}
use Rattle.printing.specs.Text.{ascii, decimal_upto, decimal_of, refusal_text}
use Rattle.repair.specs.Changes.{cell_text, cells_upto, changes_text, WholeExample}

-- cells from m on that are not changed have no line
same_cells : (t u : List ℕ) (m n : ℕ) → m ≤ n → ((k : ℕ) → m ≤ k → k < n → get_or t k 0 ≡ get_or u k 0) → cells_upto t u n ≡ cells_upto t u m
unfolding cells_upto
same_cells t u m zero h f = let e : m ≡ 0 = omega arith in rw e refl
same_cells t u m (suc n) h f = ⊎_elim
    (λ (e : m ≡ suc n). rw e refl)
    (λ (l : m < suc n). rw (same_cells t u m n (omega arith) (λ k g b. f k g (omega arith)), eq-eqb (get_or t n 0) (get_or u n 0) (f n (omega arith) (omega arith))) (append-nil _))
    (eq-or-lt_of_le h)

-- one cell that is changed
changed_cell : (t u : List ℕ) (k b new : ℕ) → get_or t k 0 ≡ b → get_or u k 0 ≡ new → cells_upto t u (suc k) ≡ cells_upto t u k ++ cell_text k b new
unfolding cells_upto
changed_cell t u k b new e f = rw (e, f) refl

abbrev made : List ℕ
made = made_table EightBits

abbrev back : List ℕ
back = read_back EightBits

made_size : length made ≡ 2048
made_size = (kept_passes EightBits).table.size

bytes : (get_or made 0 0 ≡ 2) × (get_or made 215 0 ≡ 4)
unfolding allows_of made_of list_from made_table
bytes = (refl, refl)

back_size : length back ≡ 2048
back_size = simp (length-set, length-set) made_size

first : get_or back 0 0 ≡ 9
first = get_or-set_other (set made 0 9) 215 0 2 0 (λ x. omega arith) ∙ get_or-set_same made 0 9 0 (omega (arith, made_size))

second : get_or back 215 0 ≡ 2
second = let l : length (set made 0 9) ≡ 2048 = simp length-set made_size in get_or-set_same (set made 0 9) 215 2 0 (omega (arith, l))

other : (k : ℕ) → k ≢ 0 → k ≢ 215 → get_or back k 0 ≡ get_or made k 0
other k a b = get_or-set_other (set made 0 9) 215 k 2 0 b ∙ get_or-set_other made 0 k 9 0 a

cells_are : cells_upto back made 2048 ≡ cell_text 0 9 2 ++ cell_text 215 2 4
unfolding cells_upto
cells_are =
    same_cells back made 216 2048 (omega arith) (λ k g l. other k (λ x. omega arith) (λ x. omega arith))
    ∙ changed_cell back made 215 2 4 second bytes.1
    ∙ ap (λ (x : List ℕ). x ++ cell_text 215 2 4) (same_cells back made 1 215 (omega arith) (λ k g l. other k (λ x. omega arith) (λ x. omega arith)) ∙ changed_cell back made 0 9 2 first bytes.0)

text : ascii "row column byte new\n" ++ ((cell_text 0 9 2 ++ cell_text 215 2 4) ++ (ascii "changes " ++ ((decimal_of 2 ++ ascii " for ") ++ (decimal_of 8 ++ ascii " bits\n")))) ≡ ascii "row column byte new\n0 0 9 2\n1 87 2 4\nchanges 2 for 8 bits\n"
unfolding decimal_upto decimal_of
text = refl

no_table : refusal_text (refusal 8 0) ≡ ascii "refusal place\n8 0\n"
unfolding decimal_upto decimal_of
no_table = refl

-- § 19.4 A repair is printed whole.
pub whole_example : WholeExample
whole_example = record {
  writes = λ x y w.
      let d = (repair_demand EightBits).example.outcome in
      let v = w.repaired back_size lent lent refl refl in
      let table : x ≡ made = v.0 ∙ ap (λ (z : RepairOutcome). z.repaired) d in (
        table,
        v.1 ∙ ap (λ (z : RepairOutcome). changes_text EightBits back x z.answer.count) d ∙ ap (λ (u : List ℕ). changes_text EightBits back u 2) table
            ∙ ap (λ (z : List ℕ). ascii "row column byte new\n" ++ (z ++ (ascii "changes " ++ ((decimal_of 2 ++ ascii " for ") ++ (decimal_of 8 ++ ascii " bits\n"))))) cells_are ∙ text,
      );
  refused = λ x y w. let v = w.refused (λ e. omega arith) in (v.0, v.1 ∙ no_table);
}
