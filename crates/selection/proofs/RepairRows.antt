-- The repair, row by row: the marks and the bytes of a row's cells are those of the table's, and put back they fill the two lists by so much more.
use Rattle.laws.proofs.Basics.{◌≡◌, refl, ap, ◌∙◌, Bool, true, false, cond, ◌||◌, ⊎_elim, List, ◌++◌, ℕ, ◌+◌, ◌*◌, ◌-◌, ◌≤◌, ◌<◌, arith, ltb, length, get_or, take, drop, length-append, length-drop}
use Rattle.laws.{specs.Lists.{filled, list_from}, specs.Counting.{count_below}, specs.Sums.{sum_below}, proofs.Division.{le_or_lt}, proofs.Tests.{either}, proofs.Sums.{sum_as}}
use Rattle.laws.proofs.Lists.{fill_right, filled_one, list_length, list_value, put_back}
use Rattle.std.proofs.lemmas.{Grind.{elements}, List.{take_at, get_or-take, get_or-drop}, Slice.{drop-append-drop}}
use Rattle.selection.specs.{computed.Allowed.{is_faulty}, Maker.{AreLimits}, computed.Outcomes.{repaired_byte, change_mark}}
use Rattle.selection.specs.{computed.RepairRows.{marks_by, bytes_by, RepairedTo}, declared.Estimate.{Estimate}}
use Rattle.selection.proofs.{Counts.{row_counted}, Allowed.{bad_in_row}, Tables.{cell_row, cell_column}, MadeTables.{made_at_law}}

module _ (f : ℕ → ℕ) (o : List ℕ) where
  part_filled : (a n : ℕ) (ys : List ℕ) → a + n ≤ length o → length ys ≡ n → ((c : ℕ) → c < n → get_or ys c 0 ≡ f (a + c)) → list_from f 0 a ++ (ys ++ drop (a + n) o) ≡ filled f (a + n) o
  part_filled a n ys h size is =
      let s : length (list_from f 0 a) ≡ a = list_length f 0 a in
      filled_one
      (record {
        each = λ j l. ⊎_elim (λ g. let e = is (j - a) (omega arith) in let i : a + (j - a) ≡ j = omega arith in grind (arith, elements)) (λ g. let e = list_value f 0 a j g in grind (arith, elements)) (le_or_lt a j);
        kept = record { size = simp (length-append, length-drop) (omega (arith, s)); rest = λ j l. grind (arith, elements) };
      })
      (fill_right f (a + n) o h)

  -- a row more
  pub row_filled : (r : ℕ) {b ys : List ℕ} {g : ℕ → ℕ} → 128 * r + 128 ≤ length o → b ≡ filled f (128 * r) o → ys ≡ list_from g 0 128 → ((c : ℕ) → c < 128 → g c ≡ f (128 * r + c))
      → take (128 * r) b ++ (ys ++ drop (128 * r + 128 - 128 * r) (drop (128 * r) b)) ≡ filled f (128 * (r + 1)) o
  row_filled r {b} {ys} {g} h e y is =
      let a = 128 * r in
      let s : length (list_from f 0 a) ≡ a = list_length f 0 a in
      let n : 128 * (r + 1) ≡ a + 128 = omega arith in
      rw (put_back b ys a 128, e, take_at (list_from f 0 a) (drop a o) a s, drop-append-drop a o (list_from f 0 a) (a + 128) (omega arith) s, n, y)
      (part_filled a 128 _ h (list_length g 0 128) (λ c l. list_value g 0 128 c l ∙ is c l))

module _ (E : Estimate) (t : List ℕ) (r : ℕ) (row : r ≤ 15) where
  abbrev cells : List ℕ
  cells = take (128 * r + 128 - 128 * r) (drop (128 * r) t)

  cell : (c : ℕ) → c < 128 → get_or cells c 0 ≡ get_or t (128 * r + c) 0
  cell c h = let s : c < 128 * r + 128 - 128 * r = omega arith in rw (get_or-take _ (drop (128 * r) t) c 0 s, get_or-drop)

  marks_are : (c : ℕ) → c < 128 → marks_by E r cells c ≡ change_mark E t (128 * r + c)
  unfolding change_mark
  marks_are c h = rw (cell c h) (ap (λ (x : Bool). cond {A = ℕ} (ltb 4 (get_or t (128 * r + c) 0) || x) 1 0) (bad_in_row E t r c (omega arith)))

  pub marks_counted : sum_below (marks_by E r cells) 128 ≡ count_below (λ c. is_faulty E t (128 * r + c)) 128
  unfolding count_below change_mark
  marks_counted = sum_as _ _ 128 marks_are

  bytes_are : {l : List ℕ} (marks : List ℕ) → AreLimits E r l → marks ≡ list_from (marks_by E r cells) 0 128 → (c : ℕ) → c < 128 → bytes_by l cells marks c ≡ repaired_byte E t (128 * r + c)
  unfolding change_mark repaired_byte
  bytes_are {l} marks g e c h = rw (cell c h, e, list_value (marks_by E r cells) 0 128 c h, marks_are c h) (⊎_elim
      (λ (x : is_faulty E t (128 * r + c) ≡ true). rw x (made_at_law E (omega arith) (rw (cell_row r c (omega arith), cell_column r c (omega arith)) (g.steps c (omega arith)))))
      (λ (x : is_faulty E t (128 * r + c) ≡ false). rw x refl)
      (either (is_faulty E t (128 * r + c))))

  -- a row more is repaired
  pub row_repaired : {rs cs a b l marks bytes : List ℕ} {n k : ℕ} → 128 * r + 128 ≤ length rs → 128 * r + 128 ≤ length cs → AreLimits E r l → marks ≡ list_from (marks_by E r cells) 0 128 → k ≡ sum_below (marks_by E r cells) 128 → bytes ≡ list_from (bytes_by l cells marks) 0 128
      → RepairedTo E t (128 * r) rs cs a b n
      → RepairedTo E t (128 * (r + 1)) rs cs (take (128 * r) a ++ (bytes ++ drop (128 * r + 128 - 128 * r) (drop (128 * r) a))) (take (128 * r) b ++ (marks ++ drop (128 * r + 128 - 128 * r) (drop (128 * r) b))) (n + k)
  row_repaired {rs} {cs} {marks = marks} hr hc g e count f i = record {
    bytes = row_filled (repaired_byte E t) rs r hr i.bytes f (bytes_are marks g e);
    marks = row_filled (change_mark E t) cs r hc i.marks e marks_are;
    count = row_counted (λ z. is_faulty z t) r {E = E} {v = record { estimate = E; row = r }} refl i.count (count ∙ marks_counted);
  }
