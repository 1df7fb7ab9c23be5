-- A table with no bad cell or with one, and the specification's example of a listing.
use Rattle.laws.{proofs.Basics.{◌≡◌, refl, sym, ap, ◌∙◌, List, [], ◌++◌, append-nil, ⊎_elim, ◌≢◌, ℕ, zero, suc, ◌/◌, ◌%◌, ◌<◌, ◌≤◌, arith, pos, negsuc, get_or, set, length-set}, specs.Lists.{list_from}}
use Rattle.std.specs.Prelude.{Some, None}
use Rattle.laws.proofs.Division.{same_or_other}
use native.Mathlib.Nat.{eq-or-lt_of_le}
use lib.Seq.{get_or-set_same, get_or-set_other}
use Rattle.selection.specs.{Answer.{refusal}, Cell.{Allows, digit}, computed.Allowed.{allows_of}, computed.Outcomes.{cell_of, made_of, made_table}, Table.{Table, Passes}}
use Rattle.selection.{proofs.MadeTables.{kept_passes}, specs.declared.Estimate.TheVariants.{EightBits}}
use Rattle.printing.specs.Text.{ascii, decimal_upto, decimal_of, refusal_text}
use Rattle.listing.specs.{Listing.{names, text_of, line_from, line_of, lines_upto, listing_of}, Example.{Example}}
use Rattle.listing.proofs.{Lines.{listed_one}, Listings.{table_text_law, wrong_length, byte_above}}

-- a cell whose digit is allowed has no line
quiet : {t : List ℕ} → Table t → (k : ℕ) → k < 2048 → Allows EightBits (k / 128) (k % 128) (digit (get_or t k 0)) → line_of EightBits t k ≡ None
quiet h k b a = sym (listed_one EightBits h b (record { means = a }))

no_lines : (t : List ℕ) (n : ℕ) → ((k : ℕ) → k < n → line_of EightBits t k ≡ None) → lines_upto EightBits t n ≡ []
unfolding lines_upto
no_lines t zero f = refl
no_lines t (suc n) f = rw (no_lines t n (λ k l. f k (omega arith)), f n (omega arith))

one_line : (t : List ℕ) (m n : ℕ) → m < n → ((k : ℕ) → k < n → k ≢ m → line_of EightBits t k ≡ None) → lines_upto EightBits t n ≡ text_of (line_of EightBits t m)
unfolding lines_upto
one_line t m zero l f = absurd (omega arith)
one_line t m (suc n) l f =
    ⊎_elim (λ e. rw (e, no_lines t n (λ k b. f k (omega arith) (λ x. omega arith))))
    (λ b. rw (one_line t m n b (λ k c x. f k (omega arith) x), f n (omega arith) (λ x. omega arith)) (append-nil _))
    (eq-or-lt_of_le {n = m} {m = n} (omega arith))

passed_prints : (t : List ℕ) → Passes EightBits t → listing_of EightBits t ≡ names
passed_prints t p = table_text_law EightBits t p.table ∙ ap (λ (y : List ℕ). names ++ y) (no_lines t 2048 (λ k l. quiet p.table k l (p.allowed k l)))

line_215 : (t : List ℕ) → get_or t 215 0 ≡ 2 → text_of (line_of EightBits t 215) ≡ ascii "1 87 0 1242993497154256896 3314649325744685056\n"
unfolding line_of digit decimal_upto decimal_of
line_215 t e =
    ap (λ (b : ℕ). text_of (line_from t 215 (cell_of EightBits 1 87 b))) e
    ∙ ap (λ (b : ℕ). text_of (Some (record { row = 1; column = 87; digit = digit b; witness = record { divisor = 1242993497154256896; remainder = pos 3314649325744685056 } }))) e

line_1940 : (t : List ℕ) → get_or t 1940 0 ≡ 2 → text_of (line_of EightBits t 1940) ≡ ascii "15 20 0 2296835809958952961 -6124895493223874562\n"
unfolding line_of digit decimal_upto decimal_of
line_1940 t e =
    ap (λ (b : ℕ). text_of (line_from t 1940 (cell_of EightBits 15 20 b))) e
    ∙ ap (λ (b : ℕ). text_of (Some (record { row = 15; column = 20; digit = digit b; witness = record { divisor = 2296835809958952961; remainder = negsuc 6124895493223874561 } }))) e

-- a table that passes, with b for its byte m
module _ (t : List ℕ) (p : Passes EightBits t) (m b : ℕ) (h : m < 2048) where
  abbrev changed : List ℕ
  changed = set t m b

  at : get_or changed m 0 ≡ b
  at = get_or-set_same t m b 0 (omega (arith, p.table.size))

  elsewhere : (k : ℕ) → k ≢ m → get_or changed k 0 ≡ get_or t k 0
  elsewhere k x = get_or-set_other t m k b 0 x

  changed_table : b ≤ 4 → Table changed
  changed_table l = record { size = simp length-set p.table.size; digits = λ k. ⊎_elim (λ e. rw e (omega (arith, at))) (λ x. omega (arith, elsewhere k x, p.table.digits k)) (same_or_other k m) }

  whole : b ≤ 4 → {line : List ℕ} → text_of (line_of EightBits changed m) ≡ line → listing_of EightBits changed ≡ names ++ line
  whole l e =
      table_text_law EightBits changed (changed_table l)
      ∙ ap (λ (y : List ℕ). names ++ y) (one_line changed m 2048 h (λ k d x. quiet (changed_table l) k d (rw (elsewhere k x) (p.allowed k d))) ∙ e)

-- the two lines of a refusal
refusal_text_law : (refusal_text (refusal 8 0) ≡ ascii "refusal place\n8 0\n") × (refusal_text (refusal 9 1000) ≡ ascii "refusal place\n9 1000\n")
unfolding decimal_upto decimal_of
refusal_text_law = (refl, refl)

-- a table with 5 for its byte 1000
above : (t : List ℕ) → Table t → listing_of EightBits (set t 1000 5) ≡ refusal_text (refusal 9 1000)
above t h =
    let at : get_or (set t 1000 5) 1000 0 ≡ 5 = get_or-set_same t 1000 5 0 (omega (arith, h.size)) in
    byte_above EightBits (set t 1000 5) 1000 (simp length-set h.size) (omega arith) (omega (arith, at)) (λ i l. omega (arith, get_or-set_other t 1000 i 5 0 (λ x. omega arith), h.digits i))

-- § 19.2 The example is printed whole.
pub example : Example
unfolding allows_of made_of list_from made_table
example = let p = kept_passes EightBits in record {
  byte = refl;
  whole = whole (made_table EightBits) p 215 2 (omega arith) (omega arith) (line_215 _ (at (made_table EightBits) p 215 2 (omega arith)));
  last_row = whole (made_table EightBits) p 1940 2 (omega arith) (omega arith) (line_1940 _ (at (made_table EightBits) p 1940 2 (omega arith)));
  empty = wrong_length EightBits [] (λ e. omega arith) ∙ refusal_text_law.0;
  above = above _ (changed_table (made_table EightBits) p 215 2 (omega arith) (omega arith)) ∙ refusal_text_law.1;
  passed = passed_prints;
}
