-- The computed listing is the one in the specification's words and there is no other, and the text in the buffer is it.
use Rattle.laws.proofs.{Basics.{◌≡◌, refl, sym, ap, ◌∙◌, List, ◌++◌, ⊎_elim, ◌≢◌, ℕ, ◌≤◌, ◌<◌, arith, length, get_or, take, length-take, ne_eqb}, Division.{le_or_lt}}
use lib.Seq.{take_all}
use Rattle.std.specs.Prelude.{Result, Ok, Err, ⊤}
use Rattle.selection.specs.{Answer.{refusal}, computed.Answer.{answer_by}, Table.{Table}, computed.Table.{ReportMeaning, AnswerMeaning, form_rules}, computed.Refusals.{first_refusal}, computed.Outcomes.{report_of, table_report}}
use Rattle.selection.{specs.declared.Refusal.{Refusal}, proofs.RuleByRule.{refused_at}, specs.declared.table.Outcome.{Outcome}, specs.declared.table.TableVerdict.{TableVerdict}}
use Rattle.selection.{proofs.Tables.{no_table}, proofs.Reports.{form_rules_law, report_checked}, proofs.Rules.{refusal_one}, specs.declared.Estimate.{Estimate}}
use Rattle.selection.specs.declared.table.Outcome.TheVariants as O
use Rattle.printing.specs.Text.{refusal_text}
use Rattle.listing.specs.Listing.{Lists, ListsRead, names, lines_upto, table_text, text_for, listing_of}
use Rattle.listing.proofs.Lines.{lines_right, lines_one}

module _ (E : Estimate) where
  -- by the check's answer, the text is the listing in the specification's words
  module _ (t : List ℕ) where
    table_lists : Table t → Lists E t (table_text E t)
    table_lists h = record { table = λ _. record { rest = lines_upto E t 2048; lines = lines_right E h 2048 (omega arith); whole = refl }; refused = λ f g. no_table h g }

    table_of : (n : ℕ) (o : Outcome) → ReportMeaning E t n o → Table t
    table_of n O.Passed w = w.0.table
    table_of n (O.Bad b) w = w.0

    answer_lists : (a : Result TableVerdict Refusal) → AnswerMeaning E t a → Lists E t (text_for E t a)
    answer_lists (Ok a) w = table_lists (table_of a.count a.outcome w)
    answer_lists (Err f) w = record { table = λ h. no_table h w; refused = λ g v. ap refusal_text (refusal_one (form_rules_law t) f g w v) }

    -- § 19.2 `listing` prints a line for each bad cell, and nothing else fits.
    pub lists : Lists E t (listing_of E t)
    unfolding listing_of
    lists = answer_lists (report_of E t) (report_checked E t).means

    table_one : {x : List ℕ} → Lists E t x → Table t → x ≡ table_text E t
    table_one l h = let p = l.table h in p.whole ∙ ap (λ (y : List ℕ). names ++ y) (lines_one E h (omega arith) p.lines)

    answer_one : {x : List ℕ} → Lists E t x → (a : Result TableVerdict Refusal) → AnswerMeaning E t a → x ≡ text_for E t a
    answer_one l (Ok a) w = table_one l (table_of a.count a.outcome w)
    answer_one l (Err f) w = l.refused f w

    -- § 19.2 `listing` prints a line for each bad cell, and nothing else fits.
    pub lists_one : {x : List ℕ} → Lists E t x → x ≡ listing_of E t
    unfolding listing_of
    lists_one l = answer_one l (report_of E t) (report_checked E t).means

    pub table_text_law : Table t → listing_of E t ≡ table_text E t
    table_text_law h = table_one lists h

  -- input of another length gets the two lines of refusal 8
  pub wrong_length : (t : List ℕ) → length t ≢ 2048 → listing_of E t ≡ refusal_text (refusal 8 0)
  unfolding listing_of report_of
  wrong_length t h = rw (ne_eqb (length t) 2048 h)

  -- a byte above 4 those of refusal 9, with the first such place
  pub byte_above : (t : List ℕ) (p : ℕ) → length t ≡ 2048 → p < 2048 → 4 < get_or t p 0 → ((i : ℕ) → i < p → get_or t i 0 ≤ 4) → listing_of E t ≡ refusal_text (refusal 9 p)
  unfolding listing_of report_of
  byte_above t p e l h b = ap (λ (v : Result ⊤ Refusal). text_for E t (answer_by Err (Ok (table_report E t)) v)) (refused_at (form_rules_law t) 1 p (e, (l, record { here = h; before = λ i k x. omega (arith, b i k) })))

  -- more than 2,048 bytes of the input settle what is printed for all of it
  settled : (t : List ℕ) (n : ℕ) → 2048 < n → listing_of E (take n t) ≡ listing_of E t
  settled t n h =
      ⊎_elim (λ l. ap (listing_of E) (take_all n t l))
      (λ (l : n < length t). wrong_length (take n t) (λ e. omega (arith, simp length-take at e)) ∙ sym (wrong_length t (λ e. omega arith)))
      (le_or_lt (length t) n)

  pub lists_read : {s x : List ℕ} {n : ℕ} → 2048 < length s → x ≡ listing_of E (take n s) → ListsRead E s n x
  lists_read {s} h e = record { lists = λ t g. rw (e, g, settled t (length s) h) (lists t) }

  -- the text by what is refused of the bytes of a table: what the code of `listing` asks
  pub printed : (t : List ℕ) {x : List ℕ} {v : Result ⊤ Refusal} → v ≡ first_refusal (form_rules t) → x ≡ text_for E t (answer_by Err (Ok (table_report E t)) v) → (x ≡ listing_of E t) × Lists E t x
  unfolding listing_of report_of
  printed t e f = let text = f ∙ ap (λ (v : Result ⊤ Refusal). text_for E t (answer_by Err (Ok (table_report E t)) v)) e in (text, rw text (lists t))
