-- The computed made table, the maker's outcome and the limits of a row.
use Rattle.laws.{proofs.Basics.{◌≡◌, refl, ap, ◌∙◌, List, ℕ, ◌/◌, ◌%◌, ◌≤◌, ◌<◌, arith, length, le-ltb}, proofs.Lists.{list_length, list_at}, specs.Lists.{filled}}
use Rattle.selection.specs.{Maker.{Made, MadeTable}, computed.Maker.{limits_zeros, Limited, MakeOutcome, make_refused, Makes}, Answer.{refusal}}
use Rattle.selection.specs.{computed.Outcomes.{made_at, row_limits_of, made_table, make_of}, Table.{Passes}, declared.Estimate.{Estimate}}
use Rattle.selection.proofs.{Rules.{admits, refuses}, RuleByRule.{none_clear}, Making.{made_right, limits_right}, KeptLaws.{made_of, made_passes}}
use Rattle.selection.proofs.UniqueMade.{byte_one, made_one, limits_rules_law, make_rules_law}

module _ (E : Estimate) where
  -- the computed table is the made table
  pub made_table_is : MadeTable E (made_table E)
  unfolding made_table
  made_table_is = made_of E (list_length (made_at E) 0 2048) (λ k h. list_at (made_at E) 0 0 2048 k h ∙ ap (made_at E) (omega arith))

  -- the one made table, byte by byte
  pub made_bytes : {t : List ℕ} → MadeTable E t → t ≡ made_table E
  made_bytes m = made_one E m made_table_is

  -- and it passes
  -- § 5.4 The kept table passes.
  pub kept_passes : Passes E (made_table E)
  kept_passes = made_passes E made_table_is

  -- a made byte is the computed one
  pub made_at_law : {k v : ℕ} → k < 2048 → Made E (k / 128) (k % 128) v → v ≡ made_at E k
  made_at_law h m = byte_one E m (made_right E _ _ (omega arith) (omega arith))

  -- the maker's outcome, where the buffer has room
  pub make_done : (s : List ℕ) {t : List ℕ} → 2048 ≤ length s → t ≡ filled (made_at E) 2048 s → make_of E s ≡ record { answer = refusal 0 0; buffer = t }
  unfolding made_table
  make_done s h e = rw (le-ltb (length s) 2048 h, e) refl

  -- in the specification's words
  pub make_right : (s : List ℕ) → Makes E s (make_of E s)
  make_right s =
      let c = make_rules_law (length s) in
      record { refuses = refuses c (λ (x : MakeOutcome). x.answer) (make_refused s) _ refl (λ f. refl) refl; makes = λ a. (made_table E, made_table_is, rw (admits c a) refl) }

  -- and the limits of a row
  pub limits_told : (r : ℕ) → Limited E r (row_limits_of E r)
  limits_told r =
      let c = limits_rules_law r in
      record { refuses = refuses c (λ x. x.refusal) limits_zeros _ refl (λ f. refl) refl; limits = λ a. rw (admits c a) (limits_right E r (none_clear c a).0) }
