-- The kept table holds the made digits: one test that antt computes over all cells, and one law that carries it to each entry.
use Rattle.laws.proofs.{Basics.{◌≡◌, Bool, List, ℕ, ◌/◌, ◌%◌, ◌<◌, arith, T, eqb, eqb→eq, length, get_or}, Tests.{every, every_at}}
use Rattle.selection.specs.{Maker.{MadeTable}, computed.Outcomes.{made_at}, Table.{Passes}, declared.Estimate.{Estimate}}
use Rattle.selection.proofs.{Tables.{table_of}, Making.{made_right}}

module _ (E : Estimate) where
  -- a list of made bytes is the made table
  pub made_of : {t : List ℕ} → length t ≡ 2048 → ((k : ℕ) → k < 2048 → get_or t k 0 ≡ made_at E k) → MadeTable E t
  made_of e a = record { size = e; made = λ k h. rw (a k h) (made_right E (k / 128) (k % 128) (omega arith) (omega arith)) }

  unfoldable pub right : ℕ → ℕ → Bool
  right k x = eqb x (made_at E k)

  -- § 5.4 The kept table is the one made for eight bits.
  pub made_table : {t : List ℕ} → length t ≡ 2048 → T (every right 0 t) → MadeTable E t
  unfolding right
  made_table {t} e a = made_of e (λ k h. eqb→eq (get_or t k 0) (made_at E k) (every_at right t a k (omega arith)))

  -- the made table passes
  pub made_passes : {t : List ℕ} → MadeTable E t → Passes E t
  made_passes {t} m = record { table = table_of t m.size (λ k h w. omega (arith, (m.made k h).byte)); allowed = λ k h. (m.made k h).allowed }
