-- The test of a cell says which digits are allowed, and which cells of a table are bad.
use Rattle.laws.proofs.{Basics.{◌≡◌, refl, Bool, true, false, not, cond, List, ◌⊎◌, inl, inr, ⊎_elim, ℕ, ◌+◌, ◌*◌, ◌/◌, ◌%◌, ◌≤◌, ◌<◌, ltb, ℤ, get_or}, Tests.{Decides, decides_yes, decides_no}}
use Rattle.std.specs.Prelude.{Ok}
use Rattle.selection.specs.{Cell.{Allows, Against, digit}, computed.Cell.{IsCell, CellChecked}, Table.{Table, BadAt}}
use Rattle.selection.specs.computed.{CellTest.{multiples_of, greatest_byte, allows_by, found_at, cell_verdict_of}, CellTest.Finding.{NoWitness}, Allowed.{allows_of, is_bad, is_bad_in}}
use Rattle.selection.specs.declared.Estimate.{Estimate}
use Rattle.selection.proofs.{BiasedPoints.{test_checked, not_allowed}, Tables.{cell_at, cell_row, cell_column}}

module _ (E : Estimate) where
  -- x tells of the digit of b whether it is allowed or there is a witness against it
  abbrev pub Told : Bool → ℕ → ℕ → ℕ → Type 0
  Told x r c b = ((x ≡ true) × Allows E r c (digit b)) ⊎ ((x ≡ false) × (D : ℕ) × (P : ℤ) × Against E r c (digit b) D P)

  pub tells : {r c b : ℕ} → IsCell r c b → Told (allows_of E r c b) r c b
  unfolding allows_of
  tells {r} {c} {b} k = go (allows_by (multiples_of E r) c b) (ltb (greatest_byte (multiples_of E r) c) b) (test_checked E k)
    where
      go : (x y : Bool) → CellChecked E r c b (Ok (cell_verdict_of (cond x NoWitness (found_at E (multiples_of E r).smallest c b y)))) → Told x r c b
      go true y j = inl (refl, j.means.1)
      go false true j = inr (refl, _, _, j.means.1.against)
      go false false j = inr (refl, _, _, j.means.1.against)

  pub allows_decides : {r c b : ℕ} → IsCell r c b → Decides (Allows E r c (digit b)) (allows_of E r c b)
  allows_decides k = ⊎_elim (λ y. rw y.0 (decides_yes y.1)) (λ n. rw n.0 (decides_no (not_allowed E n.3))) (tells k)

  -- which cells are bad
  pub cell_decides : (t : List ℕ) (k : ℕ) → IsCell (k / 128) (k % 128) (get_or t k 0) → Decides (BadAt E t k) (is_bad E t k)
  cell_decides t k i =
      ⊎_elim (λ y. rw y.0 (decides_no (λ b. not_allowed E b.against y.1))) (λ n. rw n.0 (decides_yes (record { byte = i.byte; divisor = n.1; remainder = n.2; against = n.3 }))) (tells i)

  pub bad_decides : {t : List ℕ} → Table t → (k : ℕ) → k < 2048 → Decides (BadAt E t k) (is_bad E t k)
  bad_decides {t} a k h = cell_decides t k (cell_at a k h)

  -- in a row
  pub bad_in_row : (t : List ℕ) (r c : ℕ) → c ≤ 127 → not (allows_of E r c (get_or t (128 * r + c) 0)) ≡ is_bad_in E t r c
  bad_in_row t r c hc = rw (cell_row r c hc, cell_column r c hc) refl
