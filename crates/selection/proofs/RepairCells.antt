-- The repair, cell by cell: the computed one is the specification's; and what is claimed of every repair.
use Rattle.laws.{proofs.Basics.{◌≡◌, refl, sym, ◌∙◌, true, false, List, ◌⊎◌, inl, inr, ⊎_elim, ℕ, ◌/◌, ◌%◌, ◌≤◌, ◌<◌, arith, length, get_or, take, length-take}, specs.Counting.{Tally}}
use Rattle.laws.proofs.{Tests.{either, Decides, less_decides}, Counting.{count_tally, tally_most, tally_nothing, tally_some}, Comparisons.{not_below, equal}}
use Rattle.std.proofs.Common.{get_or-take, ext_get_or}
use Rattle.selection.specs.{Cell.{Allows, digit}, Table.{Passes}, computed.Allowed.{above_four, is_bad, is_faulty}, computed.Outcomes.{repaired_byte, change_mark}, Repair.{FaultyAt, DifferAt}}
use Rattle.selection.specs.{computed.Repair.{RepairedAt, RepairedTable, RepairClaim}, computed.Refusals.{differ, holds}, declared.Estimate.{Estimate}}
use Rattle.selection.proofs.{ConditionTests.{decides_or, holds_decides}, BiasedPoints.{not_allowed, allows_unless}, Allowed.{cell_decides}, Making.{made_right}, Tables.{table_of}}
use Rattle.selection.proofs.UniqueMade.{byte_one}

-- the tally of the cells in which two tables differ
pub differ_tally : (t u : List ℕ) → (n : ℕ) × Tally (DifferAt t u) 2048 n
differ_tally t u = (_, count_tally (λ k. holds (differ (get_or t k 0) (get_or u k 0))) 2048 (λ k h. holds_decides (differ (get_or t k 0) (get_or u k 0))))

module _ (E : Estimate) where
  -- ---- a cell

  module _ (t : List ℕ) (k : ℕ) (h : k < 2048) where
    -- the test tells whether the byte is to be changed
    pub faulty_decides : Decides (FaultyAt E t k) (is_faulty E t k)
    faulty_decides = decides_or (above_four t k) (is_bad E t k) (less_decides 4 (get_or t k 0)) (λ n. cell_decides E t k (record { row = omega arith; column = omega arith; byte = not_below n }))

    faulty : FaultyAt E t k ⊎ (FaultyAt E t k → ⊥)
    faulty = ⊎_elim (λ e. inl (faulty_decides.yes e)) (λ e. inr (faulty_decides.no e)) (either (is_faulty E t k))

    -- it is not where it holds an allowed digit, and only there
    pub not_faulty : {b : ℕ} → b ≤ 4 → Allows E (k / 128) (k % 128) (digit b) → get_or t k 0 ≡ b → FaultyAt E t k → ⊥
    not_faulty l a e = ⊎_elim (λ m. omega arith) (λ x. not_allowed E x.against (rw e a))

    pub copied_byte : (FaultyAt E t k → ⊥) → (get_or t k 0 ≤ 4) × Allows E (k / 128) (k % 128) (digit (get_or t k 0))
    copied_byte n =
        let l : get_or t k 0 ≤ 4 = not_below (λ m. n (inl m)) in
        (l, allows_unless E (record { row = omega arith; column = omega arith; byte = l }) (λ D P x. n (inr (record { byte = l; divisor = D; remainder = P; against = x }))))

    -- the computed repair is the one
    pub cell_repaired : RepairedAt E t k (repaired_byte E t k) (change_mark E t k)
    unfolding repaired_byte change_mark
    cell_repaired = let m = made_right E (k / 128) (k % 128) (omega arith) (omega arith) in ⊎_elim
        (λ (e : is_faulty E t k ≡ true). let w = faulty_decides.yes e in rw e (record { made = λ w. m; copied = λ n. absurd (n w); marked = λ n. refl; unmarked = λ q. absurd (not_faulty m.byte m.allowed q w) }))
        (λ (e : is_faulty E t k ≡ false). rw e (record { made = λ w. absurd (faulty_decides.no e w); copied = λ n. refl; marked = λ n. absurd (n refl); unmarked = λ q. refl }))
        (either (is_faulty E t k))

    module _ {b m : ℕ} (r : RepairedAt E t k b m) where
      -- what stands there is an allowed digit
      pub allowed_byte : (b ≤ 4) × Allows E (k / 128) (k % 128) (digit b)
      allowed_byte = ⊎_elim (λ w. let y = r.made w in (y.byte, y.allowed)) (λ n. rw (r.copied n) (copied_byte n)) faulty

      -- only a byte that must be is changed
      pub changed_faulty : (get_or t k 0 ≡ b → ⊥) → FaultyAt E t k
      changed_faulty n = ⊎_elim (λ w. w) (λ c. absurd (n (sym (r.copied c)))) faulty

      pub faulty_changed : FaultyAt E t k → get_or t k 0 ≡ b → ⊥
      faulty_changed w e = not_faulty allowed_byte.0 allowed_byte.1 e w

      pub changed_decides : Decides (get_or t k 0 ≡ b → ⊥) (is_faulty E t k)
      changed_decides = record { yes = λ e. faulty_changed (faulty_decides.yes e); no = λ e n. faulty_decides.no e (changed_faulty n) }

    -- and there is one repair of a cell
    pub repaired_one : {b c m n : ℕ} → RepairedAt E t k b m → RepairedAt E t k c n → (b ≡ c) × (m ≡ n)
    repaired_one x y = ⊎_elim
        (λ w. (byte_one E (x.made w) (y.made w), x.marked (faulty_changed x w) ∙ sym (y.marked (faulty_changed y w))))
        (λ w. (x.copied w ∙ sym (y.copied w), x.unmarked (sym (x.copied w)) ∙ sym (y.unmarked (sym (y.copied w)))))
        faulty

  -- ---- the table

  module _ {t rs cs a b : List ℕ} {n : ℕ} (room : 2048 ≤ length rs) (size : length t ≡ 2048) (r : RepairedTable E t rs cs a b n) where
    first_size : length (take 2048 a) ≡ 2048
    first_size = rw length-take (omega (arith, r.repaired_kept.size))

    first_at : (k : ℕ) → k < 2048 → get_or (take 2048 a) k 0 ≡ get_or a k 0
    first_at k h = rw get_or-take

    pub repaired_passes : Passes E (take 2048 a)
    repaired_passes = record {
      table = table_of (take 2048 a) first_size (λ k h w. omega (arith, first_at k h, (allowed_byte t k h (r.cell k h)).0));
      allowed = λ k h. rw (first_at k h) (allowed_byte t k h (r.cell k h)).1;
    }

    pub repaired_least : (u : List ℕ) → Passes E u → (m : ℕ) → Tally (DifferAt t u) 2048 m → n ≤ m
    repaired_least u p m y = tally_most (λ k h d e. not_faulty t k h (p.table.digits k) (p.allowed k h) e (changed_faulty t k h (r.cell k h) d)) r.count y

    -- a table that passes is left as it is
    passes_unchanged : Passes E t → n ≡ 0
    passes_unchanged p = let l = repaired_least t p 0 (tally_nothing 2048 (λ k h d. d refl)) in omega arith

    unchanged_same : n ≡ 0 → take 2048 a ≡ t
    unchanged_same z = ext_get_or 0 (take 2048 a) t (first_size ∙ sym size) (λ k l.
        let h : k < 2048 = omega (arith, first_size) in first_at k h ∙ sym (equal (get_or t k 0) (get_or a k 0) (λ d. omega (arith, tally_some r.count k h d))))

    pub repaired_claim : RepairClaim E t a n
    repaired_claim = record {
      passes = repaired_passes;
      least = repaired_least;
      none = (λ z. rw (unchanged_same z) at repaired_passes, passes_unchanged);
      same = λ p. unchanged_same (passes_unchanged p);
    }
