-- The states and digits of a run: the divisor stays, where each digit comes from, and the number S that they make.
use Rattle.laws.{proofs.Basics.{◌≡◌, refl, ap, ◌∙◌, List, [], ◌∷◌, ◌++◌, ℕ, zero, suc, ◌*◌, ◌^◌, ◌<◌, arith, length, get_or, length-append, pos, ◌+ℤ◌, ◌*ℤ◌}, specs.Lists.{list_from}}
use Rattle.laws.proofs.{Lists.{list_snoc, list_value}, Diff.{diff, diffs, by_diff}}
use Rattle.std.proofs.Common.{pow-suc}
use Rattle.selection.{specs.Cell.{digit}, proofs.BiasedPoints.{digit_diff}, specs.declared.Estimate.{Estimate}}
use Rattle.recurrence.specs.Recurrence.{cell_at, next_of, after, digit_of, digits, value}

-- ---- a digit more: S′ = 4S + q

value_append : (ds : List ℕ) (d : ℕ) → value (ds ++ (d ∷ [])) ≡ pos 4 *ℤ value ds +ℤ digit d
unfolding value
value_append [] d = rw (digit_diff d) (simp diffs (omega arith))
value_append (x ∷ ds) d =
    let e : 4 ^ length (ds ++ (d ∷ [])) ≡ 4 ^ length ds * 4 = ap (λ (n : ℕ). 4 ^ n) (length-append ds (d ∷ []) ∙ omega arith) ∙ pow-suc 4 (length ds) in
    rw (e, value_append ds d, digit_diff x, digit_diff d)
    (by_diff (λ v. pos (4 ^ length ds * 4) *ℤ diff x 2 +ℤ (pos 4 *ℤ v +ℤ diff d 2) ≡ pos 4 *ℤ (pos (4 ^ length ds) *ℤ diff x 2 +ℤ v) +ℤ diff d 2) (λ a b. simp diffs (omega arith)) (value ds))

pub value_next : (d : ℕ → ℕ) (i : ℕ) → value (list_from d 0 (suc i)) ≡ pos 4 *ℤ value (list_from d 0 i) +ℤ digit (d i)
value_next d i = ap value (list_snoc d i) ∙ value_append (list_from d 0 i) (d i)

-- in a divider with the estimate E
module _ (E : Estimate) where
  -- no step changes the divisor
  pub divisor_after : (t : List ℕ) (N D i : ℕ) → (after E t N D i).divisor ≡ D
  unfolding after next_of
  divisor_after t N D zero = refl
  divisor_after t N D (suc i) = divisor_after t N D i

  -- each digit is the table's at the cell of the state that the steps have reached
  pub digit_at : (t : List ℕ) (N D n i : ℕ) → i < n → get_or (digits E t N D n) i 0 ≡ get_or t (cell_at E (after E t N D i)) 0
  unfolding after next_of
  digit_at t N D n i h = list_value (digit_of E t N D) 0 n i h
