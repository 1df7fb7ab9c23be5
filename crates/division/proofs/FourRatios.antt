-- The ratios of significands, by the results of their runs: one, and four side by side.
use Rattle.laws.proofs.Basics.{◌≡◌, refl, List, [], ◌∷◌, length, ℕ, min, ◌+◌, ◌*◌, ◌^◌, ◌≤◌, ◌<◌, arith}
use Rattle.std.proofs.Common.{map, All, slice_index_or}
use Rattle.std.proofs.lemmas.List.{get_or-map}
use Rattle.selection.specs.{Table.{Passes}, declared.Estimate.TheVariants.{EightBits}}
use Rattle.recurrence.specs.{Recurrence.{result_of}, declared.Division.{Division}, declared.RunResult.{RunResult}}
use Rattle.division.proofs.{Binary64Names.{ratio_through}, Binary64Through.{ratio_right}}

-- the quotient of a run of 28 digits has 54 or 55 bits
pub ratio_span : {t : List ℕ} (x : Division) {r : RunResult} → Passes EightBits t → 2 ^ 60 ≤ x.dividend → r ≡ result_of EightBits t x.dividend x.divisor 28 → (2 ^ 53 ≤ r.quotient) × (r.quotient < 2 ^ 55)
unfolding ratio_through
ratio_span {t} x p h e = let s = x.in_span in let k = ratio_right EightBits t x.dividend x.divisor p h s.dividend s.least s.most in rw e (omega arith, k.1)

module _ (t : List ℕ) where
  abbrev result : Division → RunResult
  result x = result_of EightBits t x.dividend x.divisor 28

  abbrev ratio : Division → ℕ
  ratio x = ratio_through EightBits t x.dividend x.divisor

  abbrev pub ratios : List Division → List ℕ
  ratios x = map ratio x

-- the k-th result of a list, and the k-th ratio
pub span_at : {t : List ℕ} (x : List Division) (k : ℕ) (z : RunResult) {r : List RunResult} → Passes EightBits t → All (λ d. 2 ^ 60 ≤ d.dividend) x → r ≡ map (result t) x → k < length x
    → (2 ^ 53 ≤ (slice_index_or r k z).quotient) × ((slice_index_or r k z).quotient < 2 ^ 55)
span_at [] k z p h e l = absurd (omega arith)
span_at {t} (d ∷ x) k z p h e l = rw (e, get_or-map (result t) (d ∷ x) k d z l) (ratio_span (slice_index_or (d ∷ x) k d) p (h k d l) refl)

pub ratio_at : (t : List ℕ) (x : List Division) (k : ℕ) (z : RunResult) {r : List RunResult} {w : ℕ} → r ≡ map (result t) x → k < length x
    → w ≡ 2 * (slice_index_or r k z).quotient + min 1 (slice_index_or r k z).remainder → w ≡ slice_index_or (ratios t x) k 0
unfolding ratio_through
ratio_at t [] k z e l i = absurd (omega arith)
ratio_at t (d ∷ x) k z e l i = rw (get_or-map (ratio t) (d ∷ x) k d 0 l) (rw (e, get_or-map (result t) (d ∷ x) k d z l) at i)

-- a list of four by its elements
pub as_four : {A : Type 0} (x : List A) (z : A) → length x ≡ 4 → x ≡ slice_index_or x 0 z ∷ slice_index_or x 1 z ∷ slice_index_or x 2 z ∷ slice_index_or x 3 z ∷ []
as_four [] z e = absurd (omega arith)
as_four (a ∷ []) z e = absurd (omega arith)
as_four (a ∷ b ∷ []) z e = absurd (omega arith)
as_four (a ∷ b ∷ c ∷ []) z e = absurd (omega arith)
as_four (a ∷ b ∷ c ∷ d ∷ []) z e = refl
as_four (a ∷ b ∷ c ∷ d ∷ f ∷ x) z e = absurd (omega arith)
