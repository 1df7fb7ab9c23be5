-- Of two answers that `Ieee` accepts for the same operands, one is the other: nothing of a quotient is left to chance.
use Rattle.laws.proofs.Basics.{◌≡◌, sym, ◌∙◌, ℕ}
use Rattle.division.proofs.{Binary64Names.{magnitude, sign_of, quotient_scale, quotient_place, Ieee, Binary64Result}, Classes.{nonzero_operand, by_cases}, Quotient.{quotient_increasing}}
use Rattle.division.proofs.RoundedOne.{rounded_one}

-- one answer for each pair of operands
-- § 9.5 No other quotient fits.
pub ieee_one : (direction a b : ℕ) {x y : Binary64Result} → Ieee direction a b x → Ieee direction a b y → x ≡ y
ieee_one direction a b u v = by_cases a b
    (λ h. (λ i. record { pattern = (u.nan h ∙ sym (v.nan h)) i; flags = (u.nan_flag h ∙ sym (v.nan_flag h)) i }))
    (λ h. u.invalid h ∙ sym (v.invalid h))
    (λ h k. u.by_zero h k ∙ sym (v.by_zero h k))
    (λ h k. u.infinite h k ∙ sym (v.infinite h k))
    (λ h. u.zero h ∙ sym (v.zero h))
    (λ h k. rounded_one _ (sign_of a b) (quotient_scale (magnitude b)) (quotient_increasing (magnitude b) (nonzero_operand b k).0) (quotient_place (magnitude a)) (u.quotient h k) (v.quotient h k))
