-- Bench cases 1 to 7: the cells. antt computes the five digits of a cell and the limits of a row.
use Rattle.laws.proofs.Basics.{◌≡◌, ap, Bool, false, ◌||◌, List, [], ◌∷◌, ⊎_elim, ℕ, ◌+◌, ◌*◌, ◌^◌, arith, ℤ, pos, negsuc, T, leb, eqb, leb→le, eqb-true, eqb-false, lit≤}
use Rattle.laws.proofs.{Tests.{upto, upto_at, alike, alike_eq, either, Decides, decides_no}, Diff.{diff_eq}}
use Rattle.selection.specs.{Cell.{OneOf, AllowedDigits, LeastWitness, digit}, Maker.{AreLimits}, computed.Allowed.{allows_of}, computed.Outcomes.{limits_of}, declared.Estimate.{Estimate}}
use Rattle.selection.specs.declared.Estimate.TheVariants.{SevenBits, EightBits}
use Rattle.selection.proofs.{ConditionTests.{decides_or}, BiasedPoints.{digit_diff, cell_checked}, Allowed.{allows_decides}, Making.{limits_right}}

-- the digits of a list of bytes, and whether it holds a byte
abbrev digits : List ℕ → List ℤ
digits [] = []
digits (a ∷ bs) = digit a ∷ digits bs

abbrev listed : ℕ → List ℕ → Bool
listed b [] = false
listed b (a ∷ bs) = eqb b a || listed b bs

listed_decides : (b : ℕ) (bs : List ℕ) → Decides (OneOf (digit b) (digits bs)) (listed b bs)
listed_decides b [] = decides_no (λ z. z)
listed_decides b (a ∷ bs) =
    let head : Decides (digit b ≡ digit a) (eqb b a) = record { yes = λ e. ap digit (eqb-true b a e); no = λ e h. eqb-false b a e (omega (arith, (diff_eq b 2 a 2).0 (rw (digit_diff, digit_diff) at h))) } in
    decides_or (eqb b a) (listed b bs) head (λ _. listed_decides b bs)

-- antt computes the five tests of a cell
cell : (E : Estimate) (r c : ℕ) (bs : List ℕ) → T (leb r 15) → T (leb c 127) → T (upto (λ b. alike (allows_of E r c b) (listed b bs)) 5) → AllowedDigits E r c (digits bs)
cell E r c bs hr hc t = record {
  exactly = λ b h.
      let p = allows_decides E (record { row = leb→le r 15 hr; column = leb→le c 127 hc; byte = h }) in
      let same = alike_eq (allows_of E r c b) (listed b bs) (upto_at (λ (n : ℕ). alike (allows_of E r c n) (listed n bs)) 5 t b (omega arith)) in
      let q : Decides (OneOf (digit b) (digits bs)) (allows_of E r c b) = rw same (listed_decides b bs) in
      ⊎_elim (λ e. ((λ a. q.yes e), λ a. p.yes e)) (λ e. ((λ a. absurd (p.no e a)), λ a. absurd (q.no e a))) (either (allows_of E r c b));
}

pub case_1 : AllowedDigits EightBits 0 75 (pos 1 ∷ []) × LeastWitness EightBits 0 75 (pos 2) (33 * 2 ^ 55 + 1) (pos (11 * 2 ^ 57))
unfolding allows_of digit
case_1 = (cell EightBits 0 75 (3 ∷ []) tt tt tt, (cell_checked EightBits 0 75 4).means.1)

pub case_2 : AllowedDigits EightBits 0 76 (pos 2 ∷ [])
unfolding allows_of digit
case_2 = cell EightBits 0 76 (4 ∷ []) tt tt tt

pub case_3 : AllowedDigits EightBits 1 76 (pos 1 ∷ pos 2 ∷ [])
unfolding allows_of digit
case_3 = cell EightBits 1 76 (3 ∷ 4 ∷ []) tt tt tt

pub case_4 : AllowedDigits EightBits 0 67 (pos 0 ∷ pos 1 ∷ [])
unfolding allows_of digit
case_4 = cell EightBits 0 67 (2 ∷ 3 ∷ []) tt tt tt

pub case_5 : AllowedDigits EightBits 0 50 (negsuc 1 ∷ []) × AllowedDigits EightBits 0 51 (negsuc 1 ∷ negsuc 0 ∷ [])
unfolding allows_of digit
case_5 = (cell EightBits 0 50 (0 ∷ []) tt tt tt, cell EightBits 0 51 (0 ∷ 1 ∷ []) tt tt tt)

pub case_6 : AllowedDigits EightBits 1 87 (pos 2 ∷ []) × AllowedDigits EightBits 1 88 (negsuc 1 ∷ negsuc 0 ∷ pos 0 ∷ pos 1 ∷ pos 2 ∷ [])
unfolding allows_of digit
case_6 = (cell EightBits 1 87 (4 ∷ []) tt tt tt, cell EightBits 1 88 (0 ∷ 1 ∷ 2 ∷ 3 ∷ 4 ∷ []) tt tt tt)

pub case_7 : AreLimits EightBits 0 (40 ∷ 51 ∷ 59 ∷ 68 ∷ 76 ∷ 87 ∷ [])
unfolding limits_of
case_7 = limits_right EightBits 0 (lit≤ tt)

-- cases 5 and 7 in a divider that adds seven bits
pub case_5_seven : AllowedDigits SevenBits 0 50 (negsuc 1 ∷ []) × AllowedDigits SevenBits 0 51 (negsuc 0 ∷ [])
unfolding allows_of digit
case_5_seven = (cell SevenBits 0 50 (0 ∷ []) tt tt tt, cell SevenBits 0 51 (1 ∷ []) tt tt tt)

pub case_7_seven : AreLimits SevenBits 0 (40 ∷ 51 ∷ 59 ∷ 68 ∷ 76 ∷ 87 ∷ []) × AreLimits SevenBits 1 (39 ∷ 50 ∷ 59 ∷ 68 ∷ 77 ∷ 88 ∷ []) × AreLimits SevenBits 15 (20 ∷ 39 ∷ 54 ∷ 73 ∷ 88 ∷ 107 ∷ [])
unfolding limits_of
case_7_seven = (limits_right SevenBits 0 (lit≤ tt), limits_right SevenBits 1 (lit≤ tt), limits_right SevenBits 15 (lit≤ tt))
