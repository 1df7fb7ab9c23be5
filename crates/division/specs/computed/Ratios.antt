-- Two ratios of whole numbers compared: the specification, section 16.
use Rattle.std.specs.Prelude.{◌≡◌, ℕ, zero, suc, ◌*◌, ◌/◌, ◌%◌, ◌^◌, ◌<◌, ◌↔◌, List, [], ◌∷◌, pos, negsuc, Result, Ok, Err}
use Rattle.std.specs.Ordering.{nat_cmp}
use Rattle.std.specs.declared.cmp.Ordering.{Ordering}
use Rattle.std.specs.declared.cmp.Ordering.TheVariants.{Less, Equal, Greater}
use Rattle.selection.specs.Answer.{refusal}
use Rattle.selection.specs.computed.Answer.{answer_by}
use Rattle.selection.specs.computed.Refusals.{Rule, either_of, number, first_refusal}
use Rattle.division.specs.computed.Whole.{large_operand, zero_divisor}
use Rattle.selection.specs.declared.Refusal.{Refusal}
use Rattle.division.specs.declared.ratio.Comparison.{Comparison}

-- ---- what the answer means

-- a / b and c / d, of which no refusal speaks
pub record Ratios (a b c d : ℕ) : Type 0 where
  pub a_below : a < 2 ^ 60
  pub b_some : 0 < b
  pub b_below : b < 2 ^ 60
  pub c_below : c < 2 ^ 60
  pub d_some : 0 < d
  pub d_below : d < 2 ^ 60

-- x says how a / b compares with c / d: as a·d compares with c·b
-- § 16.1 a/b compares with c/d as a·d with c·b.
pub record Compares (a b c d : ℕ) (x : Ordering) : Type 0 where
  pub less : (x ≡ Less) ↔ (a * d < c * b)
  pub equal : (x ≡ Equal) ↔ (a * d ≡ c * b)
  pub greater : (x ≡ Greater) ↔ (c * b < a * d)

-- ---- how it is found

-- what two whole-number divisions say of x, with the quotients q and p and the remainders r and s: the smaller quotient tells, then a remainder of 0; else it is left to the next round
-- § 16.2 Each round divides both ratios once, and 87 are enough.
pub record Round (q r p s : ℕ) (x : Ordering) (Next : Type 0) : Type 0 where
  pub less : q < p → x ≡ Less
  pub greater : p < q → x ≡ Greater
  pub both_end : q ≡ p → r ≡ 0 → s ≡ 0 → x ≡ Equal
  pub first_ends : q ≡ p → r ≡ 0 → 0 < s → x ≡ Less
  pub second_ends : q ≡ p → 0 < r → s ≡ 0 → x ≡ Greater
  pub next : q ≡ p → 0 < r → 0 < s → Next

-- x is found in n rounds at most: a round divides a by b and c by d, the next one divides each divisor by its remainder, d / s and b / r in this order
-- § 16.2 Each round divides both ratios once, and 87 are enough.
unfoldable pub FoundIn : ℕ → ℕ → ℕ → ℕ → ℕ → Ordering → Type 0
FoundIn zero a b c d x = ⊥
FoundIn (suc n) a b c d x = Round (a / b) (a % b) (c / d) (c % d) x (FoundIn n d (c % d) b (a % b) x)

-- ---- the answer

-- what is refused. 4: any of them is 2^60 or more. 5: b or d is 0
-- § 16.3 Ratios are refused under these rules.
abbrev pub ratios_rules : ℕ → ℕ → ℕ → ℕ → List Rule
ratios_rules a b c d =
    number 4 (either_of (large_operand a) (either_of (large_operand b) (either_of (large_operand c) (large_operand d))))
    ∷ number 5 (either_of (zero_divisor b) (zero_divisor d))
    ∷ []

-- how one number compares with another
abbrev pub comparison_of : ℕ → ℕ → Ordering
comparison_of m n = nat_cmp m n

abbrev pub compared_of : ℕ → ℕ → ℕ → ℕ → Result Ordering Refusal
compared_of a b c d = answer_by Err (Ok (comparison_of (a * d) (c * b))) (first_refusal (ratios_rules a b c d))

-- its numbers: the refusal's number (0: none) and place; -1 less, 0 equal, 1 greater, and 0 where it refuses
abbrev pub comparison_zeros : Refusal → Comparison
comparison_zeros f = record { refusal = f; order = pos 0 }

-- § 18.7 Each case of an enum has its number, place and values.
abbrev pub comparison_numbers : Result Ordering Refusal → Comparison
comparison_numbers (Ok Less) = record { refusal = refusal 0 0; order = negsuc 0 }
comparison_numbers (Ok Equal) = record { refusal = refusal 0 0; order = pos 0 }
comparison_numbers (Ok Greater) = record { refusal = refusal 0 0; order = pos 1 }
comparison_numbers (Err f) = comparison_zeros f
