-- Ratios are compared rightly: the specification, section 16. What is refused is said in demand 1.
use Rattle.std.specs.Prelude.{◌≡◌, ℕ, ◌-◌, ◌*◌, ◌/◌, ◌%◌, ◌^◌, ◌<◌, ℤ, pos, negsuc, Result, Ok, Err, IsOkAnd}
use Rattle.selection.specs.Answer.{refusal}
use Rattle.division.specs.computed.Ratios.{Ratios, Compares, FoundIn, compared_of, comparison_numbers}
use Rattle.std.specs.declared.cmp.Ordering.{Ordering}
use Rattle.std.specs.declared.cmp.Ordering.TheVariants.{Less, Equal, Greater}
use Rattle.selection.specs.declared.Refusal.{Refusal}

-- the answer says how a / b compares with c / d, and no other does
-- § 16.1 a/b compares with c/d as a·d with c·b.
pub record ComparesRatios (a b c d : ℕ) (x : Result Ordering Refusal) : Type 0 where
  pub meaning : IsOkAnd x (Compares a b c d)
  pub only : (y : Result Ordering Refusal) → IsOkAnd y (Compares a b c d) → y ≡ x

-- the other way round
abbrev pub reversed_comparison : Result Ordering Refusal → Result Ordering Refusal
reversed_comparison (Ok Less) = Ok Greater
reversed_comparison (Ok Equal) = Ok Equal
reversed_comparison (Ok Greater) = Ok Less
reversed_comparison (Err f) = Err f

-- no refusal, and the order n of a / b and c / d
abbrev pub Answers : ℕ → ℕ → ℕ → ℕ → ℤ → Type 0
Answers a b c d n = comparison_numbers (compared_of a b c d) ≡ record { refusal = refusal 0 0; order = n }

-- for all numbers that no refusal names: 4, 5
-- § 16.1 a/b compares with c/d as a·d with c·b.
pub record RatioDemand : Type 0 where
  pub compared : (a b c d : ℕ) → Ratios a b c d → ComparesRatios a b c d (compared_of a b c d)
  -- in numbers
  pub less : (a b c d : ℕ) → Ratios a b c d → a * d < c * b → Answers a b c d (negsuc 0)
  pub equal : (a b c d : ℕ) → Ratios a b c d → a * d ≡ c * b → Answers a b c d (pos 0)
  pub greater : (a b c d : ℕ) → Ratios a b c d → c * b < a * d → Answers a b c d (pos 1)
  pub examples : Answers 1 3 2 5 (negsuc 0) × Answers 2 5 1 3 (pos 1) × Answers 2 6 1 3 (pos 0)
  pub largest : Answers (2 ^ 60 - 1) (2 ^ 60 - 2) (2 ^ 60 - 2) (2 ^ 60 - 3) (negsuc 0)
  -- found through repeated whole-number division of the remainders, in 87 rounds at most; `by_quotients` and `by_remainders` say one round without its definition, and greater is `reversed`
  -- § 16.2 Each round divides both ratios once, and 87 are enough.
  pub by_quotients : (a b c d : ℕ) → Ratios a b c d → a / b < c / d → compared_of a b c d ≡ Ok Less
  -- § 16.2 Each round divides both ratios once, and 87 are enough.
  pub by_remainders : (a b c d : ℕ) → Ratios a b c d → a / b ≡ c / d → 0 < a % b → 0 < c % d → compared_of a b c d ≡ compared_of d (c % d) b (a % b)
  -- § 16.2 Each round divides both ratios once, and 87 are enough.
  pub found : (a b c d : ℕ) → Ratios a b c d → IsOkAnd (compared_of a b c d) (FoundIn 87 a b c d)
  -- ratios can be sorted by it: with the two exchanged the answer is reversed, and where neither step is greater the whole is not
  -- § 16.1 The comparison is an order.
  pub reversed : (a b c d : ℕ) → Ratios a b c d → compared_of c d a b ≡ reversed_comparison (compared_of a b c d)
  -- § 16.1 The comparison is an order.
  pub chained : (a b c d e f : ℕ) → Ratios a b c d → Ratios c d e f → (compared_of a b c d ≡ Ok Greater → ⊥) → (compared_of c d e f ≡ Ok Greater → ⊥) → compared_of a b e f ≡ Ok Greater → ⊥
