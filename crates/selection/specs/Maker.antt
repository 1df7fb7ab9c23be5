-- The made table and the limits of its rows: the specification, section 5. Quotient-digit selection by the allowed digit nearest zero.
use Rattle.std.specs.Prelude.{◌≡◌, ℕ, ◌+◌, ◌-◌, ◌/◌, ◌%◌, ◌<◌, ◌≤◌, cond, ◌⊎◌, List, length, nat_lt, slice_index, slice_index_or}
use Rattle.selection.specs.Cell.{Allows, digit}
use Rattle.selection.specs.declared.Estimate.{Estimate}

-- how far the digit of a byte is from zero
abbrev pub distance : ℕ → ℕ
distance b = (b - 2) + (2 - b)

-- the byte at column c of a row in which -2, -1, 0, 1, 2 and again 0 begin at the six columns of l
abbrev pub step_at : List ℕ → ℕ → ℕ
step_at l c =
    let e5 : ℕ = cond (nat_lt c (slice_index l 5)) 4 2 in
    let e4 : ℕ = cond (nat_lt c (slice_index l 4)) 3 e5 in
    let e3 : ℕ = cond (nat_lt c (slice_index l 3)) 2 e4 in
    let e2 : ℕ = cond (nat_lt c (slice_index l 2)) 1 e3 in
    let e1 : ℕ = cond (nat_lt c (slice_index l 1)) 0 e2 in
    cond (nat_lt c (slice_index l 0)) 2 e1

-- in a divider with the estimate E
module _ (E : Estimate) where
  -- b is the byte of the made digit (the specification's term), the allowed one nearest zero; no other allowed digit is as near
  -- § 5.1 The made digit is the allowed one nearest zero.
  pub record Made (r c b : ℕ) : Type 0 where
    pub byte : b ≤ 4
    pub allowed : Allows E r c (digit b)
    pub nearest : (a : ℕ) → a ≤ 4 → Allows E r c (digit a) → (a ≡ b) ⊎ (distance b < distance a)

  -- l holds the limits (the specification's term) of the row r: the columns where its made digits change
  -- § 5.3 A row's limits are the six columns where its made digits change.
  pub record AreLimits (r : ℕ) (l : List ℕ) : Type 0 where
    pub six : length l ≡ 6
    pub rises : (i : ℕ) → i < 5 → slice_index l i < slice_index l (i + 1)
    pub within : slice_index_or l 5 0 ≤ 127
    pub steps : (c : ℕ) → c ≤ 127 → Made r c (step_at l c)

  -- t is the made table
  -- § 5.1 The made digit is the allowed one nearest zero.
  pub record MadeTable (t : List ℕ) : Type 0 where
    pub size : length t ≡ 2048
    pub made : (k : ℕ) → k < 2048 → Made (k / 128) (k % 128) (slice_index t k)
