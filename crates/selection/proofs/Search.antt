-- The search of a cell from below and from above, each from its own least divisor: a second computation of what the test of a cell finds. Only laws cite it: `search_right` says what it
-- finds, `tested` that the test finds the same in every cell.
use Rattle.laws.proofs.{Basics.{◌≡◌, refl, cond, ◌⊎◌, inl, inr, ⊎_elim, ℕ, ◌+◌, ◌*◌, ◌-◌, ◌^◌, ◌≤◌, ◌<◌, min, arith, ltb, ltb→lt, nltb→le}, Tests.{by_cond}}
use Rattle.selection.proofs.{DigitBytes.{up_to_four}, BreakingPoints.{Low, High, PointWith, Breaks, IsLeast}}
use Rattle.selection.specs.{Cell.{span_of}, computed.CellTest.{Finding, above, under, least_past, least_divisor, low_divisor, high_divisor, reach, low_at, high_at}}
use Rattle.selection.specs.{computed.CellTest.Finding.{NoWitness, LeastAt}, declared.Estimate.{Estimate}, declared.Estimate.TheVariants.{SevenBits, EightBits}}

-- the remainder w at the divisor d, if d is the row's and x is below y
abbrev pub found_if : ℕ → ℕ → ℕ → ℕ → ℕ → Finding
found_if r d w x y = cond (ltb d ((17 + r) * 2 ^ 56)) (cond (ltb x y) (LeastAt d w) NoWitness) NoWitness

-- the least remainder of a point at the least d, where it is too low for b
abbrev pub too_low : Estimate → ℕ → ℕ → ℕ → Finding
too_low E r c b =
    let d = low_divisor E ((16 + r) * 2 ^ 56) c b in
    let w = low_at d c in
    found_if r d w (w - (2 ^ 63 - reach d)) (b * d)

-- the least remainder at the least d that is too high for b, where it is a point's
abbrev pub too_high : Estimate → ℕ → ℕ → ℕ → Finding
too_high E r c b =
    let d = high_divisor E ((16 + r) * 2 ^ 56) c b in
    let w = high_at d c b in
    found_if r d w w (min (c * 2 ^ 57 + span_of E) (2 ^ 63 + reach d) + 1)

-- what one of the two finds: no cell has both
abbrev pub or_else : Finding → Finding → Finding
or_else NoWitness g = g
or_else (LeastAt d w) g = LeastAt d w

abbrev pub search_of : Estimate → ℕ → ℕ → ℕ → Finding
search_of E r c b = or_else (too_low E r c b) (too_high E r c b)

-- what `least_divisor` asks of a divisor of the row r: it is the least of which that holds
record Reached (r u v k D : ℕ) : Type 0 where
  from : (16 + r) * 2 ^ 56 ≤ D
  near : u ≤ 8 * D
  past : least_past k v ≤ D

least_reached : (r u v k : ℕ) → let d = least_divisor ((16 + r) * 2 ^ 56) u v k in Reached r u v k d × ((D : ℕ) → Reached r u v k D → d ≤ D)
least_reached r u v k = omega arith

-- the divisors of the points with K are in R. Where d is the least in R, x is below y if there is a point, and then w is the least remainder at d
record Sought (E : Estimate) (r c : ℕ) (K : ℕ → ℕ → Type 0) (R : ℕ → Type 0) (d w x y : ℕ) : Type 0 where
  reached : (D W : ℕ) → PointWith E r c K D W → R D
  some : (D W : ℕ) → PointWith E r c K D W → d ≤ D → x < y
  found : d < (17 + r) * 2 ^ 56 → x < y → PointWith E r c K d w × ((W : ℕ) → PointWith E r c K d W → w ≤ W)

sought_least : {E : Estimate} {r c : ℕ} {K : ℕ → ℕ → Type 0} {R : ℕ → Type 0} {d w x y : ℕ} → Sought E r c K R d w x y → ((D : ℕ) → R D → d ≤ D) → IsLeast (PointWith E r c K) (found_if r d w x y)
sought_least {E} {r} {c} {K} {R} {d} {w} {x} {y} s l =
    by_cond (IsLeast (PointWith E r c K)) (ltb d ((17 + r) * 2 ^ 56)) _ _
    (λ t. by_cond (IsLeast (PointWith E r c K)) (ltb x y) _ _
    (λ u. let h = s.found (ltb→lt _ _ t) (ltb→lt _ _ u) in (h.0, least, h.1))
    (λ u D W p. omega (arith, nltb→le, s.some D W p (least D W p))))
    (λ t D W p. omega (arith, nltb→le, least D W p))
  where
    least : (D W : ℕ) → PointWith E r c K D W → d ≤ D
    least D W p = l D (s.reached D W p)

-- how far an estimate is off at most
pub span_least : (E : Estimate) → 3 * 2 ^ 56 - 2 ≤ span_of E
span_least SevenBits = omega arith
span_least EightBits = omega arith

pub span_most : (E : Estimate) → span_of E ≤ 2 ^ 58 - 2
span_most SevenBits = omega arith
span_most EightBits = omega arith

module _ (E : Estimate) (r c : ℕ) (hr : r ≤ 15) where
  low_sought : (b : ℕ) → b ≤ 4 → (d w : ℕ) → Reached r (under E c) (above c) (4 - b) d → w ≡ low_at d c → Sought E r c (Low b) (Reached r (under E c) (above c) (4 - b)) d w (w - (2 ^ 63 - reach d)) (b * d)
  low_sought = let l = span_least E in let m = span_most E in up_to_four _ (omega arith) (omega arith) (omega arith) (omega arith) (omega arith)

  high_sought : (b : ℕ) → b ≤ 4 → (d w : ℕ) → Reached r (above c) (under E c) b d → w ≡ high_at d c b → Sought E r c (High b) (Reached r (above c) (under E c) b) d w w (min (c * 2 ^ 57 + span_of E) (2 ^ 63 + reach d) + 1)
  high_sought = let l = span_least E in let m = span_most E in up_to_four _ (omega arith) (omega arith) (omega arith) (omega arith) (omega arith)

  -- a cell has no point that is too low and one that is too high
  apart : (b : ℕ) → b ≤ 4 → {D W D' W' : ℕ} → PointWith E r c (Low b) D W → PointWith E r c (High b) D' W' → ⊥
  apart = let l = span_least E in let m = span_most E in up_to_four _ (omega arith) (omega arith) (omega arith) (omega arith) (omega arith)

-- the search is right
pub search_right : (E : Estimate) (r c b : ℕ) → r ≤ 15 → b ≤ 4 → IsLeast (Breaks E r c b) (search_of E r c b)
search_right E r c b hr hb =
    let l = least_reached r (under E c) (above c) (4 - b) in
    let h = least_reached r (above c) (under E c) b in
    join (too_low E r c b) (too_high E r c b) (sought_least (low_sought E r c hr b hb _ _ l.0 refl) l.1) (sought_least (high_sought E r c hr b hb _ _ h.0 refl) h.1)
  where
    by_side : {D W : ℕ} {X : Type 0} → (PointWith E r c (Low b) D W → X) → (PointWith E r c (High b) D W → X) → Breaks E r c b D W → X
    by_side f g k = ⊎_elim (λ l. f (record { point = k.point; side = l })) (λ h. g (record { point = k.point; side = h })) k.side

    -- the points of one side are all, where the other has none
    all : {K : ℕ → ℕ → Type 0} (g : Finding) → ((D W : ℕ) → K D W → Low b D W ⊎ High b D W) → ((D W : ℕ) → Breaks E r c b D W → PointWith E r c K D W) → IsLeast (PointWith E r c K) g → IsLeast (Breaks E r c b) g
    all NoWitness f e s = λ D W k. s D W (e D W k)
    all (LeastAt d w) f e s = (record { point = s.0.point; side = f d w s.0.side }, (λ D W k. s.1 D W (e D W k)), (λ W k. s.2 W (e d W k)))

    join : (g h : Finding) → IsLeast (PointWith E r c (Low b)) g → IsLeast (PointWith E r c (High b)) h → IsLeast (Breaks E r c b) (or_else g h)
    join NoWitness h p q = all h (λ D W. inr) (λ D W. by_side (λ l. absurd (p D W l)) (λ x. x)) q
    join (LeastAt d w) h p q = all (LeastAt d w) (λ D W. inl) (λ D W. by_side (λ x. x) (λ x. absurd (apart E r c hr b hb p.0 x))) p
