-- The root's pattern by the logic's own account: down, up and nearest, among all values of the format; and the flag where it is not exact.
use Rattle.laws.proofs.Basics.{◌≡◌, refl, sym, ap, subst, ◌∙◌, Bool, true, false, ◌↔◌, ◌⊎◌, inl, inr, ⊎_elim, ℕ, zero, suc, ◌+◌, ◌-◌, ◌*◌, ◌%◌, ◌^◌, ◌≤◌, ◌<◌, zero-le, arith, lit<, T, ltb, lt-leb}
use Rattle.laws.proofs.Basics.{eqb-true, eq-eqb}
use Rattle.laws.proofs.{Comparisons.{not_below, not_most}, Division.{le_or_lt}, Powers.{four_pow}}
use native.Mathlib.Nat.{eq-zero-or-pos, eq-or-lt_of_le, eq_of_mul-eq-mul_right, le_of_eq, le_of_lt, le_trans, lt_of_le_of_lt, le_antisymm, not-le_of_lt, mul-pos, mul-le-mul, mul-le-mul_left}
use native.Mathlib.Nat.{mul-le-mul_right, mul-lt-mul_of_pos_right, lt_of_mul-lt-mul_right}
use lib.{Pow.{pow_pos, pow-add}, Ieee.{Float, nan, inf, fin, up, down, of_bits, le}, Ieee.Scale.{finite}, Ieee.Positive.{num, den, den_pos, first_pos}}
use Rattle.division.specs.{declared.format.Binary64Result.{Binary64Result}, declared.rounding.Mode.{Mode}, declared.rounding.Mode.TheVariants.{Nearest}}
use Rattle.division.specs.Format.{negative, field, magnitude, FiniteNonzero, sign_bit}
use Rattle.division.specs.{Rounded.{Rounded}, Roots.{root_scale, root_place, RoundedRoot, IeeeRoot, RootPlain}}
use Rattle.division.proofs.{Roots.{root_increasing, squares}, RootReading.{root_exact}, IeeeRoots.{ieee_root, root_plain}, AdmittedAnswers.{root_answer}, RoundedOne.{pattern_one}}
use Rattle.ieee.specs.{LanguageQuotient.{value_of}, Directions.{sign_in}}
use Rattle.ieee.specs.RootDirections.{AtMostRoot, AtLeastRoot, IsRoot, LessThan, both_over, both_under, MiddleBelowRoot, MiddleAboveRoot, RootDown, RootUp, RootNearest, RootIn, DirectedRoot}
use Rattle.ieee.specs.RootDirections.{PinnedRoot}
use Rattle.ieee.specs.computed.RootPinned.{RootsOfTwoAndThree, RootPinned}
use Rattle.ieee.proofs.LanguageOrder.{SignedLe, signed_at_most, at_most_signed, rescaled}
use Rattle.ieee.proofs.Operands.{digits, top_below, magnitude_top, Is, Seen, seen, seen_some, finite_stands, finite_value, own_rounded, own_kept}
use Rattle.ieee.proofs.{AnswerUnits.{is_le, is_sign, infinity_before, answered, rounded_stands, rounded_word, units_mono, units_wide, doubled}, InexactFlag.{no_flag}, DirectedOne.{level_one}}
use Rattle.ieee.proofs.{OperandKinds.{infinite_class, zero_class, nonzero_class, sign_seen_of, sign_read, measured}, Signalling.{is_class}}

squared : (e : ℕ) → 4 ^ e ≡ 2 ^ e * 2 ^ e
squared e = four_pow e ∙ pow-add 2 e e

-- ---- a value's square against an operand, in units: v units of 1 / c are x / d, and M units are u / g
square_is : (x d v c g : ℕ) → x * c ≡ v * d → x * x * g * (c * c) ≡ v * v * (d * d * g)
square_is x d v c g p = omega (arith, ap (λ (k : ℕ). k * (x * c * g)) p, ap (λ (k : ℕ). k * (v * d * g)) p)

place_is : (u g M c d : ℕ) → u * c ≡ M * g → u * (d * d) * (c * c) ≡ M * c * (d * d * g)
place_is u g M c d p = omega (arith, ap (λ (k : ℕ). k * (d * d * c)) p)

-- the middle of two values
both_are : (x d y f v W c : ℕ) → x * c ≡ v * d → y * c ≡ W * f → (x * f + y * d) * c ≡ (v + W) * (d * f)
both_are x d y f v W c p q = omega (arith, ap (λ (k : ℕ). k * f) p, ap (λ (k : ℕ). k * d) q)

-- a number of units below another
less_units : (x d y f v W c : ℕ) → 0 < c → x * c ≡ v * d → y * c ≡ W * f → y * d < x * f → W < v
less_units x d y f v W c h p q l = lt_of_mul-lt-mul_right (d * f) (omega (arith, mul-lt-mul_of_pos_right l h, ap (λ (k : ℕ). k * f) p, ap (λ (k : ℕ). k * d) q))

same_units : (x d y f v W c : ℕ) → 0 < d * f → x * c ≡ v * d → y * c ≡ W * f → x * f ≡ y * d → v ≡ W
same_units x d y f v W c h p q l = eq_of_mul-eq-mul_right (d * f) h v W (omega (arith, ap (λ (k : ℕ). k * c) l, ap (λ (k : ℕ). k * f) p, ap (λ (k : ℕ). k * d) q))

-- Z units, taken twice, are S / t: their square against four times the operand
middle_below : (S t Z u g M c : ℕ) → 0 < t * t * g → S * c ≡ Z * t → u * c ≡ M * g → Z * Z < 4 * (M * c) → S * S * g < 4 * (u * (t * t))
middle_below S t Z u g M c h p q l = lt_of_mul-lt-mul_right (c * c) (omega (arith, square_is S t Z c g p, place_is u g M c t q, mul-lt-mul_of_pos_right l h))

middle_above : (S t Z u g M c : ℕ) → 0 < t * t * g → S * c ≡ Z * t → u * c ≡ M * g → 4 * (M * c) < Z * Z → 4 * (u * (t * t)) < S * S * g
middle_above S t Z u g M c h p q l = lt_of_mul-lt-mul_right (c * c) (omega (arith, square_is S t Z c g p, place_is u g M c t q, mul-lt-mul_of_pos_right l h))

-- ---- a finite value against the root of the pattern a
module _ (a : ℕ) (sa : Seen a) (t : Bool) (v : ℕ) where
  spread : (d : ℕ) → 0 < d → 0 < d * d * den (value_of a)
  spread d h = mul-pos (mul-pos h h) (den_pos (value_of a))

  at_most : (x : Float) → Is x t v → T (finite x) → AtMostRoot x (value_of a) ↔ SignedLe t (v * v) false (magnitude a * 2 ^ 1074)
  at_most nan w g = absurd w
  at_most (inf s) w g = absurd g
  at_most (fin s m e) w g =
      let i = square_is (m * up e) (down e) v (2 ^ 1074) (den (value_of a)) w.1 in
      let j = place_is (num (value_of a)) (den (value_of a)) (magnitude a) (2 ^ 1074) (down e) (measured a sa) in
      rw w.0 (
        λ h. rescaled t false _ _ (v * v) (magnitude a * 2 ^ 1074) (2 ^ 1074 * 2 ^ 1074) _ (spread (down e) (den_pos (fin s m e))) i j (at_most_signed t _ false _ h),
        λ h. signed_at_most t _ false _ (rescaled t false (v * v) (magnitude a * 2 ^ 1074) _ _ _ (2 ^ 1074 * 2 ^ 1074) (mul-pos (pow_pos 1074) (pow_pos 1074)) (sym i) (sym j) h),
      )

  at_least : (x : Float) → Is x t v → T (finite x) → AtLeastRoot x (value_of a) ↔ SignedLe false (magnitude a * 2 ^ 1074) t (v * v)
  at_least nan w g = absurd w
  at_least (inf s) w g = absurd g
  at_least (fin s m e) w g =
      let i = square_is (m * up e) (down e) v (2 ^ 1074) (den (value_of a)) w.1 in
      let j = place_is (num (value_of a)) (den (value_of a)) (magnitude a) (2 ^ 1074) (down e) (measured a sa) in
      rw w.0 (
        λ h. rescaled false t _ _ (magnitude a * 2 ^ 1074) (v * v) (2 ^ 1074 * 2 ^ 1074) _ (spread (down e) (den_pos (fin s m e))) j i (at_most_signed false _ t _ h),
        λ h. signed_at_most false _ t _ (rescaled false t (magnitude a * 2 ^ 1074) (v * v) _ _ _ (2 ^ 1074 * 2 ^ 1074) (mul-pos (pow_pos 1074) (pow_pos 1074)) (sym j) (sym i) h),
      )

-- ---- the nearest, over units: p is the power of the exponent, K units of it lie at K·p
under_next : (j p W m : ℕ) → W ≤ j * p → (2 * j + 1) * (2 * j + 1) * (p * p) ≤ m → ((2 * j + 1) * (2 * j + 1) * (p * p) ≡ m → ⊥) → (W + (j + 1) * p) * (W + (j + 1) * p) < m
under_next j p W m h l n =
    let s : W + (j + 1) * p ≤ (2 * j + 1) * p = omega arith in
    let q = mul-le-mul s s in
    ⊎_elim (λ e. absurd (n e)) (λ (g : (2 * j + 1) * (2 * j + 1) * (p * p) < m). omega arith) (eq-or-lt_of_le l)

over_next : (K p W m : ℕ) → (K + 1) * p ≤ W → m ≤ (2 * K + 1) * (2 * K + 1) * (p * p) → ((2 * K + 1) * (2 * K + 1) * (p * p) ≡ m → ⊥) → m < (K * p + W) * (K * p + W)
over_next K p W m h l n =
    let s : (2 * K + 1) * p ≤ K * p + W = omega arith in
    let q = mul-le-mul s s in
    ⊎_elim (λ e. absurd (n (sym e))) (λ (g : m < (2 * K + 1) * (2 * K + 1) * (p * p)). omega arith) (eq-or-lt_of_le l)

-- at the lowest of an exponent's units the next value below is half as far
under_lowest : (p W m : ℕ) → W < 2 ^ 52 * p → 2 ^ 53 * 2 ^ 53 * (p * p) ≤ m → (W + 2 ^ 52 * p) * (W + 2 ^ 52 * p) < m
under_lowest p W m h l = let q = squares (W + 2 ^ 52 * p) (2 ^ 53 * p) (omega arith) in omega arith

-- a multiple below, and above, is a whole unit away
unit_below : (k K p : ℕ) → k * p < (K + 1) * p → k * p ≤ K * p
unit_below k K p h = let g : k ≤ K = not_below (λ l. not-le_of_lt h (mul-le-mul_right p (omega arith))) in mul-le-mul_right p g

unit_above : (k K p : ℕ) → K * p < k * p → (K + 1) * p ≤ k * p
unit_above k K p h = let g : K + 1 ≤ k = not_below (λ l. not-le_of_lt h (mul-le-mul_right p (omega arith))) in mul-le-mul_right p g

module _ (a : ℕ) (ha : FiniteNonzero a) {mode : Mode} {x : Binary64Result} (u : Rounded mode false root_scale (root_place (magnitude a)) x) (plain : RootPlain a x) where
  abbrev v : ℕ
  v = u.K * 2 ^ u.e

  abbrev X : Float
  X = value_of x.pattern

  abbrev place : ℕ
  place = magnitude a * 2 ^ 1074

  small : v < 2 ^ 2098
  small = not_most (λ g. let f : x.flags ≡ 5 = ap (λ (y : Binary64Result). y.flags) (u.over g) in omega (arith, f, plain.flags))

  kept : answered mode v ≡ v
  kept = rw (lt-leb _ _ small) refl

  stands : Is X false v
  stands = subst (λ (n : ℕ). Is X false n) kept (rounded_stands u)

  own : T (finite X)
  own = finite_value x.pattern (u.finite small)

  -- a value of the format on one side of the root stays there
  module _ (q : ℕ) (f : field q < 2047) where
    abbrev own_root : Rounded mode false root_scale (4 * (magnitude q * magnitude q)) (record { pattern = sign_bit false + q % 2 ^ 63; flags = 0 })
    own_root = own_rounded mode false root_scale root_increasing (4 * (magnitude q * magnitude q)) q f (let n = digits q in rw (n.is, squared n.f) (omega arith))

    itself : answered mode (own_root.K * 2 ^ own_root.e) ≡ magnitude q
    itself = rw (own_kept mode false root_scale root_increasing (4 * (magnitude q * magnitude q)) q f _, lt-leb (2 ^ 2098) (magnitude q) (lt_of_le_of_lt (magnitude_top q f) top_below)) refl

    no_less : magnitude q * magnitude q ≤ place → magnitude q ≤ v
    no_less g = rw (itself, kept) at (units_mono root_scale root_increasing _ _ (mul-le-mul_left 4 g) own_root u)

    no_more : place ≤ magnitude q * magnitude q → v ≤ magnitude q
    no_more g = rw (itself, kept) at (units_mono root_scale root_increasing _ _ (mul-le-mul_left 4 g) u own_root)

  -- ---- in each direction
  module _ (sa : Seen a) (pos : 0 < magnitude a) where
    side_down : (t : Bool) (q : ℕ) → field q < 2047 → SignedLe t (magnitude q * magnitude q) false place → SignedLe t (magnitude q) false v
    side_down true q f h = zero-le
    side_down false q f h = no_less q f h

    side_up : (t : Bool) (q : ℕ) → field q < 2047 → SignedLe false place t (magnitude q * magnitude q) → SignedLe false v t (magnitude q)
    side_up true q f h = absurd (none place (magnitude q * magnitude q) (mul-pos pos (pow_pos 1074)) h)
      where
        none : (m n : ℕ) → 0 < m → m + n ≤ 0 → ⊥
        none m n g k = omega arith
    side_up false q f h = no_more q f h

    downward : v * v ≤ place → RootDown a x.pattern
    downward h = record { under = (at_most a sa false v X stands own).1 h; greatest = λ q y. go q (value_of q) refl y }
      where
        go : (q : ℕ) (Q : Float) → value_of q ≡ Q → AtMostRoot (value_of q) (value_of a) → T (le (value_of q) X)
        go q nan e y = absurd (rw e at y)
        go q (inf s) e y = rw e (infinity_before false s false _ X stands (rw e at y))
        go q (fin t m d) e y =
            let g : T (finite (value_of q)) = rw e tt in
            let f = (seen q g).below in
            let i = finite_stands q f in
            is_le (value_of q) X (negative q) false (magnitude q) v i stands (side_down (negative q) q f ((at_most a sa (negative q) (magnitude q) (value_of q) i g).0 y))

    upward : place ≤ v * v → RootUp a x.pattern
    upward h = record { over = (at_least a sa false v X stands own).1 h; least = λ q y. go q (value_of q) refl y }
      where
        go : (q : ℕ) (Q : Float) → value_of q ≡ Q → AtLeastRoot (value_of q) (value_of a) → T (le X (value_of q))
        go q nan e y = absurd (rw e at y)
        go q (inf true) e y = absurd (rw e at y)
        go q (inf false) e y = rw e (infinity_before true false false _ X stands tt)
        go q (fin t m d) e y =
            let g : T (finite (value_of q)) = rw e tt in
            let f = (seen q g).below in
            let i = finite_stands q f in
            is_le X (value_of q) false (negative q) v (magnitude q) stands i (side_up (negative q) q f ((at_least a sa (negative q) (magnitude q) (value_of q) i g).0 y))

    -- exactly the root
    exact : IsRoot X (value_of a) ↔ (v * v ≡ place)
    exact =
        let i = at_most a sa false v X stands own in
        let j = at_least a sa false v X stands own in
        (λ h. le_antisymm (i.0 h.0) (j.0 h.1), λ e. (i.1 (le_of_eq e), j.1 (le_of_eq (sym e))))

-- ---- the nearest
module _ (a : ℕ) {x : Binary64Result} (ha : FiniteNonzero a) (u : Rounded Nearest false root_scale (root_place (magnitude a)) x) (plain : RootPlain a x) (q : ℕ) where
  abbrev n : ℕ
  n = u.K * 2 ^ u.e

  abbrev w : ℕ
  w = magnitude q

  -- at a coarser or the same exponent it is a multiple of the answer's unit; at a finer one it is no more than the answer's lowest
  record Multiple : Type 0 where
    times : ℕ
    is : w ≡ times * 2 ^ u.e

  multiple_or_low : Multiple ⊎ ((0 < u.e) × (w < 2 ^ 52 * 2 ^ u.e))
  multiple_or_low =
      let d = digits q in
      ⊎_elim
      (λ (h : u.e ≤ d.f).
      let p : 2 ^ d.f ≡ 2 ^ (d.f - u.e) * 2 ^ u.e = ap (λ (k : ℕ). 2 ^ k) (omega arith) ∙ pow-add 2 (d.f - u.e) u.e in
      inl (record { times = d.k * 2 ^ (d.f - u.e); is = d.is ∙ ap (λ (k : ℕ). d.k * k) p ∙ omega arith }))
      (λ (h : d.f < u.e). inr (omega arith, rw d.is (finer d.k (2 ^ d.f) (2 ^ u.e) (pow_pos d.f) d.high (doubled h))))
      (le_or_lt u.e d.f)
    where
      finer : (k r p : ℕ) → 0 < r → k < 2 ^ 53 → r * 2 ≤ p → k * r < 2 ^ 52 * p
      finer k r p g h l = omega (arith, mul-lt-mul_of_pos_right h g)

  wide : 0 < u.e → 2 ^ 52 ≤ u.K
  wide = units_wide u root_increasing

  odd : (j : ℕ) → (2 * j + 1) * (2 * j + 1) * (2 ^ u.e * 2 ^ u.e) ≡ root_place (magnitude a) → ⊥
  odd j e = plain.no_tie u.e j u.exponent (ap (λ (k : ℕ). (2 * j + 1) * (2 * j + 1) * k) (squared u.e) ∙ e)

  -- of K = j + 1 units
  lower_than : (j : ℕ) → u.K ≡ j + 1 → w ≤ j * 2 ^ u.e → (w + n) * (w + n) < root_place (magnitude a)
  lower_than j e h =
      let i : 2 * u.K - 1 ≡ 2 * j + 1 = omega arith in
      let l = rw (i, squared u.e) at (u.rounded.above (omega arith)) in
      rw e (under_next j (2 ^ u.e) w (root_place (magnitude a)) h l (odd j))

  lower_units : w < n → (w + n) * (w + n) < root_place (magnitude a)
  lower_units h =
      let some : 0 < u.K = first_pos u.K (2 ^ u.e) (lt_of_le_of_lt zero-le h) in
      let j = u.K - 1 in
      let e : u.K ≡ j + 1 = omega arith in
      ⊎_elim
      (λ (t : Multiple). lower_than j e (rw t.is (unit_below t.times j (2 ^ u.e) (rw (t.is, e) at h))))
      (λ z. ⊎_elim
      (λ (k : 2 ^ 52 ≡ u.K).
      let r = rw (squared u.e) at (u.exponent.reached z.0) in
      rw (← k) (under_lowest (2 ^ u.e) w (root_place (magnitude a)) z.1 r))
      (λ (k : 2 ^ 52 < u.K). lower_than j e (le_trans (le_of_lt z.1) (mul-le-mul_right (2 ^ u.e) (omega arith))))
      (eq-or-lt_of_le (wide z.0)))
      multiple_or_low

  upper_units : n < w → root_place (magnitude a) < (n + w) * (n + w)
  upper_units h = ⊎_elim
      (λ (t : Multiple). over_next u.K (2 ^ u.e) w (root_place (magnitude a)) (rw t.is (unit_above t.times u.K (2 ^ u.e) (rw t.is at h))) (rw (squared u.e) at u.rounded.below) (odd u.K))
      (λ z. absurd (not-le_of_lt h (le_trans (le_of_lt z.1) (mul-le-mul_right (2 ^ u.e) (wide z.0)))))
      multiple_or_low

-- p is the answer, with n units, and q another value, with w
module _ (a p q : ℕ) (sa : Seen a) (sp : Seen p) (sq : Seen q) where
  abbrev c : ℕ
  c = 2 ^ 1074

  wide_under : 0 < both_under (value_of p) (value_of q) * both_under (value_of p) (value_of q) * den (value_of a)
  wide_under = let h = mul-pos (den_pos (value_of p)) (den_pos (value_of q)) in mul-pos (mul-pos h h) (den_pos (value_of a))

  sums : both_over (value_of p) (value_of q) * c ≡ (magnitude p + magnitude q) * both_under (value_of p) (value_of q)
  sums = both_are (num (value_of p)) (den (value_of p)) (num (value_of q)) (den (value_of q)) (magnitude p) (magnitude q) c (measured p sp) (measured q sq)

  less : LessThan (value_of p) (value_of q) → magnitude p < magnitude q
  less h = less_units (num (value_of q)) (den (value_of q)) (num (value_of p)) (den (value_of p)) (magnitude q) (magnitude p) c (pow_pos 1074) (measured q sq) (measured p sp) h

  middle_low : (magnitude p + magnitude q) * (magnitude p + magnitude q) < root_place (magnitude a) → MiddleBelowRoot (value_of p) (value_of q) (value_of a)
  middle_low h = middle_below (both_over (value_of p) (value_of q)) (both_under (value_of p) (value_of q)) (magnitude p + magnitude q) (num (value_of a)) (den (value_of a)) (magnitude a) c wide_under sums (measured a sa) h

  middle_high : root_place (magnitude a) < (magnitude p + magnitude q) * (magnitude p + magnitude q) → MiddleAboveRoot (value_of p) (value_of q) (value_of a)
  middle_high h = middle_above (both_over (value_of p) (value_of q)) (both_under (value_of p) (value_of q)) (magnitude p + magnitude q) (num (value_of a)) (den (value_of a)) (magnitude a) c wide_under sums (measured a sa) h

nearest : (a : ℕ) {x : Binary64Result} → Seen a → FiniteNonzero a → (u : Rounded Nearest false root_scale (root_place (magnitude a)) x) → RootPlain a x → RootNearest a x.pattern
nearest a {x} sa ha u plain =
    let p = x.pattern in
    let g = small a ha u plain in
    let f = own a ha u plain in
    let sp = seen p f in
    let m : magnitude p ≡ u.K * 2 ^ u.e = u.value g in
    record {
      number = f;
      lower = λ q h s l. let sq = seen q h in middle_low a q p sa sq sp (rw m (lower_units a ha u plain q (rw m at (less a q p sa sq sp l))));
      upper = λ q h s l. let sq = seen q h in middle_high a p q sa sp sq (rw m (upper_units a ha u plain q (rw m at (less a p q sa sp sq l))));
    }

-- ---- all directions
squares_under : (K p m : ℕ) → 2 * K * (2 * K) * (p * p) ≤ 4 * m → K * p * (K * p) ≤ m
squares_under K p m h = omega arith

squares_over : (K p m : ℕ) → 4 * m ≤ 2 * K * (2 * K) * (p * p) → m ≤ K * p * (K * p)
squares_over K p m h = omega arith

rounded_in : (direction a : ℕ) {x : Binary64Result} → direction ≤ 3 → Seen a → 0 < magnitude a → FiniteNonzero a → RoundedRoot direction (magnitude a) x → RootPlain a x → RootIn direction a x.pattern
rounded_in zero a l sa pos ha u plain = nearest a sa ha u plain
rounded_in (suc zero) a l sa pos ha u plain = downward a ha u plain sa pos (squares_under u.K (2 ^ u.e) _ (rw (squared u.e) at u.rounded.under))
rounded_in (suc (suc zero)) a l sa pos ha u plain = upward a ha u plain sa pos (squares_over u.K (2 ^ u.e) _ (rw (squared u.e) at u.rounded.over))
rounded_in (suc (suc (suc zero))) a l sa pos ha u plain = downward a ha u plain sa pos (squares_under u.K (2 ^ u.e) _ (rw (squared u.e) at u.rounded.under))
rounded_in (suc (suc (suc (suc d)))) a l sa pos ha u plain = absurd (omega arith)

pattern_of : {x y : Binary64Result} → x ≡ y → x.pattern ≡ y.pattern
pattern_of e = ap (λ (z : Binary64Result). z.pattern) e

pinned_root : (direction a : ℕ) {x : Binary64Result} → direction ≤ 3 → IeeeRoot direction a x → PinnedRoot direction a x.pattern
pinned_root direction a {x} l i = record {
  not_a_number = λ e. pattern_of (i.nan (is_class a e));
  minus_infinity = λ e. let k = infinite_class a true e in pattern_of (i.below_zero k.1 (inr k.0));
  below_zero = λ s h. pattern_of (i.below_zero (sign_read a h ∙ s) (inl (nonzero_class a h)));
  zero = λ h z. pattern_of (i.itself (inl (zero_class a h z)));
  infinity = λ e. let k = infinite_class a false e in pattern_of (i.itself (inr (k.1, k.0)));
  directed = λ s h.
      let b = seen_some a h in
      let k = nonzero_class a h in
      let u = i.root (sign_read a h ∙ s) k in
      let plain = root_plain a k direction u in
      record { word = rounded_word u; rounded = rounded_in direction a l b.0 b.1 k u plain; sign = is_sign (value_of x.pattern) false _ (rounded_stands u) };
}

-- one pattern has what the logic's account asks
nearest_one : (a p q : ℕ) → p < 2 ^ 64 → q < 2 ^ 64 → sign_in (value_of p) ≡ false → sign_in (value_of q) ≡ false → RootNearest a p → RootNearest a q → p ≡ q
nearest_one a p q hp hq sp sq i j =
    let x = value_of p in
    let y = value_of q in
    let k = seen p i.number in
    let l = seen q j.number in
    ⊎_elim
    (λ (g : num y * den x ≤ num x * den y). ⊎_elim
    (λ (e : num y * den x ≡ num x * den y). pattern_one p q hp hq
    (same_units (num x) (den x) (num y) (den y) (magnitude p) (magnitude q) (2 ^ 1074) (mul-pos (den_pos x) (den_pos y)) (measured p k) (measured q l) (sym e))
    (sign_seen_of p k ∙ sp ∙ sym sq ∙ sym (sign_seen_of q l)))
    (λ (h : num y * den x < num x * den y). absurd (lt_asymm (i.lower q j.number sq h) (j.upper p i.number sp h)))
    (eq-or-lt_of_le g))
    (λ (h : num x * den y < num y * den x). absurd (lt_asymm (j.lower p i.number sp h) (i.upper q j.number sq h)))
    (le_or_lt (num y * den x) (num x * den y))
  where
    lt_asymm : {m n : ℕ} → m < n → n < m → ⊥
    lt_asymm h k = not-le_of_lt h (le_of_lt k)

directed_one : (direction a p q : ℕ) → DirectedRoot direction a p → DirectedRoot direction a q → p ≡ q
directed_one direction a p q u v = go direction u.rounded v.rounded
  where
    level : T (le (value_of p) (value_of q)) → T (le (value_of q) (value_of p)) → p ≡ q
    level l r = level_one p q u.word v.word l r (u.sign ∙ sym v.sign)

    go : (direction : ℕ) → RootIn direction a p → RootIn direction a q → p ≡ q
    go zero i j = nearest_one a p q u.word v.word u.sign v.sign i j
    go (suc zero) i j = level (j.greatest p i.under) (i.greatest q j.under)
    go (suc (suc zero)) i j = level (i.least q j.over) (j.least p i.over)
    go (suc (suc (suc d))) i j = level (j.greatest p i.under) (i.greatest q j.under)

pinned_one : (direction a p q : ℕ) → PinnedRoot direction a p → PinnedRoot direction a q → p ≡ q
pinned_one direction a p q u v = go (value_of a) refl
  where
    signs : 0 < num (value_of a) → (s : Bool) → sign_in (value_of a) ≡ s → p ≡ q
    signs h true e = u.below_zero e h ∙ sym (v.below_zero e h)
    signs h false e = directed_one direction a p q (u.directed e h) (v.directed e h)

    go : (A : Float) → value_of a ≡ A → p ≡ q
    go nan e = u.not_a_number e ∙ sym (v.not_a_number e)
    go (inf true) e = u.minus_infinity e ∙ sym (v.minus_infinity e)
    go (inf false) e = u.infinity e ∙ sym (v.infinity e)
    go (fin s m d) e = ⊎_elim
        (λ (z : num (value_of a) ≡ 0). let f : T (finite (value_of a)) = rw e tt in u.zero f z ∙ sym (v.zero f z))
        (λ (h : 0 < num (value_of a)). signs h (sign_in (value_of a)) refl)
        (eq-zero-or-pos (num (value_of a)))

-- no flag exactly where the root is exact
pub silent_root : (direction a : ℕ) {x : Binary64Result} → IeeeRoot direction a x → sign_in (value_of a) ≡ false → 0 < num (value_of a) → (x.flags ≡ 0) ↔ IsRoot (value_of x.pattern) (value_of a)
silent_root direction a {x} i s h =
    let b = seen_some a h in
    let k = nonzero_class a h in
    let u = i.root (sign_read a h ∙ s) k in
    let plain = root_plain a k direction u in
    let g = small a k u plain in
    let y = exact a k u plain b.0 b.1 in
    let r = root_exact (magnitude a) u.e u.K in (
      λ f. y.1 (r.0 (eqb-true _ _ (no_flag _ (ltb (root_place (magnitude a)) (root_scale 0 (2 ^ 53))) (sym (u.flags g) ∙ f)))),
      λ e. u.flags g ∙ rw (eq-eqb _ _ (r.1 (y.0 e))),
    )

two_and_three : RootsOfTwoAndThree
unfolding of_bits
two_and_three = record { under = tt; not_over = λ h. h; over = tt; not_under = λ h. h; middle = lit< tt; middle_of_three = lit< tt }

-- § 12.2 In every direction the root's pattern is that of the logic's own IEEE 754.
pub root_pinned : RootPinned
root_pinned = record {
  two_and_three = two_and_three;
  pinned = λ d a l. rw (root_answer d a l) (pinned_root d a l (ieee_root d a));
  only = λ d a p l. rw (root_answer d a l) (λ u. pinned_one d a p _ u (pinned_root d a l (ieee_root d a)));
  silent = λ d a l. rw (root_answer d a l) (silent_root d a (ieee_root d a));
}
