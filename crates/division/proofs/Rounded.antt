-- The answer that the definition gives for an exact magnitude is that magnitude rounded once, with the specification's overflow value, sign and flags: shown once for every scale.
use Rattle.laws.proofs.Basics.{◌≡◌, refl, sym, ap, ap₂, ◌∙◌, Bool, false, cond, ◌&&◌, ⊎_elim, ℕ, min, ◌+◌, ◌-◌, ◌*◌, ◌/◌, ◌%◌, ◌^◌, ◌≤◌, ◌<◌, arith, ltb, eqb, le-leb, eq-eqb, ne_eqb, lt-ltb, le-ltb}
use Rattle.laws.proofs.Division.{le_or_lt}
use Rattle.std.proofs.Common.{le_trans, lt_of_lt_of_le}
use Rattle.division.proofs.Binary64Names.{mode_of, IsExponent, Rounded, rounded_to, tail_at, rounded_result, largest, units_at, rounded_units, rounded_at, finite_rounded, Mode, Nearest, Toward, Away}
use Rattle.division.proofs.{Nearest.{mono, place, rounds, whole_units, halves}, RoundedResults.{rounded_near, result_means}}
use Rattle.division.proofs.Scales.{Increasing, greatest_meets, greatest_one, order, beside, further, largest_meets, exponent_one, units_high, units_low}

exact_none : (mode : Mode) (k : ℕ) → rounded_to mode k 0 ≡ k
exact_none mode k = elim mode as (λ m. rounded_to m k 0 ≡ k) [ Nearest ↦ refl | Toward ↦ refl | Away ↦ refl ]

-- nothing left: the rounded multiple is exact, and only then
module _ (f : ℕ → ℕ) (up : (i j : ℕ) → i < j → f i < f j) (m k : ℕ) (low : f (2 * k) ≤ m) (high : m < f (2 * k + 2)) where
  exact_test : (mode : Mode) → eqb (tail_at f m k) 0 ≡ eqb (f (2 * rounded_to mode k (tail_at f m k))) m
  exact_test mode = place f up m k low high (λ r. eqb r 0 ≡ eqb (f (2 * rounded_to mode k r)) m)
      (λ e. rw (exact_none mode k, eq-eqb _ _ (sym e)))
      (λ g l. some 1 g)
      (λ e. some 2 (omega (arith, up (2 * k) (2 * k + 1) (omega arith))))
      (λ g. some 3 (omega (arith, up (2 * k) (2 * k + 1) (omega arith))))
    where
      some : (r : ℕ) → f (2 * k) < m → false ≡ eqb (f (2 * rounded_to mode k r)) m
      some r g =
          let n = rounded_near mode k r in
          let x = rounded_to mode k r in
          sym (ne_eqb _ _ (λ (e : f (2 * x) ≡ m). ⊎_elim
          (λ (w : x ≤ k). omega (arith, mono f up (2 * x) (2 * k) (omega arith)))
          (λ (w : k < x). omega (arith, mono f up (2 * k + 2) (2 * x) (omega arith)))
          (le_or_lt x k)))

module _ (scale : ℕ → ℕ → ℕ) (inc : Increasing scale) (m : ℕ) where
  module _ (e k : ℕ) (is : IsExponent scale m e) (low : scale e (2 * k) ≤ m) (high : m < scale e (2 * k + 2)) where
    -- below the least normal number: at exponent 0 with fewer than 2^52 units
    tiny : (eqb e 0 && ltb k (2 ^ 52)) ≡ ltb m (scale 0 (2 ^ 53))
    tiny = ⊎_elim
        (λ (g : 0 < e). rw (ne_eqb e 0 (omega arith), le-ltb m (scale 0 (2 ^ 53)) (omega (arith, order scale inc 0 (2 ^ 53) (2 ^ 54) (omega arith), beside scale inc 0 e g, is.reached g))))
        (λ (g : e < 1).
        let z : e ≡ 0 = omega arith in
        rw z (⊎_elim
        (λ (t : 2 ^ 52 ≤ k). rw (le-ltb k (2 ^ 52) t, le-ltb m (scale 0 (2 ^ 53)) (le_trans (order scale inc 0 (2 ^ 53) (2 * k) (omega arith)) (rw z at low))))
        (λ (t : k < 2 ^ 52). rw (lt-ltb k (2 ^ 52) t, lt-ltb m (scale 0 (2 ^ 53)) (lt_of_lt_of_le (rw z at high) (order scale inc 0 (2 * k + 2) (2 ^ 53) (omega arith)))))
        (le_or_lt (2 ^ 52) k)))
        (le_or_lt 1 e)

    -- k whole units and the tail beyond them, rounded and packed
    pub result_rounds : (mode : Mode) (s : Bool) → Rounded mode s scale m (rounded_result mode s e k (tail_at (scale e) m k))
    result_rounds mode s =
        let tail = tail_at (scale e) m k in
        let means = result_means mode s e k tail (units_high scale inc m e k is low high) (units_low scale inc m e k is low high) in
        record {
          e = e;
          K = rounded_to mode k tail;
          exponent = is;
          rounded = rounds (scale e) (inc.up e) m k low high mode;
          over = λ h. rw (le-leb _ _ h) refl;
          word = λ h. (means h).3;
          value = λ h. (means h).0;
          sign = λ h. (means h).1;
          finite = λ h. (means h).2;
          flags = λ h. (means h).4 ∙ ap₂ (λ (y z : Bool). cond y 0 (cond z 3 1)) (exact_test (scale e) (inc.up e) m k low high mode) tiny;
        }

  -- the whole units that the definition finds
  units_meet : (e : ℕ) → IsExponent scale m e → (scale e (2 * units_at (scale e) m) ≤ m) × (m < scale e (2 * (units_at (scale e) m + 1)))
  units_meet e is = greatest_meets (λ j. scale e (2 * j)) (λ i j h. inc.up e (2 * i) (2 * j) (omega arith)) m 53 0 (omega (arith, inc.none e)) is.beyond

  opened : (direction : ℕ) (s : Bool) → finite_rounded direction s scale m ≡ rounded_at (mode_of direction s) s scale m (largest 3119 scale m)
  unfolding finite_rounded
  opened direction s = refl

  -- the definition's answer has the meaning
  -- § 12.3 Rounding has one answer, for quotient and root together.
  pub finite_rounded_law : (direction : ℕ) (s : Bool) → m < scale 3119 (2 ^ 54) → Rounded (mode_of direction s) s scale m (finite_rounded direction s scale m)
  finite_rounded_law direction s h =
      let e = largest 3119 scale m in
      let is = largest_meets scale inc m 3119 h in
      let u = units_meet e is in
      let k = units_at (scale e) m in
      rw (opened direction s) (result_rounds e k is u.0 (lt_of_lt_of_le u.1 (order scale inc e (2 * (k + 1)) (2 * k + 2) (omega arith))) (mode_of direction s) s)

  -- any e and h in range, h the whole half units of 2^(e - 1074), and v as code has it, h with a sticky bit below, give the definition's answer
  pub finite_is : (direction : ℕ) (s : Bool) (e h v : ℕ) → e ≤ 3119 → scale e h ≤ m → m < scale e (h + 1) → 2 ^ 53 * min 1 e ≤ h → h < 2 ^ 54 → v ≡ 2 * h + min 1 (m - scale e h)
      → finite_rounded direction s scale m ≡ rounded_result (mode_of direction s) s e (v / 4) (v % 4)
  finite_is direction s e h v l low high least most q =
      let mode = mode_of direction s in
      let beyond : m < scale e (2 ^ 54) = lt_of_lt_of_le high (order scale inc e (h + 1) (2 ^ 54) (omega arith)) in
      let is : IsExponent scale m e = record { reached = λ p. le_trans (order scale inc e (2 ^ 53) h (omega arith)) low; beyond = beyond } in
      let E = exponent_one scale inc m (largest 3119 scale m) e (largest_meets scale inc m 3119 (lt_of_lt_of_le beyond (further scale inc e 3119 l))) is in
      let w = whole_units (scale e) (inc.up e) m h low high in
      let u = units_meet e is in
      let i : m < scale e (2 * (h / 2 + 1)) = lt_of_lt_of_le w.1 (order scale inc e (2 * (h / 2) + 2) (2 * (h / 2 + 1)) (omega arith)) in
      let k = greatest_one (λ j. scale e (2 * j)) (λ i j h. inc.up e (2 * i) (2 * j) (omega arith)) m (units_at (scale e) m) (h / 2) u.0 u.1 w.0 i in
      let r = halves (scale e) (inc.up e) m h low high in
      let k4 : h / 2 ≡ v / 4 = omega arith in
      let r4 : 2 * (h % 2) + min 1 (m - scale e h) ≡ v % 4 = omega arith in
      opened direction s ∙ ap (rounded_at mode s scale m) E ∙ ap (rounded_units mode s (scale e) m e) k ∙ ap₂ (rounded_result mode s e) k4 (r ∙ r4)
