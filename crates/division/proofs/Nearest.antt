-- What rounding means. An exact magnitude x is given by an increasing scale f and a number m: half a unit taken j times lies at f j, and x at m.
-- A quotient n / u has f j = j * u and m = 2 * n; a root has squares. Rounding is stated and shown once, for every scale.
use Rattle.laws.proofs.{Basics.{◌≡◌, sym, ap, inl, inr, ⊎_elim, ℕ, min, ◌+◌, ◌-◌, ◌*◌, ◌/◌, ◌%◌, ◌≤◌, ◌<◌, arith, lt-ltb, le-ltb, eq-eqb, ne_eqb}, Comparisons.{not_below}, Division.{le_or_lt}}
use Rattle.std.proofs.Common.{le_of_eq, le_refl, le_of_lt, eq-zero-or-pos, eq-or-lt_of_le}
use Rattle.division.proofs.Binary64Names.{AwayFromZero, ToNearest, Rounds, rounded_to, tail_at, Mode, Nearest, Toward, Away}

module _ (f : ℕ → ℕ) (up : (i j : ℕ) → i < j → f i < f j) where
  -- order on the scale
  pub mono : (i j : ℕ) → i ≤ j → f i ≤ f j
  mono i j h = ⊎_elim (λ (e : i ≡ j). le_of_eq (ap f e)) (λ (g : i < j). le_of_lt (up i j g)) (eq-or-lt_of_le h)

  -- a greater magnitude is not rounded to a smaller number
  pub rounds_mono : (mode : Mode) (m n x y : ℕ) → m ≤ n → Rounds mode f m x → Rounds mode f n y → x ≤ y
  rounds_mono Toward m n x y h p q = not_below (λ g. omega (arith, mono (2 * y + 2) (2 * x) (omega arith), p.under, q.next))
  rounds_mono Away m n x y h p q = not_below (λ g. omega (arith, mono (2 * y) (2 * x - 2) (omega arith), q.over, p.last (omega arith)))
  rounds_mono Nearest m n x y h p q = not_below (λ (g : y < x).
      let a : f (2 * x - 1) ≤ m = p.above (omega arith) in
      let b : n ≤ f (2 * y + 1) = q.below in
      let s : 2 * x - 1 ≤ 2 * y + 1 = not_below (λ l. omega (arith, up (2 * y + 1) (2 * x - 1) l)) in
      let c : f (2 * x - 1) ≡ f (2 * y + 1) = ap f (omega arith) in
      omega (arith, p.even (inr (omega arith, omega arith)), q.even (inl (omega arith))))

  -- no two numbers round one magnitude
  pub rounds_one : (mode : Mode) (m x y : ℕ) → Rounds mode f m x → Rounds mode f m y → x ≡ y
  rounds_one mode m x y p q = omega (arith, rounds_mono mode m m x y (le_refl m) p q, rounds_mono mode m m y x (le_refl m) q p)

  -- what is exact stays
  pub rounds_exact : (mode : Mode) (x : ℕ) → Rounds mode f (f (2 * x)) x
  rounds_exact Toward x = record { under = le_refl _; next = up (2 * x) (2 * x + 2) (omega arith) }
  rounds_exact Away x = record { over = le_refl _; last = λ p. up (2 * x - 2) (2 * x) (omega arith) }
  rounds_exact Nearest x = record {
    above = λ p. le_of_lt (up (2 * x - 1) (2 * x) (omega arith));
    below = le_of_lt (up (2 * x) (2 * x + 1) (omega arith));
    even = ⊎_elim (λ e. absurd (omega (arith, up (2 * x) (2 * x + 1) (omega arith)))) (λ w. absurd (omega (arith, w.1, up (2 * x - 1) (2 * x) (omega (arith, w.0)))));
  }

  -- the rounding of k units and a tail is the rounding of the exact magnitude
  module _ (m k : ℕ) (low : f (2 * k) ≤ m) (high : m < f (2 * k + 2)) where
    -- the four places of m
    pub place : (P : ℕ → Type 0) → (m ≡ f (2 * k) → P 0) → (f (2 * k) < m → m < f (2 * k + 1) → P 1) → (m ≡ f (2 * k + 1) → P 2) → (f (2 * k + 1) < m → P 3) → P (tail_at f m k)
    place P p0 p1 p2 p3 = ⊎_elim
        (λ (e : f (2 * k) ≡ m). rw (eq-eqb m (f (2 * k)) (sym e)) (p0 (sym e)))
        (λ (g : f (2 * k) < m). rw (ne_eqb m (f (2 * k)) (omega arith)) (⊎_elim
        (λ (h : f (2 * k + 1) ≤ m). rw (le-ltb m (f (2 * k + 1)) h) (⊎_elim
        (λ (e : f (2 * k + 1) ≡ m). rw (eq-eqb m (f (2 * k + 1)) (sym e)) (p2 (sym e)))
        (λ (l : f (2 * k + 1) < m). rw (ne_eqb m (f (2 * k + 1)) (omega arith)) (p3 l))
        (eq-or-lt_of_le h)))
        (λ (h : m < f (2 * k + 1)). rw (lt-ltb m (f (2 * k + 1)) h) (p1 g h))
        (le_or_lt (f (2 * k + 1)) m)))
        (eq-or-lt_of_le low)

    stays : m ≤ f (2 * k + 1) → (m ≡ f (2 * k + 1) → k % 2 ≡ 0) → ToNearest f m k
    stays h t = record {
      above = λ p. omega (arith, mono (2 * k - 1) (2 * k) (omega arith));
      below = h;
      even = ⊎_elim t (λ w. absurd (omega (arith, up (2 * k - 1) (2 * k) (omega (arith, w.0)), w.1)));
    }

    goes : f (2 * k + 1) ≤ m → (m ≡ f (2 * k + 1) → (k + 1) % 2 ≡ 0) → ToNearest f m (k + 1)
    goes h t =
        let e : 2 * (k + 1) - 1 ≡ 2 * k + 1 = omega arith in
        let l : m < f (2 * (k + 1) + 1) = omega (arith, up (2 * k + 2) (2 * (k + 1) + 1) (omega arith)) in
        record { above = λ p. rw e h; below = le_of_lt l; even = ⊎_elim (λ w. absurd (omega arith)) (λ w. t (rw e at w.1)) }

    pub rounds : (mode : Mode) → Rounds mode f m (rounded_to mode k (tail_at f m k))
    rounds Toward = record { under = low; next = high }
    rounds Away = place (λ r. AwayFromZero f m (rounded_to Away k r))
        (λ e. record { over = le_of_eq e; last = λ p. omega (arith, up (2 * k - 2) (2 * k) (omega arith)) })
        (λ g h. stepped g)
        (λ e. stepped (omega (arith, up (2 * k) (2 * k + 1) (omega arith))))
        (λ g. stepped (omega (arith, up (2 * k) (2 * k + 1) (omega arith))))
      where
        stepped : f (2 * k) < m → AwayFromZero f m (k + 1)
        stepped g = record { over = omega (arith, mono (2 * k + 2) (2 * (k + 1)) (omega arith)); last = λ p. let e : 2 * (k + 1) - 2 ≡ 2 * k = omega arith in rw e g }
    rounds Nearest = place (λ r. ToNearest f m (rounded_to Nearest k r))
        (λ e. let g = up (2 * k) (2 * k + 1) (omega arith) in stays (omega arith) (λ t. absurd (omega arith)))
        (λ g h. stays (le_of_lt h) (λ t. absurd (omega arith)))
        (λ e. ⊎_elim
        (λ (z : k % 2 ≡ 0). let w : k + k % 2 ≡ k = omega arith in rw w (stays (le_of_eq e) (λ t. z)))
        (λ (z : 0 < k % 2). let w : k + k % 2 ≡ k + 1 = omega arith in rw w (goes (le_of_eq (sym e)) (λ t. omega arith)))
        (eq-zero-or-pos (k % 2)))
        (λ g. goes (le_of_lt g) (λ t. absurd (omega arith)))

-- h half units and a sticky bit, as code has them: the whole units are h / 2, and the tail is the lowest bit of h and the sticky bit
module _ (f : ℕ → ℕ) (up : (i j : ℕ) → i < j → f i < f j) (m h : ℕ) (low : f h ≤ m) (high : m < f (h + 1)) where
  pub whole_units : (f (2 * (h / 2)) ≤ m) × (m < f (2 * (h / 2) + 2))
  whole_units = omega (arith, mono f up (2 * (h / 2)) h (omega arith), mono f up (h + 1) (2 * (h / 2) + 2) (omega arith))

  pub halves : tail_at f m (h / 2) ≡ 2 * (h % 2) + min 1 (m - f h)
  halves =
      let at = place f up m (h / 2) whole_units.0 whole_units.1 (λ r. r ≡ 2 * (h % 2) + min 1 (m - f h)) in
      let l = up (2 * (h / 2)) (2 * (h / 2) + 1) (omega arith) in
      ⊎_elim
      (λ (z : h % 2 ≡ 0).
      let a : f h ≡ f (2 * (h / 2)) = ap f (omega arith) in
      let b : f (h + 1) ≡ f (2 * (h / 2) + 1) = ap f (omega arith) in
      at (λ e. omega arith) (λ g t. omega arith) (λ e. omega arith) (λ g. omega arith))
      (λ (z : 0 < h % 2).
      let a : f h ≡ f (2 * (h / 2) + 1) = ap f (omega arith) in
      at (λ e. omega arith) (λ g t. omega arith) (λ e. omega arith) (λ g. omega arith))
      (eq-zero-or-pos (h % 2))
