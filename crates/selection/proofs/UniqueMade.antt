-- The made byte of a cell, the made table, the limits of a row and the maker's outcome are each one.
use Rattle.laws.proofs.Basics.{◌≡◌, refl, sym, ap, ◌∙◌, not, cond, List, [], ◌∷◌, ◌++◌, ⊎_elim, ℕ, zero, suc, ◌≤◌, ◌<◌, add-one, arith, T_not, eqb, eqb_refl, ltb, length, get_or, drop, lt-ltb, le-ltb}
use Rattle.laws.proofs.{Comparisons.{not_below}, Tests.{upto_at}}
use Rattle.std.proofs.Common.{le_of_suc-le-suc, le_antisymm, eq-or-lt_of_le, ext_get_or}
use Rattle.selection.specs.{Maker.{Made, MadeTable, AreLimits}, computed.Maker.{limits_rules, make_rules, Limited, MakeOutcome, Makes}, computed.Refusals.{rank}, declared.maker.Limits.{Limits}}
use Rattle.selection.specs.declared.Estimate.{Estimate}
use Rattle.selection.proofs.Rules.{WellFormed, clear, refuses_one}

-- ---- the limits of a row

-- the bytes of a row before each limit, and past the last one 2
abbrev bytes : List ℕ
bytes = 2 ∷ 0 ∷ 1 ∷ 2 ∷ 3 ∷ 4 ∷ []

bytes_change : (i : ℕ) → i < 6 → get_or bytes i 2 ≡ get_or bytes (suc i) 2 → ⊥
bytes_change i h e =
    T_not (eqb (get_or bytes i 2) (get_or bytes (suc i) 2)) (upto_at (λ (k : ℕ). not (eqb (get_or bytes k 2) (get_or bytes (suc k) 2))) 6 tt i h) (rw e (eqb_refl (get_or bytes (suc i) 2)))

-- `step_at` for the limits f and the bytes bs
abbrev step_in : (ℕ → ℕ) → List ℕ → ℕ → ℕ
step_in f [] c = 2
step_in f (b ∷ bs) c = cond (ltb c (f 0)) b (step_in (λ j. f (suc j)) bs c)

-- past i limits and before the next stands byte i
step_is : (f : ℕ → ℕ) (bs : List ℕ) (c i : ℕ) → ((j : ℕ) → j < i → f j ≤ c) → (i < length bs → c < f i) → step_in f bs c ≡ get_or bs i 2
step_is f [] c i a b = refl
step_is f (d ∷ bs) c zero a b = rw (lt-ltb c (f 0) (b (omega arith))) refl
step_is f (d ∷ bs) c (suc i) a b = rw (le-ltb c (f 0) (a 0 (omega arith))) (step_is (λ j. f (suc j)) bs c i (λ j h. a (suc j) (omega arith)) (λ h. b (omega arith)))

pub limits_rules_law : (r : ℕ) → WellFormed (limits_rules r)
unfolding rank
limits_rules_law r = record { sound = (tt, λ _. tt); in_order = tt }

-- ---- the maker

pub make_rules_law : (len : ℕ) → WellFormed (make_rules len)
unfolding rank
make_rules_law len = record { sound = (tt, λ _. tt); in_order = tt }

module _ (E : Estimate) where
  pub byte_one : {r c a b : ℕ} → Made E r c a → Made E r c b → a ≡ b
  byte_one {a = a} {b = b} m n =
      ⊎_elim (λ e. e) (λ l. ⊎_elim (λ e. sym e) (λ k. absurd (omega arith)) (m.nearest b n.byte n.allowed)) (n.nearest a m.byte m.allowed)

  -- § 5.2 No other answer, and no other made table, fits.
  pub made_one : {s t : List ℕ} → MadeTable E s → MadeTable E t → s ≡ t
  made_one {s} {t} a b = ext_get_or 0 s t (a.size ∙ sym b.size) (λ k l. let j : k < 2048 = omega (arith, a.size) in byte_one (a.made k j) (b.made k j))

  module _ {r : ℕ} {l : List ℕ} (h : AreLimits E r l) where
    limit_next : (i : ℕ) → i < 5 → get_or l i 0 < get_or l (suc i) 0
    limit_next i g = rw add-one at (h.rises i g)

    limit_least : (i : ℕ) → i < 6 → (j : ℕ) → j ≤ i → get_or l j 0 ≤ get_or l i 0
    limit_least zero g j k = let e : j ≡ 0 = omega arith in rw e (omega arith)
    limit_least (suc i) g j k =
        ⊎_elim (λ e. rw e (omega arith)) (λ m. omega (arith, limit_least i (omega arith) j (omega arith), limit_next i (omega arith))) (eq-or-lt_of_le k)

    -- no limit comes before the other's, where the limits before them are the same
    not_before : {m : List ℕ} → AreLimits E r m → (i : ℕ) → i < 6 → ((j : ℕ) → j < i → get_or l j 0 ≡ get_or m j 0) → get_or l i 0 < get_or m i 0 → ⊥
    not_before {m} k i g e b =
        let c = get_or l i 0 in
        let small : c ≤ 127 = omega (arith, limit_least 5 (omega arith) i (omega arith), h.within) in
        bytes_change i g (
        sym (step_is (λ j. get_or m j 0) bytes c i (λ j s. omega (arith, e j s, limit_least i g j (omega arith))) (λ _. b))
        ∙ byte_one (k.steps c small) (h.steps c small)
        ∙ step_is (λ j. get_or l j 0) bytes c (suc i) (λ j s. limit_least i g j (omega arith)) (λ s. limit_next i (omega arith)))

  pub limits_one : {r : ℕ} {l m : List ℕ} → AreLimits E r l → AreLimits E r m → l ≡ m
  limits_one {r} {l} {m} h k = ext_get_or 0 l m (h.six ∙ sym k.six) (λ i g. before 6 (omega arith) i (omega (arith, h.six)))
    where
      before : (n : ℕ) → n ≤ 6 → (j : ℕ) → j < n → get_or l j 0 ≡ get_or m j 0
      before zero g j s = absurd (omega arith)
      before (suc n) g j s =
          let e = before n (omega arith) in
          ⊎_elim
          (λ q. rw q (le_antisymm (not_below (not_before k h n (omega arith) (λ j s. sym (e j s)))) (not_below (not_before h k n (omega arith) e))))
          (e j)
          (eq-or-lt_of_le (le_of_suc-le-suc s))

  -- § 5.3 A row's limits are the six columns where its made digits change.
  pub limited_one : {r : ℕ} (a b : Limits) → Limited E r a → Limited E r b → a ≡ b
  limited_one {r} a b x y =
      let l = limits_rules_law r in
      refuses_one l x.refuses y.refuses (λ e f i. record { refusal = f i; limits = limits_one (x.limits (clear l e)) (y.limits (clear l e)) i })

  -- § 5.2 No other answer, and no other made table, fits.
  pub makes_one : {s : List ℕ} (a b : MakeOutcome) → Makes E s a → Makes E s b → a ≡ b
  makes_one {s} a b x y =
      let l = make_rules_law (length s) in
      refuses_one l x.refuses y.refuses (λ e f.
      let k = x.makes (clear l e) in
      let m = y.makes (clear l e) in
      let t = k.2 ∙ ap (λ (m : List ℕ). m ++ drop 2048 s) (made_one k.1 m.1) ∙ sym m.2 in
      λ i. record { answer = f i; buffer = t i })
