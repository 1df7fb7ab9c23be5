-- The made digits and their limits, at all cells by one test that antt computes.
use Rattle.laws.proofs.Basics.{◌≡◌, refl, Bool, true, cond, List, ◌||◌, inl, inr, ⊎_elim, ℕ, ◌+◌, ◌≤◌, ◌<◌, arith, T, ltb, leb, eqb, eqb→eq, ltb→lt, leb→le, get_or}
use Rattle.laws.proofs.Tests.{both, both_left, both_right, upto, upto_at, is_true}
use mir.Facts.{or_yes}
use Rattle.selection.proofs.{DigitBytes.{up_to_four}, BiasedPoints.{not_allowed}, Allowed.{tells, allows_decides}, Search.{span_least, span_most}}
use Rattle.selection.specs.{Maker.{Made, AreLimits, distance, step_at}, computed.Allowed.{allows_of}, computed.Outcomes.{made_of, limits_of}, declared.Estimate.{Estimate}}
use Rattle.selection.specs.declared.Estimate.TheVariants.{SevenBits, EightBits}

-- if the digit of byte a is allowed, it is m, or is farther from zero than m
abbrev farther : Bool → ℕ → ℕ → Bool
farther allowed m a = cond allowed (eqb a m || ltb (distance m) (distance a)) true

-- the made byte is a digit's that is allowed, and the nearest to zero; and the limits of its row give it
nearest : Estimate → ℕ → ℕ → Bool
nearest E r c = let m = made_of E r c in both (leb m 4) (both (eqb (step_at (limits_of E r) c) m) (both (allows_of E r c m) (upto (λ a. farther (allows_of E r c a) m a) 5)))

all_nearest : (E : Estimate) → T (upto (λ r. upto (nearest E r) 128) 16)
unfolding nearest limits_of made_of allows_of
all_nearest SevenBits = tt
all_nearest EightBits = tt

module _ (E : Estimate) where
  is_nearest : (r c : ℕ) → r ≤ 15 → c ≤ 127 → T (nearest E r c)
  is_nearest r c hr hc = upto_at (nearest E r) 128 (upto_at (λ (k : ℕ). upto (nearest E k) 128) 16 (all_nearest E) r (omega arith)) c (omega arith)

  -- § 5.1 The made digit is the allowed one nearest zero.
  pub made_right : (r c : ℕ) → r ≤ 15 → c ≤ 127 → Made E r c (made_of E r c)
  unfolding nearest
  made_right r c hr hc =
      let m = made_of E r c in
      let t = is_nearest r c hr hc in
      let u = both_right (eqb (step_at (limits_of E r) c) m) _ (both_right (leb m 4) _ t) in
      let byte = leb→le m 4 (both_left (leb m 4) _ t) in
      record {
        byte = byte;
        allowed = (allows_decides E (record { row = hr; column = hc; byte = byte })).yes (is_true (allows_of E r c m) (both_left (allows_of E r c m) _ u));
        nearest = λ a h w.
            let f = upto_at (λ (a : ℕ). farther (allows_of E r c a) m a) 5 (both_right (allows_of E r c m) _ u) a (omega arith) in
            ⊎_elim
            (λ y. ⊎_elim (λ e. inl (eqb→eq a m e)) (λ l. inr (ltb→lt _ _ l)) (or_yes (eqb a m) _ (rw y.0 at f)))
            (λ n. absurd (not_allowed E n.3 w))
            (tells E (record { row = hr; column = hc; byte = h }));
      }

  -- § 5.3 A row's limits are the six columns where its made digits change.
  pub limits_right : (r : ℕ) → r ≤ 15 → AreLimits E r (limits_of E r)
  unfolding nearest limits_of
  limits_right r hr =
      let least = span_least E in
      let most = span_most E in
      record {
        six = refl;
        rises = λ i h. up_to_four (λ i. get_or (limits_of E r) i 0 < get_or (limits_of E r) (i + 1) 0) (omega arith) (omega arith) (omega arith) (omega arith) (omega arith) i (omega arith);
        within = omega arith;
        steps = λ c h.
            let t = both_right (leb (made_of E r c) 4) _ (is_nearest r c hr h) in
            rw (eqb→eq (step_at (limits_of E r) c) (made_of E r c) (both_left (eqb (step_at (limits_of E r) c) (made_of E r c)) _ t)) (made_right r c hr h);
      }

  pub limits_answer : (r : ℕ) {l : List ℕ} → r ≤ 15 → l ≡ limits_of E r → (l ≡ limits_of E r) × AreLimits E r l
  limits_answer r h e = (e, rw e (limits_right r h))
