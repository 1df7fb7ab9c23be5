-- Signed numbers as their words hold them: what the test against zero tells of a signed number in decimal.
use Rattle.laws.proofs.Basics.{◌≡◌, refl, subst, true, false, List, ◌++◌, ℕ, arith, T, ℤ, pos, negsuc, nat_abs, lt_z, ltb-true}
use mir.{Facts.{to_z-of_z}, Syntax.{w64}, Val.{to_z, of_z, SFits}}
use Rattle.printing.specs.Text.{ascii, decimal_of, signed_of}

-- a number as its word holds it
abbrev held : ℤ → ℤ
held z = to_z w64 (of_z w64 z)

negative : {X : Type 0} (z : ℤ) → lt_z z (pos 0) ≡ true → ((n : ℕ) → z ≡ negsuc n → X) → X
negative (pos n) h f = absurd (omega (arith, ltb-true n 0 h))
negative (negsuc n) h f = f n refl

positive : {X : Type 0} (z : ℤ) → lt_z z (pos 0) ≡ false → ((n : ℕ) → z ≡ pos n → X) → X
positive (pos n) h f = f n refl
positive (negsuc n) h f = absurd (subst T h tt)

module _ (z : ℤ) (m : ℕ) (y : List ℕ) (f : SFits w64 z) (e : m ≡ nat_abs (held z)) where
  pub with_sign : lt_z (held z) (pos 0) ≡ true → ascii "-" ++ (decimal_of m ++ y) ≡ signed_of z ++ y
  with_sign h = negative z (rw (to_z-of_z f) at h) (λ n i. rw (e, to_z-of_z f, i))

  pub without_sign : lt_z (held z) (pos 0) ≡ false → decimal_of m ++ y ≡ signed_of z ++ y
  without_sign h = positive z (rw (to_z-of_z f) at h) (λ n i. rw (e, to_z-of_z f, i))
