-- The refusals of one step's arguments: 8D/3 and the remainder's distance from zero tell whether 3P is out of range.
use Rattle.std.specs.Prelude.{Ok, Err}
use Rattle.laws.proofs.{Basics.{◌≡◌, refl, sym, ◌∙◌, List, ◌++◌, inl, inr, ⊎_elim, ℕ, ◌+◌, ◌-◌, ◌*◌, ◌/◌, ◌%◌, ◌^◌, ◌≤◌, ◌<◌, arith, cond, ltb, lt-ltb, le-ltb, ltb→lt, nltb→le, ℤ, nat_abs, pos, neg_ℤ, ◌*ℤ◌}, Diff.{diffs}, Division.{le_or_lt}, Tests.{by_cond}}
use Rattle.selection.{proofs.RefusalNames.{refusal, Condition, belowℤ, either_of, Holds, first_refusal, rank, table_rules, WellFormed, clear_admits, refused_at, lent}, specs.Word.{signed}}
use Rattle.selection.{proofs.BiasedPoints.{signed_diff}, specs.declared.Estimate.TheVariants.{EightBits}}
use Rattle.recurrence.specs.computed.Step.{step_rules}
use Rattle.std.specs.Int.{w64, cast_signed, cast_unsigned}
use Rattle.std.proofs.lemmas.Int.{of_z-to_z}

-- how far the word w, read as signed, is from zero
abbrev distance_of : ℕ → ℕ
distance_of w = cond (ltb w (2 ^ 63)) w (2 ^ 64 - w)

-- the code finds it so
distance_law : (w : ℕ) {r : ℕ} {z : ℤ} → w < 2 ^ 64 → z ≡ cast_signed w64 w → r ≡ nat_abs (cast_signed w64 (cast_unsigned w64 z)) → r ≡ distance_of w
distance_law w h e f = rw (e, of_z-to_z w64 w h) at f ∙ ⊎_elim (λ l. rw (le-ltb w (2 ^ 63) l) (omega arith)) (λ l. rw (lt-ltb w (2 ^ 63) l) refl) (le_or_lt (2 ^ 63) w)

module _ (s k D : ℕ) where
  -- the second condition
  abbrev pub out_of_range : Condition
  out_of_range = either_of (belowℤ (pos 3 *ℤ signed (s + k)) (neg_ℤ (pos (8 * D)))) (belowℤ (pos (8 * D)) (pos 3 *ℤ signed (s + k)))

  pub step_rules_law : WellFormed (step_rules s k D)
  unfolding step_rules rank
  step_rules_law = record { sound = (tt, λ _. (tt, λ _. tt)); in_order = tt }

  pub step_lent : (t : List ℕ) → WellFormed (step_rules s k D ++ table_rules EightBits t)
  unfolding step_rules table_rules rank
  step_lent t = lent EightBits (step_rules s k D) t step_rules_law tt

  -- the code's test
  -- § 7.3 Refusal 14 is for P out of range.
  outside : 8 * D / 3 < distance_of ((s + k) % 2 ^ 64) → Holds out_of_range
  outside =
      by_cond (λ (x : ℕ). 8 * D / 3 < x → Holds out_of_range) (ltb ((s + k) % 2 ^ 64) (2 ^ 63)) ((s + k) % 2 ^ 64) (2 ^ 64 - (s + k) % 2 ^ 64)
      (λ c h. inr (rw (signed_diff (s + k)) (simp diffs (omega (arith, ltb→lt))))) (λ c h. inl (rw (signed_diff (s + k)) (simp diffs (omega (arith, nltb→le)))))

  -- § 7.3 Refusal 14 is for P out of range.
  inside : distance_of ((s + k) % 2 ^ 64) ≤ 8 * D / 3 → Holds out_of_range → ⊥
  inside =
      by_cond (λ (x : ℕ). x ≤ 8 * D / 3 → Holds out_of_range → ⊥) (ltb ((s + k) % 2 ^ 64) (2 ^ 63)) ((s + k) % 2 ^ 64) (2 ^ 64 - (s + k) % 2 ^ 64)
      (λ c h. ⊎_elim (λ x. omega (arith, ltb→lt, simp diffs at (rw (signed_diff (s + k)) at x))) (λ x. omega (arith, ltb→lt, simp diffs at (rw (signed_diff (s + k)) at x))))
      (λ c h. ⊎_elim (λ x. omega (arith, nltb→le, simp diffs at (rw (signed_diff (s + k)) at x))) (λ x. omega (arith, nltb→le, simp diffs at (rw (signed_diff (s + k)) at x))))

  -- what the two rules give
  module _ (least : 2 ^ 60 ≤ D) (most : D < 2 ^ 61) where
    by_range : Holds out_of_range → first_refusal (step_rules s k D) ≡ Err (refusal 14 0)
    unfolding step_rules
    by_range h = refused_at step_rules_law 1 0 ((least, omega arith), (refl, h))

    pub by_neither : (Holds out_of_range → ⊥) → first_refusal (step_rules s k D) ≡ Ok tt
    unfolding step_rules
    by_neither n = clear_admits step_rules_law ((least, omega arith), (((λ h. n (inl h)), λ h. n (inr h)), tt))

    -- by the distance r that the code finds
    module _ {r : ℕ} {z : ℤ} (e : z ≡ cast_signed w64 ((s + k) % 2 ^ 64)) (f : r ≡ nat_abs (cast_signed w64 (cast_unsigned w64 z))) where
      found : r ≡ distance_of ((s + k) % 2 ^ 64)
      found = distance_law ((s + k) % 2 ^ 64) (omega arith) e f

      pub by_far : 8 * D / 3 < r → Err (refusal 14 0) ≡ first_refusal (step_rules s k D)
      by_far h = sym (by_range (outside (rw found at h)))

      pub by_near : r ≤ 8 * D / 3 → Ok tt ≡ first_refusal (step_rules s k D)
      by_near h = sym (by_neither (inside (rw found at h)))
