-- A line counts as right exactly where the answer is no refusal and has the pattern and the flags of its case, in every direction, of a root too.
use Rattle.laws.proofs.Basics.{◌≡◌, refl, Bool, true, false, true≢false, not, cond, ◌↔◌, eqb, eqb-true, eq-eqb, ℕ, arith}
use Rattle.std.specs.Prelude.{⊤, Result, Ok, Err, nat_lt}
use Rattle.selection.specs.{Answer.{refusal}, computed.Answer.{answer_by, first_of}, computed.Refusals.{first_refusal}}
use Rattle.selection.specs.declared.{Refusal.{Refusal}, Estimate.TheVariants.{EightBits}}
use Rattle.selection.proofs.{TableRefusals.{passed_last}, MadeTables.{kept_passes}}
use Rattle.division.specs.computed.Format.{binary64_zeros, binary64_values, direction_rules}
use Rattle.division.specs.declared.format.{Binary64.{Binary64}, Binary64Result.{Binary64Result}}
use Rattle.vectors.specs.{Vectors.{differs_from, answer_of}, declared.Vector.{Vector}, declared.Operation.{Operation}}
use Rattle.vectors.specs.declared.Operation.TheVariants.{Quotient, Root}

-- § 19.6 `vectors` counts the lines that differ and prints all counts.
pub no_difference : (v : Vector) (x : Binary64) → (differs_from v x ≡ false) ↔ ((x.refusal.number ≡ 0) × (x.pattern ≡ v.pattern) × (x.flags ≡ v.flags))
no_difference v x = (go (eqb x.refusal.number 0) (eqb x.pattern v.pattern) (eqb x.flags v.flags) refl refl refl, λ h. rw (eq-eqb _ _ h.0, eq-eqb _ _ h.1, eq-eqb _ _ h.2) refl)
  where
    go : (p q r : Bool) → eqb x.refusal.number 0 ≡ p → eqb x.pattern v.pattern ≡ q → eqb x.flags v.flags ≡ r
        → cond p (cond q (not r) true) true ≡ false → (x.refusal.number ≡ 0) × (x.pattern ≡ v.pattern) × (x.flags ≡ v.flags)
    go true true true i j k e = (eqb-true _ _ i, eqb-true _ _ j, eqb-true _ _ k)
    go true true false i j k e = absurd (true≢false e)
    go true false r i j k e = absurd (true≢false e)
    go false q r i j k e = absurd (true≢false e)

-- ---- an answer whose refusal has the number 0 refuses nothing

abbrev ToldByNumber : Result ⊤ Refusal → Binary64Result → Type 0
ToldByNumber a x = let f = (answer_by binary64_zeros (binary64_values x) a).refusal in f.number ≡ 0 → f ≡ refusal 0 0

-- a direction that is refused has the number 6
direction_told : (direction : ℕ) (x : Binary64Result) → ToldByNumber (first_refusal (direction_rules direction)) x
direction_told direction x = elim (nat_lt 3 direction) as (λ b. ToldByNumber (first_of (cond b (Err (refusal 6 0)) (Ok tt)) (Ok tt)) x) [ true ↦ λ e. absurd (omega (arith, e)) | false ↦ λ e. refl ]

pub told_by_number : (o : Operation) (direction : ℕ) → (answer_of o direction).refusal.number ≡ 0 → (answer_of o direction).refusal ≡ refusal 0 0
told_by_number (Quotient a b) direction = rw (passed_last EightBits (kept_passes EightBits) (direction_rules direction)) (direction_told direction _)
told_by_number (Root a) direction = direction_told direction _
