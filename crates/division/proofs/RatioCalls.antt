-- What the code of the comparison asks: its refusals, and its answer in numbers.
use Rattle.laws.proofs.Basics.{◌≡◌, refl, sym, subst, ℕ, ◌*◌, arith}
use Rattle.selection.proofs.RefusalNames.{refusal, answer_by, Wrongs, first_refusal, rank, Refuses, WellFormed, refuses, cleared, clear_admits}
use Rattle.std.proofs.Common.{pos_of_ne-zero}
use Rattle.division.specs.{computed.Ratios.{Ratios, comparison_of, ratios_rules, compared_of, comparison_zeros, comparison_numbers}}
use Rattle.std.specs.Prelude.{Result, Ok, Err, ⊤}
use Rattle.std.specs.declared.cmp.Ordering.{Ordering}
use Rattle.std.specs.declared.cmp.Ordering.TheVariants.{Less, Equal, Greater}
use Rattle.selection.specs.declared.Refusal.{Refusal}

-- ---- the refusals

pub ratios_rules_law : (a b c d : ℕ) → WellFormed (ratios_rules a b c d)
unfolding rank
ratios_rules_law a b c d = record { sound = (tt, λ _. (tt, λ _. tt)); in_order = tt }

-- nothing is refused exactly of what can be compared
pub ratios_spans : (a b c d : ℕ) → first_refusal (ratios_rules a b c d) ≡ Ok tt → Ratios a b c d
ratios_spans a b c d e =
    let k = cleared (ratios_rules_law a b c d) e in
    record { a_below = k.0.0; b_some = pos_of_ne-zero k.1.0.0; b_below = k.0.1.0; c_below = k.0.1.1.0; d_some = pos_of_ne-zero k.1.0.1; d_below = k.0.1.1.1 }

pub ratios_clear : (a b c d : ℕ) → Ratios a b c d → first_refusal (ratios_rules a b c d) ≡ Ok tt
ratios_clear a b c d r = clear_admits (ratios_rules_law a b c d) ((r.a_below, (r.b_below, (r.c_below, r.d_below))), (((λ e. omega (arith, r.b_some)), λ e. omega (arith, r.d_some)), tt))

-- ---- the numbers of the answer

module _ (a b c d : ℕ) where
  abbrev found : Result Ordering Refusal
  found = Ok (comparison_of (a * d) (c * b))

  numbers : (v : Result ⊤ Refusal) → comparison_numbers (answer_by Err found v) ≡ answer_by comparison_zeros (comparison_numbers found) v
  numbers (Ok u) = refl
  numbers (Err f) = refl

  -- what is found is no refusal
  unrefused : (o : Ordering) → (comparison_numbers (Ok o)).refusal ≡ refusal 0 0
  unrefused Less = refl
  unrefused Equal = refl
  unrefused Greater = refl

  -- § 16.3 Ratios are refused under these rules.
  pub ratios_refuse : Refuses (Wrongs (ratios_rules a b c d)) (λ x. x.refusal) comparison_zeros (comparison_numbers (compared_of a b c d))
  ratios_refuse = subst (Refuses (Wrongs (ratios_rules a b c d)) (λ x. x.refusal) comparison_zeros) (sym (numbers (first_refusal (ratios_rules a b c d))))
      (refuses (ratios_rules_law a b c d) (λ x. x.refusal) comparison_zeros (comparison_numbers found) (unrefused (comparison_of (a * d) (c * b))) (λ f. refl) refl)
