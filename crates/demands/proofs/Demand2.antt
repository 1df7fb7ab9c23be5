-- Demand 2.
use Rattle.laws.{proofs.Basics.{refl, sym, List, [], ◌∷◌, ℕ, arith, length, lit≤}, specs.Lists.{list_from}, proofs.Division.{quotient}}
use native.Mathlib.Nat.{div-add-mod', mod-lt}
use Rattle.selection.{specs.Table.{Passes}, proofs.TableRefusals.{passed_last}, proofs.MadeTables.{kept_passes}, specs.declared.Estimate.TheVariants.{EightBits}}
use Rattle.division.{specs.computed.Samples.{samples_rules, joined}, specs.computed.Rounding.{finite_rounded}, proofs.SampleRuns.{samples_clear, samples_right, samples_are, compensated_one}}
use Rattle.division.proofs.{AdmittedAnswers.{whole_answer, binary64_answer}, IeeeLaws.{ieee}, IeeeOne.{ieee_one}}
use Rattle.demands.specs.computed.Demand2.{RightThrough, Demand2}

right : (t : List ℕ) → Passes EightBits t → RightThrough t
unfolding joined list_from finite_rounded
right t p = record {
  whole = λ a b ha pb hb.
      rw (whole_answer t p a b ha pb hb)
      (record { done = refl; equation = sym (div-add-mod' a b); below = mod-lt a pb; only = λ Q R e l. let k = quotient (sym e) l in (sym k.0, sym k.1) });
  binary64 = λ direction a b h.
      rw (binary64_answer t p direction a b h)
      (record { done = refl; meaning = ieee direction a b; only = λ x i. ieee_one direction a b i (ieee direction a b) });
  samples = λ direction currents sensitivities given h e l.
      let m = samples_right t p direction h currents sensitivities given e l in
      record { meaning = m; only = λ y n. compensated_one y _ n m };
  flags_joined = λ direction currents sensitivities given h e l. let f = (samples_right t p direction h currents sensitivities given e l).flags in record { small = f.below; each = f.each };
  no_samples = λ direction given h. rw (passed_last EightBits p (samples_rules direction 0 0 (length given)), samples_clear direction 0 0 (length given) h refl (omega arith)) refl;
  samples_example = samples_are t p 0 (lit≤ tt) (0x7FE0_0000_0000_0000 ∷ 0x0010_0000_0000_0000 ∷ []) (0x3FD0_0000_0000_0000 ∷ 0x4008_0000_0000_0000 ∷ []) (11 ∷ 12 ∷ 13 ∷ []) refl (lit≤ tt);
}

-- § 21.2 Demand 2 holds.
pub demand_2 : Demand2
demand_2 = record { passed = right; kept = right _ (kept_passes EightBits) }
