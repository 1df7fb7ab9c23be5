-- Whole numbers, binary64, samples, roots, packed numbers and ratios, as C is told.
use Rattle.laws.proofs.Basics.{◌≡◌, refl, ap, List, ℕ, arith, length, get_or}
use Rattle.selection.{proofs.RefusalNames.{answer_by, refused_at}, proofs.MadeTables.{kept_passes}, specs.computed.Outcomes.{made_table}, specs.declared.Estimate.TheVariants.{EightBits}}
use Rattle.division.specs.computed.{Whole.{whole_rules, whole_of}, Format.{direction_rules}, Binary64.{binary64_of}, Samples.{SamplesOutcome, samples_rules, samples_of}}
use Rattle.division.specs.{computed.RootCalls.{root_whole_of, root_binary64_of}, computed.Packed.{packed_of}, computed.Ratios.{compared_of, comparison_numbers}, declared.whole.Whole.{Whole}}
use Rattle.division.specs.declared.{format.Binary64.{Binary64}, root.Root.{Root}, packed.Packed.{Packed}, ratio.Comparison.{Comparison}}
use Rattle.division.proofs.{DivisionCalls.{whole_lent, whole_clear, binary64_rules, binary64_lent, direction_clear}, SampleRuns.{samples_lent, samples_clear}, RootCalls.{root_rules_law}}
use Rattle.division.proofs.{PackedCalls.{packed_dividend, packed_divisor, packed_by_zero}, RatioCalls.{ratios_rules_law}}
use Rattle.ieee.proofs.{Ieee754.{ieee_754}, RootPinned.{root_pinned}}
use Rattle.demands.proofs.{Demand2.{demand_2}, RootDemand.{root_demand}, PackedDemand.{packed_demand}, RatioDemand.{ratio_demand}, ByCases.{of_table}}
use Rattle.demands.specs.Calls.{DividesWhole, DividesWholeKept, DividesBinary64, DividesBinary64Kept, DividesSamples, RootsWhole, RootsBinary64, DividesPacked, ComparesRatios}

-- ---- whole numbers

pub divides_whole : {t : List ℕ} {a b : ℕ} {x : Whole} → x ≡ whole_of t a b → DividesWhole t a b x
divides_whole {t} {a} {b} e = rw e (record {
  refuses = record {
    large = λ h. ap (answer_by _ _) (refused_at (whole_lent a b t) 0 0 (refl, h));
    by_zero = λ h z. ap (answer_by _ _) (refused_at (whole_lent a b t) 1 0 (omega arith, (refl, z)));
  };
  table = λ ha hz hb. of_table EightBits t (whole_rules a b) (whole_clear a b ha hz hb) (λ n p _ f. ap (answer_by _ _) f);
  divided = λ ha hz hb ok. let d = (demand_2.passed t ok).whole a b ha hz hb in record { nothing = d.done; divides = d.equation; below = d.below };
})

pub divides_whole_kept : {a b : ℕ} {x : Whole} → x ≡ whole_of (made_table EightBits) a b → DividesWholeKept a b x
divides_whole_kept {a} {b} e = let d = divides_whole {t = made_table EightBits} {a = a} {b = b} e in record { refuses = d.refuses; divided = λ ha hz hb. d.divided ha hz hb (kept_passes EightBits) }

-- ---- binary64

pub divides_binary64 : {t : List ℕ} {direction a b : ℕ} {x : Binary64} → x ≡ binary64_of t direction a b → DividesBinary64 t direction a b x
divides_binary64 {t} {direction} {a} {b} e = rw e (record {
  unknown = λ h. ap (answer_by _ _) (refused_at (binary64_lent direction t) 0 0 (refl, h));
  table = λ h. of_table EightBits t (direction_rules direction) (direction_clear direction h) (λ n p _ f. ap (answer_by _ _) f);
  divided = λ h ok. let d = (demand_2.passed t ok).binary64 direction a b h in record { nothing = d.done; quotient = d.meaning; pinned = (ieee_754.passed t ok).pinned direction a b h };
})

pub divides_binary64_kept : {direction a b : ℕ} {x : Binary64} → x ≡ binary64_of (made_table EightBits) direction a b → DividesBinary64Kept direction a b x
divides_binary64_kept {direction} {a} {b} e =
    let d = divides_binary64 {t = made_table EightBits} {direction = direction} {a = a} {b = b} e in
    record { unknown = d.unknown; divided = λ h. d.divided h (kept_passes EightBits) }

-- ---- samples

pub divides_samples : {t : List ℕ} {direction : ℕ} {currents sensitivities given : List ℕ} {x : SamplesOutcome}
    → x ≡ samples_of t direction currents sensitivities given → DividesSamples t direction currents sensitivities given x.concentrations x.answer
divides_samples {t} {direction = d} {currents = xs} {sensitivities = ys} {given} e =
    let rules = samples_lent d (length xs) (length ys) (length given) t in
    rw e
    (record {
      unknown = λ h. rw (refused_at rules 0 0 (refl, h)) (refl, refl);
      lengths = λ l h. rw (refused_at rules 1 0 (l, (refl, h))) (refl, refl);
      room = λ l s h. rw (refused_at rules 2 0 (l, (s, (refl, h)))) (refl, refl);
      table = λ l s r. of_table EightBits t (samples_rules d (length xs) (length ys) (length given)) (samples_clear d (length xs) (length ys) (length given) l s r) (λ n p _ f. rw f (refl, refl));
      divided = λ l s r ok. let m = ((demand_2.passed t ok).samples d xs ys given l s r).meaning in record {
        nothing = m.done;
        count = m.count;
        flags_of = λ j. (binary64_of t d (get_or xs j 0) (get_or ys j 0)).flags;
        quotient = λ j h. rw (m.concentrations.each j h) ((demand_2.passed t ok).binary64 d (get_or xs j 0) (get_or ys j 0) l).meaning;
        flags = m.flags;
        kept = m.concentrations.kept;
      };
    })

-- ---- roots

pub roots_whole : {a : ℕ} {x : Root} → x ≡ root_whole_of a → RootsWhole a x
roots_whole {a} e = rw e (record {
  large = λ h. ap (answer_by _ _) (refused_at (root_rules_law a) 0 0 (refl, h));
  nothing = λ h. (root_demand.whole a h).done;
  root = λ h. let d = root_demand.whole a h in omega (arith, d.remainder, d.under);
  greatest = λ h. (root_demand.whole a h).next;
})

pub roots_binary64 : {direction a : ℕ} {x : Binary64} → x ≡ root_binary64_of direction a → RootsBinary64 direction a x
roots_binary64 {direction} {a} e = rw e (record {
  unknown = λ h. ap (answer_by _ _) (refused_at (binary64_rules direction) 0 0 (refl, h));
  nothing = λ h. (root_demand.binary64 direction a h).done;
  root = λ h. (root_demand.binary64 direction a h).meaning;
  pinned = λ h. root_pinned.pinned direction a h;
})

-- ---- packed numbers

pub divides_packed : {xs ys : List ℕ} {x : Packed} → x ≡ packed_of xs ys → DividesPacked xs ys x
divides_packed {xs} {ys} e = rw e (record {
  dividend = λ p w. packed_dividend xs ys p w.within w.here w.before;
  divisor = λ p h w. packed_divisor xs ys p h w.within w.here w.before;
  by_zero = packed_by_zero xs ys;
  divided = λ lx ly dx dy h. let d = packed_demand.divides xs ys (record { eight = lx; decimal = dx }) (record { eight = ly; decimal = dy }) h in search;
})

-- ---- ratios

pub compares_ratios : {a b c d : ℕ} {x : Comparison} → x ≡ comparison_numbers (compared_of a b c d) → ComparesRatios a b c d x
compares_ratios {a} {b} {c} {d} e = rw e (record {
  large = λ h. rw (refused_at (ratios_rules_law a b c d) 0 0 (refl, h)) refl;
  by_zero = λ r h. rw (refused_at (ratios_rules_law a b c d) 1 0 (omega arith, (refl, h))) refl;
  less = λ r hb hd h. ratio_demand.less a b c d (omega arith) h;
  equal = λ r hb hd h. ratio_demand.equal a b c d (omega arith) h;
  greater = λ r hb hd h. ratio_demand.greater a b c d (omega arith) h;
})
