-- Binary64 answers by the logic's own account of IEEE 754, through every table that passes.
use Rattle.laws.proofs.Basics.{◌≡◌, refl, ap, ◌∙◌, sym, Bool, true, false, cond, List, ℕ, zero, suc, ◌≤◌, ◌<◌, zero-le, arith, length, get_or, T}
use lib.{Ieee.{of_bits, le}, Ieee.Scale.{finite}}
use Rattle.selection.{proofs.RefusalNames.{refusal}, specs.declared.Refusal.{Refusal}, specs.Table.{Passes}, proofs.MadeTables.{kept_passes}, specs.declared.Estimate.TheVariants.{EightBits}}
use Rattle.division.specs.{declared.format.Binary64Result.{Binary64Result}, declared.format.Binary64.{Binary64}, Format.{negative, magnitude, largest_finite}, computed.Format.{binary64_values}}
use Rattle.division.{specs.Ieee.{Ieee}, specs.computed.Binary64.{binary64_of}, specs.computed.Samples.{samples_of}, proofs.AdmittedAnswers.{binary64_answer}, proofs.SampleRuns.{samples_right}}
use Rattle.division.proofs.IeeeLaws.{ieee_through}
use Rattle.ieee.specs.{LanguageQuotient.{value_of, one}, Directions.{quotient_sign, Pinned, negated, mirrored}}
use Rattle.ieee.specs.computed.Ieee754.{Sorted, OneSensitivity, IeeeThrough, NamedPatterns, Thirds, Ieee754}
use Rattle.ieee.proofs.{LanguageQuotient.{special_quotient, language_quotient_law}, LanguageOrder.{SignedLe}, Operands.{top, magnitude_top, seen, finite_stands}, AnswerUnits.{is_le}}
use Rattle.ieee.proofs.{Directions.{directed}, DirectedOne.{pinned_one}, DirectionOrder.{directions_ordered, toward_zero}, InexactFlag.{silent}}
use Rattle.ieee.proofs.{ExactQuotients.{exact_quotient, over_one, over_itself}, Signalling.{signals, silent_nan}, SignSymmetry.{negated_neg, dividend_negated, divisor_negated}}
use Rattle.ieee.proofs.BiggerAnswers.{bigger}

-- an answer without a refusal is its pattern and flags
abbrev told : Binary64 → Binary64Result
told x = record { pattern = x.pattern; flags = x.flags }

whole : (x : Binary64) → x.refusal ≡ refusal 0 0 → x ≡ binary64_values (told x)
whole x e = ap (λ (r : Refusal). record { refusal = r; pattern = x.pattern; flags = x.flags }) e

mirrored_span : (d : ℕ) → mirrored d ≤ 3
mirrored_span zero = omega arith
mirrored_span (suc zero) = omega arith
mirrored_span (suc (suc zero)) = omega arith
mirrored_span (suc (suc (suc d))) = omega arith

sided_span : (s : Bool) → cond s 2 3 ≤ 3
sided_span true = omega arith
sided_span false = omega arith

module _ (t : List ℕ) (p : Passes EightBits t) where
  means : (direction a b : ℕ) → direction ≤ 3 → Ieee direction a b (told (binary64_of t direction a b))
  means = ieee_through t p

  answer_is : (direction a b : ℕ) {y : Binary64Result} → direction ≤ 3 → told (binary64_of t direction a b) ≡ y → binary64_of t direction a b ≡ binary64_values y
  answer_is direction a b l e = whole (binary64_of t direction a b) (ap (λ (x : Binary64). x.refusal) (binary64_answer t p direction a b l)) ∙ ap binary64_values e

  pinned : (direction a b : ℕ) → direction ≤ 3 → Pinned direction a b (binary64_of t direction a b).pattern
  pinned d a b l = record { special = special_quotient d a b (means d a b l); directed = λ f. directed a b f.dividend f.divisor d l (means d a b l) }

  sorted : (direction d : ℕ) (currents sensitivities given : List ℕ) → direction ≤ 3 → length currents ≡ length sensitivities → length currents ≤ length given
      → OneSensitivity d currents sensitivities → Sorted (length currents) currents → Sorted (length currents) (samples_of t direction currents sensitivities given).concentrations
  sorted direction d xs ys given l e r o s =
      let each = (samples_right t p direction l xs ys given e r).concentrations.each in
      record {
        ordered = λ i j h k.
            let g : i < length xs = omega arith in
            rw (each i g, each j k, o.one i g, o.one j k) (bigger t p direction (get_or xs i 0) (get_or xs j 0) d l (o.currents_finite i g) (o.currents_finite j k) o.above (s.ordered i j h k));
      }

  through : IeeeThrough t
  through = record {
    language = language_quotient_law t p;
    pinned = pinned;
    only = λ d a b q l u. pinned_one d a b q (binary64_of t d a b).pattern u (pinned d a b l);
    ordered = λ a b f. directions_ordered a b (means 3 a b (omega arith)) (means 0 a b (omega arith)) (means 2 a b (omega arith)) f.dividend f.divisor;
    toward_zero = λ a b.
        let d : ℕ = cond (quotient_sign (value_of a) (value_of b)) 2 3 in
        let l = sided_span (quotient_sign (value_of a) (value_of b)) in
        answer_is 1 a b (omega arith) (toward_zero a b (means 1 a b (omega arith)) (means d a b l)) ∙ sym (answer_is d a b l refl);
    silent = λ d a b l f. silent d a b (means d a b l) f.dividend f.divisor;
    exact = λ d a b q l f w y s. answer_is d a b l (exact_quotient d a b q (means d a b l) f.dividend f.divisor w y s);
    over_one = λ d a l w h. answer_is d a one l (over_one d a (means d a one l) w h);
    over_itself = λ d a l h. answer_is d a a l (over_itself d a (means d a a l) h);
    signalling = λ d a b l. signals d a b (means d a b l);
    quiet = λ d a b l. silent_nan d a b (means d a b l);
    dividend_negated = λ d a b l w. let o = dividend_negated d a b l w (means d (negated a) b l) (means (mirrored d) a b (mirrored_span d)) in record { value = o.value; flags = o.flags };
    divisor_negated = λ d a b l w. let o = divisor_negated d a b l w (means d a (negated b) l) (means (mirrored d) a b (mirrored_span d)) in record { value = o.value; flags = o.flags };
    bigger = bigger t p;
    sorted = sorted;
  }

largest : (p : ℕ) → T (finite (value_of p)) → T (le (value_of p) (value_of largest_finite))
largest p h =
    let f = (seen p h).below in
    is_le (value_of p) (value_of largest_finite) (negative p) false (magnitude p) top (finite_stands p f) (finite_stands largest_finite (omega arith)) (go (negative p) (magnitude_top p f))
  where
    go : (s : Bool) → magnitude p ≤ top → SignedLe s (magnitude p) false top
    go true k = zero-le
    go false k = k

named : NamedPatterns
unfolding of_bits le
named = record { one_is = refl; infinity_is = refl; quiet_nan_is = refl; largest_is = (tt, largest); zeros_level = (tt, tt); negated_is = negated_neg }

thirds : Thirds
unfolding of_bits
thirds = record { under = tt; not_over = λ h. h; over = tt; not_under = λ h. h; minus_under = tt; minus_not_under = λ h. h }

-- § 9 All of binary64 holds by the logic's own IEEE 754.
pub ieee_754 : Ieee754
ieee_754 = record { named = named; thirds = thirds; passed = through; kept = through _ (kept_passes EightBits) }
