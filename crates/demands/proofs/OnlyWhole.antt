-- One answer fits: whole numbers, binary64, roots, ratios.
use Rattle.laws.proofs.{Basics.{◌≡◌, sym, ap, ◌∙◌, ⊎_elim, List, ℕ, ◌*◌, ◌<◌, ◌≤◌, arith}, Division.{le_or_lt}}
use native.Mathlib.Nat.{pos_of_ne-zero}
use Rattle.selection.{specs.computed.Outcomes.{made_table}, proofs.MadeTables.{kept_passes}, specs.declared.Estimate.TheVariants.{EightBits}}
use Rattle.division.{specs.computed.RootCalls.{root_whole_of}, proofs.DivisionCalls.{whole_rules_law, binary64_rules}, proofs.RootCalls.{root_rules_law}, proofs.RatioCalls.{ratios_rules_law}}
use Rattle.demands.proofs.{Demand2.{demand_2}, RootDemand.{root_demand}, ByCases.{one_rule, two_rules, table_cases, none_refused, sole, sole_by}}
use Rattle.demands.specs.{Calls.{DividesWhole, DividesWholeKept, DividesBinary64, DividesBinary64Kept, RootsWhole, RootsBinary64, RatiosTake, ComparesRatios}, Determined.{Determined}}

-- ---- whole numbers

pub whole_only : (t : List ℕ) (a b : ℕ) → Determined (DividesWhole t a b)
whole_only t a b = two_rules (whole_rules_law a b)
    (λ p w. sole (λ x c. c.refuses.large w.1))
    (λ small p w. sole (λ x c. c.refuses.by_zero small.0 w.1))
    (λ small some. let hz = pos_of_ne-zero some in table_cases EightBits t
    (λ n p f. sole (λ x c. f _ (c.table small.0 hz small.1)))
    (λ ok. sole (λ x c.
    let d = demand_2.kept.whole a b small.0 hz small.1 in
    let m = c.divided small.0 hz small.1 ok in
    let o = d.only x.quotient x.remainder m.divides m.below in
    λ i. record { refusal = (m.nothing ∙ sym d.done) i; quotient = o.0 i; remainder = o.1 i })))

pub whole_kept_only : (a b : ℕ) → Determined (DividesWholeKept a b)
whole_kept_only a b = sole_by (whole_only (made_table EightBits) a b)
    (λ x k. record { refuses = k.refuses; table = λ ha hz hb. none_refused EightBits (kept_passes EightBits); divided = λ ha hz hb ok. k.divided ha hz hb })

-- ---- binary64

pub binary64_only : (t : List ℕ) (direction a b : ℕ) → Determined (DividesBinary64 t direction a b)
binary64_only t direction a b = one_rule (binary64_rules direction)
    (λ p w. sole (λ x c. c.unknown w.1))
    (λ h. table_cases EightBits t
    (λ n p f. sole (λ x c. f _ (c.table h)))
    (λ ok. sole (λ x c.
    let d = demand_2.kept.binary64 direction a b h in
    let e = d.only _ (c.divided h ok).quotient in
    λ i. record { refusal = ((c.divided h ok).nothing ∙ sym d.done) i; pattern = (e i).pattern; flags = (e i).flags })))

pub binary64_kept_only : (direction a b : ℕ) → Determined (DividesBinary64Kept direction a b)
binary64_kept_only direction a b = sole_by (binary64_only (made_table EightBits) direction a b)
    (λ x k. record { unknown = k.unknown; table = λ h. none_refused EightBits (kept_passes EightBits); divided = λ h ok. k.divided h })

-- ---- roots

pub root_whole_only : (a : ℕ) → Determined (RootsWhole a)
root_whole_only a = one_rule (root_rules_law a)
    (λ p w. sole (λ x c. c.large w.1))
    (λ h. sole (λ x c.
    let d = root_demand.whole a h in
    let s = d.only x.root (omega (arith, c.root h)) (c.greatest h) in
    let m : x.remainder ≡ (root_whole_of a).remainder = omega (arith, c.root h, d.remainder, ap (λ (y : ℕ). y * y) s) in
    λ i. record { refusal = (c.nothing h ∙ sym d.done) i; root = s i; remainder = m i }))

pub root_binary64_only : (direction a : ℕ) → Determined (RootsBinary64 direction a)
root_binary64_only direction a = one_rule (binary64_rules direction)
    (λ p w. sole (λ x c. c.unknown w.1))
    (λ h. sole (λ x c.
    let d = root_demand.binary64 direction a h in
    let e = d.only _ (c.root h) in
    λ i. record { refusal = (c.nothing h ∙ sym d.done) i; pattern = (e i).pattern; flags = (e i).flags }))

-- ---- ratios

pub ratios_only : (a b c d : ℕ) → Determined (ComparesRatios a b c d)
ratios_only a b c d = two_rules (ratios_rules_law a b c d)
    (λ p w. sole (λ x k. k.large w.1))
    (λ small p w. sole (λ x k. k.by_zero (omega arith) w.1))
    (λ small some. let r : RatiosTake a b c d = omega arith in ⊎_elim
    (λ (l : a * d ≤ c * b). ⊎_elim
    (λ (g : c * b ≤ a * d). sole (λ x k. k.equal r (omega arith) (omega arith) (omega (arith, l, g))))
    (λ (g : a * d < c * b). sole (λ x k. k.less r (omega arith) (omega arith) g))
    (le_or_lt (c * b) (a * d)))
    (λ (l : c * b < a * d). sole (λ x k. k.greater r (omega arith) (omega arith) l))
    (le_or_lt (a * d) (c * b)))

pub ruleset only_numbers = (whole_only, whole_kept_only, binary64_only, binary64_kept_only, root_whole_only, root_binary64_only, ratios_only)
