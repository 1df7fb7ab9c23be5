-- The single-cell call has one answer: the reported witness is one, and so is the refusal.
use Rattle.laws.proofs.{Basics.{◌≡◌, refl, sym, ap, ◌∙◌, ℕ, ◌^◌, ◌≤◌, arith, ℤ, ◌≤ℤ◌}, Diff.{diff, diffs, diff_eq}}
use Rattle.std.proofs.Common.{le_antisymm}
use Rattle.std.specs.Prelude.{Option, Some, None, Result, Ok, Err}
use Rattle.selection.specs.{Cell.{LeastWitness}, computed.Cell.{CellChecked}, declared.Witness.{Witness}, declared.Refusal.{Refusal}, declared.Estimate.{Estimate}}
use Rattle.selection.proofs.{BiasedPoints.{of_point, cell_rules_law, known_not_refused, not_allowed}, Rules.{refusal_one}}

module _ (E : Estimate) where
  module _ {r c : ℕ} {q : ℤ} (hr : r ≤ 15) (hc : c ≤ 127) where
    pub one_witness : (v w : Witness) → LeastWitness E r c q v.divisor v.remainder → LeastWitness E r c q w.divisor w.remainder → v ≡ w
    one_witness v w a b =
        let e : v.divisor ≡ w.divisor = le_antisymm (a.divisor_least _ _ b.against) (b.divisor_least _ _ a.against) in
        let x = of_point E hr hc a.against.point in
        let y = of_point E hr hc b.against.point in
        let l : (diff x.W (2 ^ 63)) ≤ℤ (diff y.W (2 ^ 63)) = rw (← x.is, ← y.is) (a.remainder_least w.remainder (rw e b.against)) in
        let m : (diff y.W (2 ^ 63)) ≤ℤ (diff x.W (2 ^ 63)) = rw (← x.is, ← y.is) (b.remainder_least v.remainder (rw (← e) a.against)) in
        λ i. record { divisor = e i; remainder = (x.is ∙ (diff_eq _ _ _ _).1 (omega (arith, simp diffs at l, simp diffs at m)) ∙ sym y.is) i }

  -- § 4.2 No other answer on one cell fits.
  pub cell_checked_one : {r c b : ℕ} (v w : Result (Option Witness) Refusal) → CellChecked E r c b v → CellChecked E r c b w → v ≡ w
  cell_checked_one (Ok None) (Ok None) j k = refl
  cell_checked_one (Ok None) (Ok (Some w)) j k = absurd (not_allowed E k.means.1.against j.means.1)
  cell_checked_one (Ok None) (Err f) j k = known_not_refused j.means.0 k.means
  cell_checked_one (Ok (Some v)) (Ok None) j k = absurd (not_allowed E j.means.1.against k.means.1)
  cell_checked_one (Ok (Some v)) (Ok (Some w)) j k = ap (λ (w : Witness). Ok (Some w)) (one_witness j.means.0.row j.means.0.column v w j.means.1 k.means.1)
  cell_checked_one (Ok (Some v)) (Err f) j k = known_not_refused j.means.0 k.means
  cell_checked_one (Err f) (Ok None) j k = known_not_refused k.means.0 j.means
  cell_checked_one (Err f) (Ok (Some w)) j k = known_not_refused k.means.0 j.means
  cell_checked_one {r} {c} {b} (Err f) (Err g) j k = ap Err (refusal_one (cell_rules_law r c b) f g j.means k.means)
