-- The code's loops: where they stand after i turns, and what one turn does.
use Rattle.laws.{proofs.Basics.{◌≡◌, refl, sym, ap, ◌∙◌, List, ℕ, ◌+◌, ◌<◌, add-one, length, set}, specs.Lists.{filled}, proofs.Lists.{fill_more}}
use Rattle.recurrence.specs.{Recurrence.{State, next_of, after, digit_of}, computed.FastRun.{Divider, run_state_of, state_of}, declared.state.RunState.{RunState}}
use Rattle.recurrence.proofs.Digits.{divisor_after}
use Rattle.selection.specs.declared.{Estimate.{Estimate}, Estimate.TheVariants.{EightBits}}

-- one turn of a loop, in a divider with the estimate E at the divisor D
module _ (E : Estimate) (t : List ℕ) (N D i : ℕ) {p : RunState} (s : p ≡ run_state_of E (after E t N D i)) where
  pub stands_state : state_of D p ≡ after E t N D i
  stands_state = ap (state_of D) s ∙ ap (λ (d : ℕ). state_of d (run_state_of E (after E t N D i))) (sym (divisor_after E t N D i))

  pub stands_next : {m : Divider} {q : RunState} → m ≡ record { estimate = E; divisor = D } → q ≡ run_state_of m.estimate (next_of m.estimate t (state_of m.divisor p)) → q ≡ run_state_of E (after E t N D (i + 1))
  unfolding after
  stands_next m e = rw m at e ∙ ap (λ (p : State). run_state_of E (next_of E t p)) stands_state ∙ rw add-one refl

-- the loop of `run_row`
pub record Reached (t : List ℕ) (N D : ℕ) (out₀ out : List ℕ) (state : RunState) (i : ℕ) : Type 0 where
  pub stands : state ≡ run_state_of EightBits (after EightBits t N D i)
  pub wrote : out ≡ filled (digit_of EightBits t N D) i out₀

pub reached_more : {t : List ℕ} {N D i : ℕ} {out₀ out : List ℕ} {p q : RunState} {m : Divider} → Reached t N D out₀ out p i → i < length out₀ → m ≡ record { estimate = EightBits; divisor = D }
    → q ≡ run_state_of m.estimate (next_of m.estimate t (state_of m.divisor p)) → Reached t N D out₀ (set out i q.digit) q (i + 1)
reached_more {t} {N} {D} {i} {out₀ = out₀} {q = q} r h m e =
    let f = stands_next EightBits t N D i r.stands m e in
    let d : q.digit ≡ digit_of EightBits t N D i = rw (f, add-one) refl in
    record { stands = f; wrote = rw (d, r.wrote) (fill_more (digit_of EightBits t N D) out₀ i h) }
