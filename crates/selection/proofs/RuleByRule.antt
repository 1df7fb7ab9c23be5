-- What a call refuses, rule by rule: nothing, or by the rule before which all others are past. Once for every list of rules.
use Rattle.std.specs.Prelude.{Ok, Err}
use Rattle.laws.proofs.Basics.{◌≡◌, refl, List, [], ◌∷◌, inl, inr, ⊎_elim, ℕ, zero, suc}
use Rattle.selection.proofs.{OneRule.{Past, past, past_not, refuses_at, past_admits}, Rules.{Sound, WellFormed, clear, admits}}
use Rattle.selection.specs.{Answer.{refusal}, computed.Refusals.{Rule, number_of, Wrong, Wrongs, first_refusal}}

-- no rule refuses
abbrev pub Clear : List Rule → Type 0
Clear [] = Unit {0}
Clear (r ∷ rs) = Past r × Clear rs

-- the rules before the i-th are past, and its condition holds at the place p
abbrev pub WrongAt : List Rule → ℕ → ℕ → Type 0
WrongAt [] i p = ⊥
WrongAt (r ∷ rs) zero p = Wrong r p
WrongAt (r ∷ rs) (suc i) p = Past r × WrongAt rs i p

-- the number of the i-th rule
abbrev pub number_in : List Rule → ℕ → ℕ
number_in [] i = 0
number_in (r ∷ rs) zero = number_of r
number_in (r ∷ rs) (suc i) = number_in rs i

clears : (rs : List Rule) → Sound rs → ((n p : ℕ) → Wrongs rs n p → ⊥) → Clear rs
clears [] s a = tt
clears (r ∷ rs) s a = let n : (p : ℕ) → Wrong r p → ⊥ = λ p w. a (number_of r) p (inl (refl, w)) in (past r s.0 n, clears rs (s.1 n) (λ n p w. a n p (inr w)))

pub clear_none : (rs : List Rule) → Clear rs → (n p : ℕ) → Wrongs rs n p → ⊥
clear_none [] c n p w = w
clear_none (r ∷ rs) c n p w = ⊎_elim (λ x. past_not r c.0 p x.1) (clear_none rs c.1 n p) w

at : (rs : List Rule) → Sound rs → (i p : ℕ) → WrongAt rs i p → first_refusal rs ≡ Err (refusal (number_in rs i) p)
at [] s i p w = absurd w
at (r ∷ rs) s zero p w = rw (refuses_at r s.0 p w) refl
at (r ∷ rs) s (suc i) p w = rw (past_admits r s.0 w.0) (at rs (s.1 (past_not r w.0)) i p w.1)

module _ {rs : List Rule} (l : WellFormed rs) where
  -- where no condition holds no rule refuses
  pub none_clear : ((n p : ℕ) → Wrongs rs n p → ⊥) → Clear rs
  none_clear = clears rs l.sound

  pub cleared : first_refusal rs ≡ Ok tt → Clear rs
  cleared e = none_clear (clear l e)

  -- and the other way round
  pub clear_admits : Clear rs → first_refusal rs ≡ Ok tt
  clear_admits c = admits l (clear_none rs c)

  -- the first refusal is the i-th rule's
  pub refused_at : (i p : ℕ) → WrongAt rs i p → first_refusal rs ≡ Err (refusal (number_in rs i) p)
  refused_at = at rs l.sound
