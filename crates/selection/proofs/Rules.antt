-- What a list of rules gives is the first refusal, by rank, of those whose condition holds.
use Rattle.std.specs.Prelude.{⊤, Result, Ok, Err}
use Rattle.laws.proofs.Basics.{◌≡◌, refl, sym, ap, subst, ◌∙◌, Bool, true, List, [], ◌∷◌, ◌++◌, inl, inr, ⊎_elim, ℕ, zero, suc, ◌+◌, ◌<◌, arith, T, ltb, ltb→lt}
use Rattle.laws.proofs.Tests.{both, both_left, both_right, upto, upto_at}
use Rattle.selection.proofs.OneRule.{Tells, past_not, decided, refuses_at, past, past_admits}
use Rattle.selection.specs.{Answer.{refusal}, computed.Answer.{refusal_of, first_of, answer_by}}
use Rattle.selection.specs.{computed.Refusals.{Rule, number_of, Wrong, given, Wrongs, first_refusal, rank, IsFirstRefusal, RefusedBy, Refuses}, declared.Refusal.{Refusal}}

-- ---- a list of rules

-- each rule's test tells, where no condition before it holds
abbrev pub Sound : List Rule → Type 0
Sound [] = Unit {0}
Sound (r ∷ rs) = Tells r × (((p : ℕ) → Wrong r p → ⊥) → Sound rs)

-- the rules stand in the order, past rank k
abbrev pub ranked : ℕ → List Rule → Bool
ranked k [] = true
ranked k (r ∷ rs) = both (ltb k (rank (number_of r))) (ranked (rank (number_of r)) rs)

pub record WellFormed (rs : List Rule) : Type 0 where
  pub sound : Sound rs
  pub in_order : T (ranked 0 rs)

-- the first of the conditions C is the refusal v
abbrev pub Meets : (ℕ → ℕ → Type 0) → Result ⊤ Refusal → Type 0
Meets C (Ok u) = (n p : ℕ) → C n p → ⊥
Meets C (Err f) = IsFirstRefusal C f.number f.place

later : (k : ℕ) (r : Rule) (rs : List Rule) → T (ranked k (r ∷ rs)) → T (ranked (rank (number_of r)) rs)
later k r rs = both_right (ltb k (rank (number_of r))) _

after : (k : ℕ) (rs : List Rule) → T (ranked k rs) → (n p : ℕ) → Wrongs rs n p → k < rank n
after k [] o n p x = absurd x
after k (r ∷ rs) o n p x =
    let l = ltb→lt k (rank (number_of r)) (both_left (ltb k (rank (number_of r))) _ o) in
    ⊎_elim (λ y. omega (arith, ap rank y.0)) (λ y. omega (arith, after (rank (number_of r)) rs (later k r rs o) n p y)) x

meets : (k : ℕ) (rs : List Rule) → T (ranked k rs) → Sound rs → Meets (Wrongs rs) (first_refusal rs)
meets k [] o s = λ n p x. x
meets k (r ∷ rs) o s = ⊎_elim
    (λ x. rw x.2 (record { holds = inl (refl, x.1); before = λ m q l. ⊎_elim (λ y. omega (arith, ap rank y.0)) (λ y. omega (arith, after (rank (number_of r)) rs (later k r rs o) m q y)) }))
    (λ x. let a = past_not r x.0 in rw x.1 (second a (first_refusal rs) (meets (rank (number_of r)) rs (later k r rs o) (s.1 a))))
    (decided r s.0)
  where
    second : ((p : ℕ) → Wrong r p → ⊥) → (w : Result ⊤ Refusal) → Meets (Wrongs rs) w → Meets (Wrongs (r ∷ rs)) w
    second a (Ok u) m = λ n p. ⊎_elim (λ x. a p x.1) (m n p)
    second a (Err f) m = record { holds = inr m.holds; before = λ n p l. ⊎_elim (λ x. a p x.1) (m.before n p l) }

is_first : (k : ℕ) (rs : List Rule) → T (ranked k rs) → Sound rs → (n p : ℕ) → IsFirstRefusal (Wrongs rs) n p → first_refusal rs ≡ Err (refusal n p)
is_first k [] o s n p x = absurd x.holds
is_first k (r ∷ rs) o s n p x = ⊎_elim
    (λ y. rw (refuses_at r s.0 p y.1, y.0) refl)
    (λ y. let a : (q : ℕ) → Wrong r q → ⊥ = λ q w. x.before (number_of r) q (after (rank (number_of r)) rs (later k r rs o) n p y) (inl (refl, w)) in
    rw (past_admits r s.0 (past r s.0 a)) (is_first (rank (number_of r)) rs (later k r rs o) (s.1 a) n p (record { holds = y; before = λ m q l z. x.before m q l (inr z) })))
    x.holds

-- the order of the refusals 1 to 10 is that of their numbers
-- § 18.2 There is one order of refusals.
pub by_number : (m n : ℕ) → m < n → n < 10 → rank (m + 1) < rank (n + 1)
unfolding rank
by_number m n h l =
    ltb→lt (rank (m + 1)) (rank (n + 1))
    (upto_at (λ k. ltb (rank (k + 1)) (rank (n + 1))) n (upto_at (λ j. upto (λ k. ltb (rank (k + 1)) (rank (j + 1))) j) 10 tt n l) m h)

-- ---- what its first refusal says

module _ {rs : List Rule} (c : WellFormed rs) where
  pub rules_meet : (v : Result ⊤ Refusal) → first_refusal rs ≡ v → Meets (Wrongs rs) v
  rules_meet v e = subst (Meets (Wrongs rs)) e (meets 0 rs c.in_order c.sound)

  -- the first condition that holds is the refusal given
  pub first_is : (n p : ℕ) → IsFirstRefusal (Wrongs rs) n p → first_refusal rs ≡ Err (refusal n p)
  first_is = is_first 0 rs c.in_order c.sound

  pub refusal_one : (f g : Refusal) → IsFirstRefusal (Wrongs rs) f.number f.place → IsFirstRefusal (Wrongs rs) g.number g.place → f ≡ g
  refusal_one f g x y = ap refusal_of (sym (first_is _ _ x) ∙ first_is _ _ y)

  -- what is so where nothing is refused, and at every first refusal, is so
  pub by_first : (P : Result ⊤ Refusal → Type 0) → (((n p : ℕ) → Wrongs rs n p → ⊥) → P (Ok tt)) → ((f : Refusal) → IsFirstRefusal (Wrongs rs) f.number f.place → P (Err f)) → P (first_refusal rs)
  by_first P a b = (elim (first_refusal rs) as (λ v. Meets (Wrongs rs) v → P v) [ Ok u ↦ a | Err f ↦ b f ]) (rules_meet (first_refusal rs) refl)

  -- nothing is refused exactly if no condition holds
  pub clear : first_refusal rs ≡ Ok tt → (n p : ℕ) → Wrongs rs n p → ⊥
  clear e = rules_meet (Ok tt) e

  pub admits : ((n p : ℕ) → Wrongs rs n p → ⊥) → first_refusal rs ≡ Ok tt
  admits a = by_first (λ v. v ≡ Ok tt) (λ m. refl) (λ f m. absurd (a _ _ m.holds))

  positive : (n p : ℕ) → IsFirstRefusal (Wrongs rs) n p → 0 < n
  unfolding rank
  positive zero p x = absurd (omega (arith, after 0 rs c.in_order zero p x.holds))
  positive (suc n) p x = omega arith

  -- § 18.4 A refusal is given exactly where its condition holds and none before it.
  pub refused_by : RefusedBy (Wrongs rs) (refusal_of (first_refusal rs))
  refused_by = by_first (λ v. RefusedBy (Wrongs rs) (refusal_of v))
      (λ m. record { exactly = λ n p l. ((λ e. absurd (omega (arith, ap (λ (f : Refusal). f.number) e))), λ x. absurd (m n p x.holds)); none = ((λ e. m), λ a. refl) })
      (λ f m. record {
        exactly = λ n p l. ((λ e. subst (λ (f : Refusal). IsFirstRefusal (Wrongs rs) f.number f.place) e m), refusal_one f (refusal n p) m);
        none = ((λ e. absurd (omega (arith, ap (λ (f : Refusal). f.number) e, positive _ _ m))), λ a. absurd (a _ _ m.holds));
      })

  -- no other refusal is by these rules
  pub refused_one : {f g : Refusal} → RefusedBy (Wrongs rs) f → RefusedBy (Wrongs rs) g → f ≡ g
  refused_one {f} {g} x y = by_first (λ v. f ≡ g)
      (λ m. x.none.1 m ∙ sym (y.none.1 m))
      (λ h m. (x.exactly _ _ (positive _ _ m)).1 m ∙ sym ((y.exactly _ _ (positive _ _ m)).1 m))

  -- and no other answer, where two with the same refusal are equal if nothing is refused
  pub refuses_one : {X : Type 0} {refused : X → Refusal} {zeros : Refusal → X} {x y : X} → Refuses (Wrongs rs) refused zeros x → Refuses (Wrongs rs) refused zeros y
      → (first_refusal rs ≡ Ok tt → refused x ≡ refused y → x ≡ y) → x ≡ y
  refuses_one {x = u} {y = v} x y a = by_first (λ w. u ≡ v) (λ m. a (admits m) (refused_one x.by y.by)) (λ f m. x.besides _ _ m ∙ sym (y.besides _ _ m))

  -- an answer by the first refusal refuses so, with zeros besides
  pub refuses : {X : Type 0} (refused : X → Refusal) (zeros : Refusal → X) (done : X) → refused done ≡ refusal 0 0 → ((f : Refusal) → refused (zeros f) ≡ f)
      → {v : Result ⊤ Refusal} → v ≡ first_refusal rs → Refuses (Wrongs rs) refused zeros (answer_by zeros done v)
  refuses refused zeros done e z g =
      let same = elim (first_refusal rs) as (λ v. refused (answer_by zeros done v) ≡ refusal_of v) [ Ok u ↦ e | Err f ↦ z f ] in
      rw g (record { by = rw same refused_by; besides = λ n p x. rw (first_is n p x) refl })

-- ---- one list after another
pub rules_append : (rs ss : List Rule) → first_refusal (rs ++ ss) ≡ first_of (first_refusal rs) (first_refusal ss)
rules_append [] ss = refl
rules_append (r ∷ rs) ss =
    let v = first_refusal rs in
    let w = first_refusal ss in
    ap (first_of (given r)) (rules_append rs ss) ∙ elim (given r) as (λ u. first_of u (first_of v w) ≡ first_of (first_of u v) w) [ Ok u ↦ refl | Err f ↦ refl ]

pub sound_append : (rs ss : List Rule) → Sound rs → Sound ss → Sound (rs ++ ss)
sound_append [] ss s t = t
sound_append (r ∷ rs) ss s t = (s.0, λ a. sound_append rs ss (s.1 a) t)
