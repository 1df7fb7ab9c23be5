-- The calls for a number of bits: 7 and 8 are the two estimates, and every other number is refused, before all else.
use Rattle.std.specs.Prelude.{Result, Ok, Err}
use Rattle.laws.proofs.Basics.{◌≡◌, sym, ap, ◌∙◌, List, ◌++◌, ◌⊎◌, inl, inr, ⊎_elim, refl, ℕ, ◌<◌, T}
use Rattle.selection.specs.{Answer.{refusal}, computed.Answer.{refusal_of, first_of, answer_by}, computed.Refusals.{Rule, Wrongs, first_refusal, rank, IsFirstRefusal, RefusedBy, Refuses}}
use Rattle.selection.specs.{computed.Bits.{bits_rules, estimate_of, for_bits}, declared.Refusal.{Refusal}, declared.Estimate.{Estimate}}
use Rattle.selection.proofs.{Rules.{WellFormed, ranked, rules_meet, rules_append, first_is, refused_by, refused_one}, RuleByRule.{refused_at}}

-- what is made of the estimate, or of its refusal
abbrev by_estimate : {X : Type 0} → (Refusal → X) → (Estimate → X) → Result Estimate Refusal → X
by_estimate zeros f (Ok E) = f E
by_estimate zeros f (Err g) = zeros g

module _ (bits : ℕ) where
  for_bits_is : {X : Type 0} (zeros : Refusal → X) (f : Estimate → X) → by_estimate zeros f (for_bits Err (λ E. Ok E) bits) ≡ for_bits zeros f bits
  for_bits_is zeros f = elim (first_refusal (bits_rules bits)) as (λ v. by_estimate zeros f (answer_by Err (Ok (estimate_of bits)) v) ≡ answer_by zeros (f (estimate_of bits)) v) [ Ok u ↦ refl | Err g ↦ refl ]

  -- the outcome of a number that is taken is that of its estimate, and of another the refusal's
  pub bits_taken : {X : Type 0} (zeros : Refusal → X) (f : Estimate → X) {E : Estimate} → Ok E ≡ for_bits Err (λ E. Ok E) bits → f E ≡ for_bits zeros f bits
  bits_taken zeros f e = ap (by_estimate zeros f) e ∙ for_bits_is zeros f

  pub bits_not_taken : {X : Type 0} (zeros : Refusal → X) (f : Estimate → X) {g : Refusal} → Err g ≡ for_bits Err (λ E. Ok E) bits → zeros g ≡ for_bits zeros f bits
  bits_not_taken zeros f e = ap (by_estimate zeros f) e ∙ for_bits_is zeros f

  -- what is made of every answer is made of the one by the estimate
  pub bits_through : {X Y : Type 0} (h : X → Y) (zeros : Refusal → X) (f : Estimate → X) → h (for_bits zeros f bits) ≡ for_bits (λ g. h (zeros g)) (λ E. h (f E)) bits
  bits_through h zeros f = elim (first_refusal (bits_rules bits)) as (λ v. h (answer_by zeros (f (estimate_of bits)) v) ≡ answer_by (λ g. h (zeros g)) (h (f (estimate_of bits))) v) [ Ok u ↦ refl | Err g ↦ refl ]

  bits_rules_law : WellFormed (bits_rules bits)
  unfolding rank
  bits_rules_law = record { sound = (tt, λ _. tt); in_order = tt }

  pub bits_refused : {X : Type 0} (zeros : Refusal → X) (f : Estimate → X) → (bits < 7) ⊎ (8 < bits) → for_bits zeros f bits ≡ zeros (refusal 17 0)
  bits_refused zeros f h = ap (answer_by zeros _) (refused_at bits_rules_law 0 0 (refl, h))

  -- ---- the rules of a call after that of its number of bits

  module _ {rs : List Rule} (c : WellFormed rs) (o : T (ranked 1 rs)) where
    both_rules : WellFormed (bits_rules bits ++ rs)
    unfolding rank
    both_rules = record { sound = (tt, λ _. c.sound); in_order = o }

    -- the first refusal of both is 17, or no number is refused and it is that of the call's rules
    pub bits_first : {n p : ℕ} → IsFirstRefusal (Wrongs (bits_rules bits ++ rs)) n p
        → (first_refusal (bits_rules bits) ≡ Err (refusal n p)) ⊎ ((first_refusal (bits_rules bits) ≡ Ok tt) × IsFirstRefusal (Wrongs rs) n p)
    bits_first {n} {p} x =
        (elim (first_refusal (bits_rules bits)) as (λ v. first_of v (first_refusal rs) ≡ Err (refusal n p) → (v ≡ Err (refusal n p)) ⊎ ((v ≡ Ok tt) × IsFirstRefusal (Wrongs rs) n p)) [
          | Ok u ↦ λ e. inr (refl, rules_meet c (Err (refusal n p)) e)
          | Err f ↦ λ e. inl e
        ]) (sym (rules_append (bits_rules bits) rs) ∙ first_is both_rules n p x)

    -- the answer of the call is x
    module _ {X : Type 0} (zeros : Refusal → X) (x : X) where
      -- where something is refused, zeros besides, or a list as it was
      pub bits_besides : (n p : ℕ) → (IsFirstRefusal (Wrongs rs) n p → x ≡ zeros (refusal n p)) → IsFirstRefusal (Wrongs (bits_rules bits ++ rs)) n p → answer_by zeros x (first_refusal (bits_rules bits)) ≡ zeros (refusal n p)
      bits_besides n p h y = ⊎_elim (λ e. ap (answer_by zeros x) e) (λ z. ap (answer_by zeros x) z.0 ∙ h z.1) (bits_first y)

      module _ (refused : X → Refusal) (zero : (g : Refusal) → refused (zeros g) ≡ g) where
        pub bits_refused_by : RefusedBy (Wrongs rs) (refused x) → RefusedBy (Wrongs (bits_rules bits ++ rs)) (refused (answer_by zeros x (first_refusal (bits_rules bits))))
        bits_refused_by b =
            let same = elim (first_refusal (bits_rules bits)) as (λ v. refused (answer_by zeros x v) ≡ refusal_of (first_of v (first_refusal rs))) [ Ok u ↦ refused_one c b (refused_by c) | Err g ↦ zero g ] in
            rw (same ∙ ap refusal_of (sym (rules_append (bits_rules bits) rs))) (refused_by both_rules)

        pub bits_refuses : Refuses (Wrongs rs) refused zeros x → Refuses (Wrongs (bits_rules bits ++ rs)) refused zeros (answer_by zeros x (first_refusal (bits_rules bits)))
        bits_refuses r = record { by = bits_refused_by r.by; besides = λ n p. bits_besides n p (r.besides n p) }

  -- 17 alone is the refusal of the number
  pub bits_number : {n p : ℕ} → first_refusal (bits_rules bits) ≡ Err (refusal n p) → n ≡ 17
  bits_number e = ⊎_elim (λ x. x.0) (λ x. absurd x) (rules_meet bits_rules_law _ e).holds
