-- One answer fits: the check, the maker, the repair.
use Rattle.laws.proofs.{Basics.{◌≡◌, refl, sym, ap, ◌∙◌, ◌⊎◌, inl, inr, ⊎_elim, List, ℕ, ◌<◌, ◌%◌, ◌/◌, arith, length, ℤ}, Counting.{tally_one}, Diff.{diff, diffs, diff_eq, by_diff}, Lists.{kept_one}}
use Rattle.laws.proofs.Division.{same_or_other}
use native.Mathlib.Nat.{le_antisymm}
use lib.Signed.{◌≤ℤ◌}
use Rattle.selection.specs.{computed.Repair.{RepairedTable}, Demand.{RefusedExactly}, Table.{Table}, declared.Refusal.{Refusal}, declared.numbers.Report.{Report}, declared.repair.Repaired.{Repaired}}
use Rattle.selection.proofs.{BiasedPoints.{cell_rules_law}, UniqueCell.{one_witness}, UniqueMade.{limits_rules_law, limits_one, make_rules_law, byte_one}, RepairAnswers.{repair_rules_law, lists_one}}
use Rattle.selection.{proofs.RepairDemand.{repair_demand}, specs.declared.Estimate.{Estimate}}
use Rattle.demands.specs.{Calls.{told, ChecksTable, ChecksCell, TellsLimits, MakesTable, RepairsTable, NamesVersion}, Determined.{Determined}}
use Rattle.demands.proofs.{ByCases.{one_rule, two_rules, table_cases, sole, sole_pair, sole_triple}, OfSelection.{checks_table, checks_cell, tells_limits, makes_table}}

-- integers that are not above one another
same_integer : (a b : ℤ) → a ≤ℤ b → b ≤ℤ a → a ≡ b
same_integer = by_diff (λ a. (b : ℤ) → a ≤ℤ b → b ≤ℤ a → a ≡ b) (λ m n. by_diff (λ b. (diff m n) ≤ℤ b → b ≤ℤ (diff m n) → diff m n ≡ b) (λ p q l g. (diff_eq _ _ _ _).1 (omega (arith, simp diffs at l, simp diffs at g))))

-- in a divider with the estimate E
module _ (E : Estimate) where
  -- ---- a table

  refused_one : {t : List ℕ} {n p : ℕ} (x y : Report) → n ≡ 10 → x.refusal ≡ told n p → y.refusal ≡ told n p → RefusedExactly E t x → RefusedExactly E t y → x ≡ y
  refused_one x y ten e f u v =
      let a = u.first (ap (λ (z : Refusal). z.number) e ∙ ten) in
      let b = v.first (ap (λ (z : Refusal). z.number) f ∙ ten) in
      let here : x.refusal.place ≡ y.refusal.place = ap (λ (z : Refusal). z.place) (e ∙ sym f) in
      let d : x.divisor ≡ y.divisor = le_antisymm (a.divisor_least y.divisor y.remainder (rw here b.leaves)) (b.divisor_least x.divisor x.remainder (rw (← here) a.leaves)) in
      let w : x.remainder ≡ y.remainder = same_integer _ _ (a.remainder_least y.remainder (rw (here, d) b.leaves)) (b.remainder_least x.remainder (rw (← here, ← d) a.leaves)) in
      let m : x.row ≡ y.row = a.row ∙ ap (λ (z : ℕ). z / 128) here ∙ sym b.row in
      let n : x.column ≡ y.column = a.column ∙ ap (λ (z : ℕ). z % 128) here ∙ sym b.column in
      λ i. record { refusal = (e ∙ sym f) i; count = tally_one u.count v.count i; row = m i; column = n i; divisor = d i; remainder = w i }

  pub table_only : (t : List ℕ) → Determined (ChecksTable E t)
  table_only t =
      let y = checks_table E {t = t} refl in
      table_cases E t
      (λ n p f. sole (λ x k.
      let u = f _ k.refuses in
      let v = f _ y.refuses in
      ⊎_elim (λ l. u.1 l ∙ sym (v.1 l)) (λ w. refused_one x _ w.0 u.0 v.0 (k.bad w.1) (y.bad w.1))
      (f (λ m q. (m < 10) ⊎ ((m ≡ 10) × Table t)) (record { size = λ h. inl (omega arith); byte = λ p e l h b. inl (omega arith); cell = λ p w l h b. inr (refl, w) }))))
      (λ ok. sole (λ x k. k.nothing ok))

  -- ---- a single cell

  pub cell_only : (r c b : ℕ) → Determined (ChecksCell E r c b)
  cell_only r c b = two_rules (cell_rules_law r c b)
      (λ p w. sole (λ x k. k.outside w.1))
      (λ h p w. sole (λ x k. k.byte h.0 h.1 w.1))
      (λ h g. let v = (checks_cell E {r = r} {c = c} {b = b} refl).verdict h.0 h.1 g in sole (λ x k. let u = k.verdict h.0 h.1 g in ⊎_elim
      (λ e. u.besides e ∙ sym (v.besides (v.allowed.1 (u.allowed.0 e))))
      (λ n.
      let p = u.disallowed n in
      let q = v.disallowed (λ e. n (u.allowed.1 (v.allowed.0 e))) in
      let w = one_witness E h.0 h.1 _ _ p.1 q.1 in
      λ i. record { refusal = (u.done ∙ sym v.done) i; allowed = (p.0 ∙ sym q.0) i; divisor = (w i).divisor; remainder = (w i).remainder })
      (same_or_other x.allowed 1)))

  -- ---- the maker

  pub limits_only : (r : ℕ) → Determined (TellsLimits E r)
  limits_only r = one_rule (limits_rules_law r)
      (λ p w. sole (λ x k. k.outside w.1))
      (λ h. let y = tells_limits E {r = r} refl in sole (λ x k. λ i. record { refusal = (k.nothing h ∙ sym (y.nothing h)) i; limits = limits_one E (k.limits h) (y.limits h) i }))

  pub make_only : (s : List ℕ) → Determined (λ (z : Refusal × List ℕ). MakesTable E s z.1 z.0)
  make_only s = one_rule (make_rules_law (length s))
      (λ p w. sole_pair (λ z k. k.short w.1))
      (λ h. let y = makes_table E {s = s} refl in sole_pair (λ z k. (k.nothing h ∙ sym (y.nothing h), kept_one (k.kept h) (y.kept h) (λ j m. byte_one E (k.cells h j m) (y.cells h j m)))))

  -- ---- the repair

  pub repair_only : (t rs cs : List ℕ) → Determined (λ (z : Repaired × List ℕ × List ℕ). RepairsTable E t rs cs z.1 z.2 z.0)
  repair_only t rs cs = two_rules (repair_rules_law (length t) (length rs) (length cs))
      (λ p w. sole_triple (λ z k. k.room w.1))
      (λ room p w. sole_triple (λ z k. k.size room.0 room.1 w.1))
      (λ room size. let d = (repair_demand E).told t rs cs size room.0 room.1 in sole_triple (λ z k.
      let m = k.done size room.0 room.1 in
      let r : RepairedTable E t rs cs z.1 z.2 z.0.count = search (m.made, m.copied, m.marked, m.unmarked) in
      let e = lists_one E r d.repaired in
      ((λ i. record { refusal = (m.nothing ∙ sym d.done) i; count = e.2 i }), e.0, e.1)))

-- ---- the version

pub version_only : Determined NamesVersion
version_only = sole (λ x k. k.nothing)

pub ruleset only_tables = (table_only, cell_only, limits_only, make_only, repair_only, version_only)
