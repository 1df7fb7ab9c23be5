-- The test of a cell by its row's multiples finds what the search finds: one test that antt computes over all cells and bytes, and one law that carries it to each.
-- So it is right, and given a row's multiples it gives the verdict of the single cell.
use Rattle.laws.proofs.{Basics.{◌≡◌, refl, sym, subst, ap₂, Bool, true, false, ℕ, arith, T, eqb, eqb→eq}, Tests.{upto, upto_at, both, both_left, both_right}}
use Rattle.selection.specs.{computed.Cell.{IsCell}, computed.CellTest.{Finding, multiples_of, test_of}, computed.CellTest.Finding.{NoWitness, LeastAt}, declared.Estimate.{Estimate}}
use Rattle.selection.specs.declared.Estimate.TheVariants.{SevenBits, EightBits}
use Rattle.selection.proofs.{Search.{search_of, search_right}, BreakingPoints.{Breaks, IsLeast}}

abbrev same : Finding → Finding → Bool
same NoWitness NoWitness = true
same NoWitness (LeastAt d w) = false
same (LeastAt d w) NoWitness = false
same (LeastAt d w) (LeastAt d' w') = both (eqb d d') (eqb w w')

same_eq : (g h : Finding) → T (same g h) → g ≡ h
same_eq NoWitness NoWitness t = refl
same_eq NoWitness (LeastAt d w) t = absurd t
same_eq (LeastAt d w) NoWitness t = absurd t
same_eq (LeastAt d w) (LeastAt d' w') t =
    ap₂ LeastAt (eqb→eq d d' (both_left (eqb d d') (eqb w w') t)) (eqb→eq w w' (both_right (eqb d d') (eqb w w') t))

agree : Estimate → ℕ → ℕ → ℕ → Bool
agree E r c b = same (test_of (multiples_of E r) c b) (search_of E r c b)

all_agree : (E : Estimate) → T (upto (λ r. upto (λ c. upto (agree E r c) 5) 128) 16)
unfolding agree
all_agree SevenBits = tt
all_agree EightBits = tt

module _ (E : Estimate) where
  pub tested : {r c b : ℕ} → IsCell r c b → test_of (multiples_of E r) c b ≡ search_of E r c b
  unfolding agree
  tested {r} {c} {b} k =
      same_eq _ _ (upto_at (agree E r c) 5 (upto_at (λ (n : ℕ). upto (agree E r n) 5) 128 (upto_at (λ (m : ℕ). upto (λ n. upto (agree E m n) 5) 128) 16 (all_agree E) r (omega arith)) c (omega arith)) b (omega arith))

  -- the test is right: it finds the least point that breaks the digit
  pub test_right : {r c b : ℕ} → IsCell r c b → IsLeast (Breaks E r c b) (test_of (multiples_of E r) c b)
  test_right {r} {c} {b} k = subst (IsLeast (Breaks E r c b)) (sym (tested k)) (search_right E r c b k.row k.byte)
