-- The refusals of the arguments.
use Rattle.std.specs.Prelude.{Ok}
use Rattle.laws.proofs.Basics.{◌≡◌, List, ◌++◌, ℕ, ◌+◌, ◌≤◌, arith}
use Rattle.selection.{proofs.RefusalNames.{first_refusal, rank, table_rules, WellFormed, cleared, clear_admits, lent}, specs.declared.Estimate.TheVariants.{EightBits}}
use Rattle.recurrence.specs.{Recurrence.{Operands}, computed.Run.{most_digits, run_rules}}

module _ (N D n len place : ℕ) where
  pub run_rules_law : WellFormed (run_rules N D n len place)
  unfolding run_rules rank
  run_rules_law = record { sound = (tt, λ _. (tt, λ _. (tt, λ _. tt))); in_order = tt }

  pub run_lent : (t : List ℕ) → WellFormed (run_rules N D n len place ++ table_rules EightBits t)
  unfolding run_rules table_rules rank
  run_lent t = lent EightBits (run_rules N D n len place) t run_rules_law tt

  -- arguments without a refusal of their own are in their spans
  pub spans : first_refusal (run_rules N D n len place) ≡ Ok tt → Operands N D × 1 ≤ n
  unfolding run_rules
  spans e = let c = cleared run_rules_law e in omega arith

  -- and the other way round
  pub no_refusal : Operands N D → 1 ≤ n → n ≤ most_digits → place + n ≤ len → first_refusal (run_rules N D n len place) ≡ Ok tt
  unfolding run_rules
  no_refusal o h l r = clear_admits run_rules_law (omega arith)
