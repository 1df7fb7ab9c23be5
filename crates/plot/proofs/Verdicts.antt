-- What the check of a single cell says.
use Rattle.laws.proofs.Basics.{◌≡◌, refl, sym, true≢false, ℕ}
use Rattle.std.proofs.Common.{Option, Some, None, Ok, is_none}
use Rattle.selection.proofs.Verdicts.{verdict_says}
use Rattle.selection.specs.{computed.Outcomes.{cell_of}}
use Rattle.selection.specs.declared.{Estimate.{Estimate}, Witness.{Witness}}
use Rattle.plot.specs.Plot.{AllowedIs}

-- a digit is allowed where the check has no witness against it
pub allowed_is : (E : Estimate) (r c b : ℕ) (v : Option Witness) → Ok v ≡ cell_of E r c b → AllowedIs E r c b (is_none v)
allowed_is E r c b None e = record { yes = λ x. (verdict_says E r c b e refl).1; no = λ x. absurd (true≢false x) }
allowed_is E r c b (Some w) e =
    let against = (verdict_says E r c b e refl).1.against in
    record { yes = λ x. absurd (true≢false (sym x)); no = λ x. record { divisor = _; remainder = _; against = against } }
