-- The first byte above 4, where the library says its position: it is refused, and without one 2,048 bytes are a table.
use Rattle.laws.proofs.Basics.{◌≡◌, refl, List, ℕ, length, get_or, ltb, lt-ltb}
use Rattle.laws.proofs.{Search.{position_some, position_none}, Tests.{less_decides}}
use Rattle.std.specs.Prelude.{Some, None, Err, position}
use Rattle.selection.specs.{Table.{Table}, Answer.{refusal}, computed.{Allowed.{above_four}, Refusals.{first_refusal}, Table.{form_rules}}}
use Rattle.selection.proofs.{Tables.{table_of}, OneRule.{not_found}}

module _ (t : List ℕ) (size : length t ≡ 2048) where
  -- the first index of a byte above 4 is refused
  pub refused_above : {k : ℕ} → position (λ b. ltb 4 b) t ≡ Some k → Err (refusal 9 k) ≡ first_refusal (form_rules t)
  refused_above e =
      let s = rw size at (position_some (λ b. ltb 4 b) 0 (above_four t) t (λ k h. refl) e) in
      rw (size, s.0, lt-ltb _ 2048 (rw s.0 at s.1)) refl

  -- and without one the bytes are a table
  pub none_above : position (λ b. ltb 4 b) t ≡ None → Table t
  none_above e = table_of t size (not_found (above_four t) 2048 (λ k l. less_decides 4 (get_or t k 0)) (rw size at (position_none (λ b. ltb 4 b) 0 (above_four t) t (λ k h. refl) e)))
