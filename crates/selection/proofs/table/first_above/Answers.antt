use Rattle.laws.proofs.Basics.{◌≡◌, refl, true, List, [], ◌∷◌, ℕ, arith, ltb, leb, length, le-ltb}
use Rattle.std.specs.List.{list_all, position_or_len}
use Rattle.std.proofs.lemmas.Bool.Decides.{nat_tests}
use Rattle.selection.proofs.table.first_above.Goals as goal

none_first : (xs : List ℕ) → true ≡ list_all (λ b. leb b 4) xs → position_or_len (λ b. ltb 4 b) xs ≡ length xs
none_first [] h = refl
none_first (x ∷ xs) h = grind (arith, nat_tests, none_first xs)

pub returns-then-none_above : goal.returns-then-none_above
returns-then-none_above c = let n = length c.args.table.now in rw (none_first _ c.if-none_above.ensures, le-ltb n n (omega arith))
