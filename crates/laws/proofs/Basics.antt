-- The names that proofs share: equality, the logic's data types and operators, tests, and the tactics' rules. Nothing is defined here.
pub use mathlib.Core.Path.{◌≡◌, refl, sym, ap, subst, ◌∙◌, ap₂}
pub use mathlib.Core.Bool.{Bool, true, false, not, cond, ◌||◌, ◌&&◌, true≢false, beq as Bool·beq}
pub use mathlib.Core.Logic.{◌↔◌, ◌⊎◌, inl, inr, ⊎_elim, ◌≢◌}
pub use mathlib.Core.List.{List, [], ◌∷◌, ◌++◌, append_assoc, append-nil}
pub use Prim.Native.Nat.Ordering.{eq as Ordering·eq}
pub use Prim.Native.Nat.Ordering.{gt as Ordering·gt}
pub use Prim.Native.Nat.Ordering.{lt as Ordering·lt}
pub use Prim.Native.Nat.{ℕ, zero, suc, ◌+◌, ◌-◌, ◌*◌, ◌≤◌, ◌/◌, ◌%◌, ◌<◌, ◌^◌, min, max, zero-le, compare, Ordering}
pub use native.Mathlib.Numerals.{add-one}
pub use native.Mathlib.Omega.{arith}
pub use lib.Dec.{ltb, ltb→lt, nltb→le, leb→le, le→leb, T, leb, eqb, eqb→eq, eqb_refl, lit≤, T_not, lit<, is_le, compare_is_eq}
pub use lib.ListN.{length, get_or, take, drop, set, length-append, length-take, length-drop, drop_of_length-le, get_or-eq_default as List·getD-eq-default, length-set, replicate, length-replicate, take-append-drop}
pub use lib.IntN.{ℤ, pos, negsuc, neg_ℤ, sub_ℕ, ◌+ℤ◌, ◌*ℤ◌, ◌-ℤ◌, nat_abs, neg_ℤ-neg_ℤ, +ℤ_one, +ℤ_idl}
pub use lib.Signed.{◌≤ℤ◌, non_neg, lt_z}
pub use borrow.Author.Rules.{rules}
pub use borrow.Author.Tests.{lt-ltb, le-ltb, le-leb, lt-leb, eq-eqb, ne_eqb, ltb-true, ltb-false, leb-true, eqb-true, eqb-false, leb-false}
