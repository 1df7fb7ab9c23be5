-- The refusals of packed division: as the code gives them, and in demand 1's words.
use Rattle.laws.proofs.{Basics.{◌≡◌, refl, sym, ap, ◌∙◌, List, ◌++◌, inl, inr, ⊎_elim, ℕ, ◌+◌, ◌-◌, ◌/◌, ◌%◌, ◌^◌, ◌≤◌, ◌<◌, arith, length, length-append, get_or, lt-ltb, le-ltb, lt-leb}, Division.{le_or_lt}, Tests.{Decides}}
use Rattle.laws.{specs.Search.{first_from}, proofs.Search.{position_some, position_none}}
use Rattle.std.specs.Prelude.{position, Some, None, Result, Ok, Err, ⊤}
use lib.{Seq.{get_or-append-add}, ListN.{get_or-append}}
use Rattle.selection.proofs.{RefusalNames.{refusal, answer_by, below, either_of, first_refusal, Wrongs, rank, Refuses, holds_decides, found, not_found, WellFormed, refuses, clear_admits, refused_at}, TableRefusals.{first_kept}}
use Rattle.selection.specs.{declared.Refusal.{Refusal}, computed.Outcomes.{made_table}, declared.Estimate.TheVariants.{EightBits}}
use Rattle.division.specs.{computed.Whole.{whole_rules, whole_zeros, whole_values, whole_of}, computed.WholeSteps.{whole_through}, declared.whole.WholeResult.{WholeResult}}
use Rattle.division.specs.{declared.packed.Packed.{Packed}, Packed.{packed_number, Decimal}}
use Rattle.division.specs.computed.Packed.{operand_byte, Above9, is_above9, packed_rules, packed_zeros, packed_values, packed_of}
use Rattle.division.proofs.PackedBytes.{number_below}

decimal_none : {bs : List ℕ} → Decimal bs → (i : ℕ) → i < 8 → Above9 (get_or bs i 0) → ⊥
decimal_none d i h = ⊎_elim (λ x. omega (arith, d.high i h)) (λ x. omega (arith, d.low i h))

decimal_of : (bs : List ℕ) → ((i : ℕ) → i < 8 → Above9 (get_or bs i 0) → ⊥) → Decimal bs
decimal_of bs n = record {
  high = λ i h. ⊎_elim (λ k. k) (λ k. absurd (n i h (inl k))) (le_or_lt (get_or bs i 0 / 16) 9);
  low = λ i h. ⊎_elim (λ k. k) (λ k. absurd (n i h (inr k))) (le_or_lt (get_or bs i 0 % 16) 9);
}

module _ (xs ys : List ℕ) where
  above_decides : (k : ℕ) → k < 16 → Decides (Above9 (operand_byte xs ys k)) (is_above9 (operand_byte xs ys k))
  above_decides k h = let b = operand_byte xs ys k in holds_decides (either_of (below 9 (b / 16)) (below 9 (b % 16)))

  packed_rules_law : WellFormed (packed_rules xs ys)
  unfolding rank
  packed_rules_law = record { sound = (above_decides, λ _. (tt, λ _. tt)); in_order = tt }

  -- the operands' own bytes
  dividend_byte : (i : ℕ) → i < 8 → operand_byte xs ys i ≡ get_or xs i 0
  dividend_byte i h = rw (lt-ltb i 8 h) refl

  divisor_byte : (i : ℕ) → i < 8 → operand_byte xs ys (i + 8) ≡ get_or ys i 0
  divisor_byte i h = let e : i + 8 - 8 ≡ i = omega arith in rw (le-ltb (i + 8) 8 (omega arith), e) refl

  -- no half byte of the dividend is above 9, nor of the divisor's first j bytes
  none_before : Decimal xs → (j : ℕ) → j ≤ 8 → ((i : ℕ) → i < j → Above9 (get_or ys i 0) → ⊥) → (i : ℕ) → i < j + 8 → Above9 (operand_byte xs ys i) → ⊥
  none_before d j m none i h = ⊎_elim
      (λ (g : 8 ≤ i). let e : i ≡ i - 8 + 8 = omega arith in rw (e, divisor_byte (i - 8) (omega arith)) (none (i - 8) (omega arith)))
      (λ (g : i < 8). rw (dividend_byte i g) (decimal_none d i g))
      (le_or_lt 8 i)

  decimal_past : Decimal xs → Decimal ys → (i : ℕ) → i < 16 → Above9 (operand_byte xs ys i) → ⊥
  decimal_past dx dy = none_before dx 8 (omega arith) (decimal_none dy)

  -- ---- the answer: the two refusals, and none

  abbrev answer : Result ⊤ Refusal → Packed
  answer = answer_by packed_zeros (packed_values (whole_of (made_table EightBits) (packed_number xs) (packed_number ys)))

  -- the code searches the operands' bytes one after the other
  module _ (nx : length xs ≡ 8) (ny : length ys ≡ 8) where
    operands_length : length (xs ++ ys) ≡ 16
    operands_length = rw (length-append, nx, ny) refl

    byte_at : (i : ℕ) → operand_byte xs ys i ≡ get_or (xs ++ ys) i 0
    byte_at i = ⊎_elim
        (λ (g : 8 ≤ i). let e : i ≡ length xs + (i - 8) = omega arith in rw (le-ltb i 8 g) (sym (ap (λ (k : ℕ). get_or (xs ++ ys) k 0) e ∙ get_or-append-add xs ys (i - 8) 0)))
        (λ (g : i < 8). rw (lt-ltb i 8 g) (sym (get_or-append xs ys 0 i (omega arith))))
        (le_or_lt 8 i)

    operands_at : (i : ℕ) → i < length (xs ++ ys) → is_above9 (operand_byte xs ys i) ≡ is_above9 (get_or (xs ++ ys) i 0)
    operands_at i h = ap is_above9 (byte_at i)

    pub byte_refused : (p : ℕ) → position is_above9 (xs ++ ys) ≡ Some p → packed_of xs ys ≡ packed_zeros (refusal 15 p)
    byte_refused p e =
        let k = position_some is_above9 0 (λ i. is_above9 (operand_byte xs ys i)) (xs ++ ys) operands_at e in
        ap answer (refused_at packed_rules_law 0 p (found (λ i. is_above9 (operand_byte xs ys i)) 16 above_decides (rw operands_length at k.0) (omega (arith, operands_length, k.1))))

    -- where no half byte is above 9 the two numbers are in their spans, and the refusal is theirs
    module _ (e : position is_above9 (xs ++ ys) ≡ None) where
      past : 16 ≤ first_from (λ i. is_above9 (operand_byte xs ys i)) 0 16
      past = rw operands_length at (position_none is_above9 0 (λ i. is_above9 (operand_byte xs ys i)) (xs ++ ys) operands_at e)

      none : (i : ℕ) → i < 16 → Above9 (operand_byte xs ys i) → ⊥
      none = not_found (λ i. is_above9 (operand_byte xs ys i)) 16 above_decides past

      same_refusal : first_refusal (packed_rules xs ys) ≡ first_refusal (whole_rules (packed_number xs) (packed_number ys))
      same_refusal =
          let a = number_below xs (decimal_of xs (λ i h x. none i (omega arith) (rw (dividend_byte i h) x))) 8 (omega arith) in
          let b = number_below ys (decimal_of ys (λ i h x. none (i + 8) (omega arith) (rw (divisor_byte i h) x))) 8 (omega arith) in
          rw (le-ltb _ _ past, lt-leb (2 ^ 60) (packed_number xs) (omega arith), lt-leb (2 ^ 60) (packed_number ys) (omega arith)) refl

      pub numbers_refused : {f : Refusal} → first_refusal (whole_rules (packed_number xs) (packed_number ys)) ≡ Err f → packed_of xs ys ≡ packed_zeros f
      numbers_refused k = ap answer (same_refusal ∙ k)

      pub numbers_divided : {x : WholeResult} → first_refusal (whole_rules (packed_number xs) (packed_number ys)) ≡ Ok tt → x ≡ whole_through EightBits (made_table EightBits) (packed_number xs) (packed_number ys)
          → packed_of xs ys ≡ packed_values (whole_values x)
      numbers_divided {x} k w =
          let a = packed_number xs in
          let b = packed_number ys in
          ap answer (same_refusal ∙ k)
          ∙ ap (λ (v : Result ⊤ Refusal). packed_values (answer_by whole_zeros (whole_values (whole_through EightBits (made_table EightBits) a b)) v)) (first_kept EightBits (whole_rules a b) refl k)
          ∙ ap (λ (y : WholeResult). packed_values (whole_values y)) (sym w)

  -- ---- for demand 1

  pub packed_refuses : Refuses (Wrongs (packed_rules xs ys)) (λ x. x.refusal) packed_zeros (packed_of xs ys)
  packed_refuses = refuses packed_rules_law (λ x. x.refusal) packed_zeros (packed_values (whole_of (made_table EightBits) (packed_number xs) (packed_number ys))) refl (λ f. refl) refl

  -- § 13.4 Packed numbers are refused under these rules.
  pub packed_dividend : (p : ℕ) → p < 8 → Above9 (get_or xs p 0) → ((i : ℕ) → i < p → Above9 (get_or xs i 0) → ⊥) → packed_of xs ys ≡ packed_zeros (refusal 15 p)
  packed_dividend p h a before = ap answer (refused_at packed_rules_law 0 p (omega arith, record { here = rw (dividend_byte p h) a; before = λ i l x. before i l (rw (dividend_byte i (omega arith)) at x) }))

  -- § 13.4 Packed numbers are refused under these rules.
  pub packed_divisor : (p : ℕ) → Decimal xs → p < 8 → Above9 (get_or ys p 0) → ((i : ℕ) → i < p → Above9 (get_or ys i 0) → ⊥) → packed_of xs ys ≡ packed_zeros (refusal 15 (p + 8))
  packed_divisor p d h a before = ap answer (refused_at packed_rules_law 0 (p + 8) (omega arith, record { here = rw (divisor_byte p h) a; before = none_before d p (omega arith) before }))

  -- § 13.4 Packed numbers are refused under these rules.
  pub packed_by_zero : Decimal xs → Decimal ys → packed_number ys ≡ 0 → packed_of xs ys ≡ packed_zeros (refusal 5 0)
  packed_by_zero dx dy h = ap answer (refused_at packed_rules_law 1 0 (decimal_past dx dy, (refl, h)))

  pub packed_done : Decimal xs → Decimal ys → (packed_number ys ≡ 0 → ⊥) → packed_of xs ys ≡ packed_values (whole_of (made_table EightBits) (packed_number xs) (packed_number ys))
  packed_done dx dy h = ap answer (clear_admits packed_rules_law (decimal_past dx dy, (h, tt)))
