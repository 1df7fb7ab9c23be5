-- Binary64 through a table that passes: the run's digits give the definition's quotient.
use Rattle.laws.proofs.{Basics.{◌≡◌, refl, sym, ⊎_elim, List, ℕ, ◌+◌, ◌-◌, ◌*◌, ◌/◌, ◌^◌, ◌≤◌, ◌<◌, arith, min, lit<, ne_eqb, le-leb, lt-leb}, Division.{le_or_lt}, Powers.{lifted}}
use Rattle.laws.specs.Shifts.{shift_to}
use Rattle.std.proofs.Common.{Option, Some, None, mul_assoc, div-lt_iff_lt-mul, eq-zero-or-pos, le-div_iff_mul-le, pow-add}
use Rattle.selection.specs.{Table.{Passes}, declared.Estimate.{Estimate}}
use Rattle.recurrence.{specs.Recurrence.{result_of}, proofs.RunDemand.{result_divides}}
use Rattle.division.proofs.Binary64Names.{magnitude, field, fraction, sign_of, by_class, or_rounded, quotient_of, significand_of, FiniteNonzero, Binary64Result, sticky}
use Rattle.division.proofs.Binary64Names.{ratio_through, aligned_of, rounded_quotient, binary64_through}
use Rattle.division.proofs.{Sticky.{cut_high, cut_low}, Quotient.{ScaledTo, AlignedTo, aligned_is}, Classes.{nonzero_operand, quotient_nonzero}}

pub significand_right : (p : ℕ) → FiniteNonzero p → ScaledTo (magnitude p) (significand_of p)
significand_right p h = let u = nonzero_operand p h in ⊎_elim
    (λ (z : field p ≡ 0).
    let d = fraction p in
    let k : 0 < d = omega (arith, rw z at u.0) in
    let s = shift_to 60 d in
    let f = lifted 60 d (lit< tt) k (omega arith) in
    let e : s + (60 - s) ≡ 60 = omega (arith, f.1) in
    rw z (record { bits = record { low = f.2; high = f.3; small = omega arith }; same = rw (mul_assoc, ← pow-add 2 s (60 - s), e) }))
    (λ (g : 0 < field p).
    let e : field p + 51 ≡ (field p - 1) + 52 = omega arith in
    rw (ne_eqb (field p) 0 (omega arith)) (record { bits = record { low = omega arith; high = omega arith; small = omega arith }; same = rw (e, pow-add 2 (field p - 1) 52) (omega arith) }))
    (eq-zero-or-pos (field p))

pub aligned_right : (w up down : ℕ) → 2 ^ 54 ≤ w → w < 2 ^ 56 → up ≤ 3118 → down ≤ 2097 → AlignedTo w up down (aligned_of w up down)
aligned_right w up down lw hw hu hd =
    let extra = w / 2 ^ 55 in
    ⊎_elim
    (λ (g : down ≤ up + extra). rw (le-leb down (up + extra) g) (at (up + extra - down) extra (omega arith) (omega arith) (omega (arith, cut_low w extra lw refl hw)) (omega arith)))
    (λ (g : up + extra < down). rw (lt-leb down (up + extra) g) (at 0 (down - up) (omega arith) (omega arith) (omega arith) (omega arith)))
    (le_or_lt down (up + extra))
  where
    -- cut down by c bits
    at : (e c : ℕ) → e + down ≡ up + c → w / 2 ^ 55 ≤ c → 2 ^ 54 * min 1 e ≤ sticky w (2 * 2 ^ c) → e ≤ 3119 → AlignedTo w up down (record { exponent = e; quarters = sticky w (2 * 2 ^ c) })
    at e c q l low small = let z : e + down - up ≡ c = omega arith in record { reach = omega arith; value = rw z refl; low = low; high = cut_high w c hw l; small = small }

-- answers that are the same where the classes decide nothing
pub rounded_same : (k : Option Binary64Result) {x y : Binary64Result} → (k ≡ None → x ≡ y) → or_rounded x k ≡ or_rounded y k
rounded_same (Some z) f = refl
rounded_same None f = f refl

-- in a divider with the estimate E
module _ (E : Estimate) where
  -- the run of 28 digits gives the quotient with 54 bits after the point
  pub ratio_right : (t : List ℕ) (a b : ℕ) → Passes E t → 2 ^ 60 ≤ a → a < 2 ^ 61 → 2 ^ 60 ≤ b → b < 2 ^ 61
      → (ratio_through E t a b ≡ sticky (a * 2 ^ 54) b) × ((result_of E t a b 28).quotient < 2 ^ 55) × (2 ^ 54 ≤ ratio_through E t a b) × (ratio_through E t a b < 2 ^ 56)
  unfolding ratio_through
  ratio_right t a b p la ha lb hb =
      let e = result_divides E t a b 28 p (record { dividend = ha; least = lb; most = hb }) (omega arith) in
      let low = (le-div_iff_mul-le {k = b} {x = 2 ^ 53} {y = a * 2 ^ 54} (omega arith)).1 (omega arith) in
      let high = (div-lt_iff_lt-mul {k = b} {x = a * 2 ^ 54} {y = 2 ^ 55} (omega arith)).1 (omega arith) in
      rw e (refl, high, omega arith, omega arith)

  -- § 9.10 The quotient is that of a run of 28 digits through the table.
  pub binary64_through_law : (t : List ℕ) (direction a b : ℕ) → Passes E t → binary64_through E t direction a b ≡ quotient_of direction a b
  unfolding rounded_quotient
  binary64_through_law t direction a b p = rounded_same (by_class a b) (λ e.
      let u = quotient_nonzero a b e in
      let x = significand_of a in
      let y = significand_of b in
      let sx = significand_right a u.0 in
      let sy = significand_right b u.1 in
      let w = ratio_right t x.sig y.sig p sx.bits.low sx.bits.high sy.bits.low sy.bits.high in
      let q = ratio_through E t x.sig y.sig in
      sym (aligned_is direction (sign_of a b) (magnitude a) (magnitude b) q x y (aligned_of q (x.exp + 1021) y.exp) (nonzero_operand b u.1).0 sx sy w.0
      (aligned_right q (x.exp + 1021) y.exp w.2 w.3 (omega (arith, sx.bits.small)) sy.bits.small)))
