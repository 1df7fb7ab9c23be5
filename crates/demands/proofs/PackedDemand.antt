-- Packed decimal numbers are divided rightly.
use Rattle.laws.{proofs.Basics.{refl, sym, ap, ap₂, ◌≡◌, ◌∙◌, List, [], ◌∷◌, ℕ, ◌+◌, ◌*◌, ◌^◌, ◌<◌, arith, lit<}, specs.Lists.{list_from}, specs.Search.{first_from}}
use native.Mathlib.Nat.{le-mul_of_pos_right}
use Rattle.selection.{proofs.RefusalNames.{refusal}, specs.computed.Outcomes.{made_table}, specs.declared.Estimate.TheVariants.{EightBits}}
use Rattle.division.specs.{computed.Whole.{whole_of}, Packed.{number_to, packed_number, IsPacked}, computed.Packed.{packed_bytes, packed_values, packed_of}}
use Rattle.division.proofs.{PackedBytes.{number_below, bytes_back, bytes_packed, number_back}, PackedCalls.{packed_done}}
use Rattle.demands.proofs.Demand2.{demand_2}
use Rattle.demands.specs.computed.{Demand2.{Divides}, PackedDemand.{two, OnePacked, DividesPacked, PackedExamples, PackedDemand}}

below : (bs : List ℕ) → IsPacked bs → packed_number bs < 10 ^ 16
below bs p = number_below bs p.decimal 8 (omega arith)

one : (x : ℕ) → x < 10 ^ 16 → OnePacked x
one x h = record { packed = bytes_packed x; number = number_back x h; only = λ bs p e. sym (bytes_back bs p) ∙ ap packed_bytes e }

module _ (xs ys : List ℕ) (px : IsPacked xs) (py : IsPacked ys) (some : 0 < packed_number ys) where
  whole : Divides (packed_number xs) (packed_number ys) (whole_of (made_table EightBits) (packed_number xs) (packed_number ys))
  whole = demand_2.kept.whole (packed_number xs) (packed_number ys) (omega (arith, below xs px)) some (omega (arith, below ys py))

  divides : DividesPacked xs ys (packed_of xs ys)
  divides =
      let x = whole_of (made_table EightBits) (packed_number xs) (packed_number ys) in
      let q = number_back x.quotient (omega (arith, whole.equation, le-mul_of_pos_right x.quotient some, below xs px)) in
      let r = number_back x.remainder (omega (arith, whole.below, below ys py)) in
      rw (packed_done xs ys px.decimal py.decimal (λ e. omega arith))
      (record {
        done = refl;
        quotient = bytes_packed x.quotient;
        remainder = bytes_packed x.remainder;
        equation = rw (q, r) whole.equation;
        below = rw r whole.below;
        only = λ qs rs pq pr e l. let k = whole.only (packed_number qs) (packed_number rs) e l in (sym (bytes_back qs pq) ∙ ap packed_bytes k.0, sym (bytes_back rs pr) ∙ ap packed_bytes k.1);
      })

examples : PackedExamples
unfolding number_to first_from list_from
examples =
    let k = (demand_2.kept.whole 9876543210123456 7654321 (lit< tt) (lit< tt) (lit< tt)).only 1290322578 4563918 refl (lit< tt) in
    let divided = ap₂ (λ (q r : ℕ). packed_values (record { refusal = refusal 0 0; quotient = q; remainder = r })) (sym k.0) (sym k.1) in
    record { number = refl; divided = divided; dividend = refl; divisor = refl; by_zero = refl }

number_is : (a b c d e f g h : ℕ) → packed_number (a ∷ b ∷ c ∷ d ∷ e ∷ f ∷ g ∷ h ∷ [])
    ≡ 10 ^ 14 * two a + 10 ^ 12 * two b + 10 ^ 10 * two c + 10 ^ 8 * two d + 10 ^ 6 * two e + 10 ^ 4 * two f + 10 ^ 2 * two g + two h
unfolding number_to
number_is a b c d e f g h = omega arith

-- § 13.2 Packed numbers are divided, and no other bytes fit.
pub packed_demand : PackedDemand
packed_demand = record { number_is = number_is; back = bytes_back; below = below; one = one; divides = divides; room = lit< tt; admitted = λ xs ys px py some. (whole xs ys px py some).done; examples = examples }
