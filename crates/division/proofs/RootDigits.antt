-- The digits of a root, one a step.
use Rattle.laws.proofs.{Basics.{◌≡◌, refl, sym, ap, ◌∙◌, cond, ⊎_elim, ℕ, suc, ◌+◌, ◌*◌, ◌/◌, ◌%◌, ◌^◌, ◌≤◌, ◌<◌, arith, ltb, lt-ltb, le-ltb}, Division.{le_or_lt}}
use Rattle.std.proofs.Common.{add-zero, pow-suc, pow_mono}
use Rattle.division.specs.{computed.RootSteps.{DigitsTaken}, declared.root.RootState.{RootState}}

-- one digit of the weight h, after digits down to twice that weight: s is twice the root so far and r what is left, x and y are the next of both
record Digit (s r h x y : ℕ) : Type 0 where
  pub square : x * x + 4 * (h * y) ≡ s * s + 4 * (h * 2 * r)
  pub left : y < x + h
  pub room : x + 2 * h ≤ s + 2 * (h * 2)
  pub places : (q : ℕ) → s ≡ q * (2 * (h * 2)) → (n : ℕ) × (x ≡ n * (2 * h))

module _ (s r h : ℕ) (l : r < s + h * 2) where
  -- d is what the trial leaves, modulo 2^64: its top bit tells whether the trial fits
  digit_meets : (d : ℕ) → s + 2 * (h * 2) ≤ 2 ^ 63 → d < 2 ^ 64 → (d + (s + h)) % 2 ^ 64 ≡ 2 * r → Digit s r h (s + cond (ltb d (2 ^ 63)) (h * 2) 0) (cond (ltb d (2 ^ 63)) d (2 * r))
  digit_meets d b w e = ⊎_elim
      (λ (g : 2 ^ 64 ≤ d + (s + h)). rw (le-ltb d (2 ^ 63) (omega arith), add-zero s) (record { square = omega arith; left = omega arith; room = omega arith; places = λ q i. (2 * q, omega (arith, i)) }))
      (λ (g : d + (s + h) < 2 ^ 64).
      let k : h * (d + (s + h)) ≡ h * (2 * r) = ap (λ (z : ℕ). h * z) (omega arith) in
      rw (lt-ltb d (2 ^ 63) (omega arith)) (record { square = omega (arith, k); left = omega arith; room = omega arith; places = λ q i. (2 * q + 1, omega (arith, i)) }))
      (le_or_lt (2 ^ 64) (d + (s + h)))

-- no digit yet, and one digit more
pub none_taken : (radicand k u : ℕ) → radicand < 2 ^ k → k ≤ 62 → u ≡ 1 * 2 ^ k % 2 ^ 64 → DigitsTaken (2 ^ k * radicand) k (record { twice = 0; rest = radicand; unit = u })
none_taken radicand k u h l e =
    let m : 2 ^ k ≤ 2 ^ 62 = pow_mono l in
    let f : u ≡ 2 ^ k = omega (arith, m) in
    rw f (record { weight = refl; digits = 0; placed = omega arith; value = omega arith; left = omega arith; room = omega (arith, m) })

pub one_more : (m k u d v w : ℕ) (x : RootState) → DigitsTaken m (suc k) x → u ≡ x.unit / 2 → d < 2 ^ 64 → (d + (x.twice + u)) % 2 ^ 64 ≡ 2 * x.rest
    → v ≡ cond (ltb d (2 ^ 63)) x.unit 0 → w ≡ cond (ltb d (2 ^ 63)) d (2 * x.rest) → DigitsTaken m k (record { twice = x.twice + v; rest = w; unit = u })
one_more m k u d v w x t eu hd ed ev ew =
    let e : x.unit ≡ 2 ^ k * 2 = t.weight ∙ pow-suc 2 k in
    let f : u ≡ 2 ^ k = omega arith in
    let i : x.unit ≡ u * 2 = omega arith in
    let g = digit_meets x.twice x.rest u (omega (arith, t.left)) d (omega (arith, t.room)) hd ed in
    let n = g.places t.digits (t.placed ∙ ap (λ (z : ℕ). t.digits * (2 * z)) i) in
    rw (ev, ew, i) (record {
      weight = f;
      digits = n.0;
      placed = n.1;
      value = g.square ∙ ap (λ (z : ℕ). x.twice * x.twice + 4 * (z * x.rest)) (sym i) ∙ t.value;
      left = g.left;
      room = omega (arith, g.room, t.room);
    })
