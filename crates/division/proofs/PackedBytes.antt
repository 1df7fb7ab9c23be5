-- Packed decimal: bytes to a number and back.
use Rattle.laws.proofs.Basics.{◌≡◌, refl, sym, ap, ◌∙◌, ⊎_elim, List, ℕ, zero, suc, ◌+◌, ◌-◌, ◌*◌, ◌/◌, ◌%◌, ◌^◌, ◌≤◌, ◌<◌, arith, length, get_or, set, length-set, replicate}
use Rattle.laws.proofs.Lists.{list_length, list_value}
use Rattle.std.proofs.Common.{le_of_suc-le-suc, eq-or-lt_of_le, pow-suc, get_or-set_other, get_or-set_same, ext_get_or}
use native.Mathlib.Nat.{pow-succ', div-div-eq-div-mul}
use Rattle.division.specs.{Packed.{two_digits, number_to, packed_number, Decimal, IsPacked}, computed.Packed.{digits_byte, byte_at, packed_bytes}}

-- a number without its last two digits
cut_last : (x m : ℕ) → x / 100 ^ m / 100 ≡ x / 100 ^ suc m
cut_last x m = div-div-eq-div-mul x (100 ^ m) 100 ∙ ap (λ (d : ℕ). x / d) (sym (pow-suc 100 m))

-- ---- the number of bytes

module _ (bs : List ℕ) (d : Decimal bs) where
  pub number_below : (n : ℕ) → n ≤ 8 → number_to bs n < 100 ^ n
  unfolding number_to
  number_below zero h = omega arith
  number_below (suc n) h = rw (pow-suc 100 n) (omega (arith, number_below n (omega arith), d.high n h, d.low n h))

  -- each pair of its digits is a byte's
  pair_at : (n k : ℕ) → n ≤ 8 → k < n → number_to bs n / 100 ^ (n - 1 - k) % 100 ≡ two_digits (get_or bs k 0)
  unfolding number_to
  pair_at zero k h l = absurd (omega arith)
  pair_at (suc n) k h l = ⊎_elim
      (λ (e : k ≡ n). let z : suc n - 1 - k ≡ 0 = omega arith in rw (z, e) (omega (arith, d.high n h, d.low n h)))
      (λ (g : k < n).
      let z : suc n - 1 - k ≡ suc (n - 1 - k) = omega arith in
      let v : (number_to bs n * 100 + two_digits (get_or bs n 0)) / 100 ≡ number_to bs n = omega (arith, d.high n h, d.low n h) in
      rw (z, pow-succ', ← div-div-eq-div-mul (number_to bs n * 100 + two_digits (get_or bs n 0)) 100 (100 ^ (n - 1 - k)), v) (pair_at n k (omega arith) g))
      (eq-or-lt_of_le (le_of_suc-le-suc l))

-- ---- there and back

bytes_length : (x : ℕ) → length (packed_bytes x) ≡ 8
bytes_length x = list_length (byte_at x) 0 8

bytes_at : (x k : ℕ) → k < 8 → get_or (packed_bytes x) k 0 ≡ byte_at x k
bytes_at x k h = list_value (byte_at x) 0 8 k h

-- § 13.3 Bytes come back from their number, and each number has one set of bytes.
pub bytes_back : (bs : List ℕ) → IsPacked bs → packed_bytes (packed_number bs) ≡ bs
bytes_back bs p = ext_get_or 0 (packed_bytes (packed_number bs)) bs (bytes_length (packed_number bs) ∙ sym p.eight) (λ k h.
    let l : k < 8 = omega (arith, bytes_length (packed_number bs)) in
    bytes_at (packed_number bs) k l ∙ ap digits_byte (pair_at bs p.decimal 8 k (omega arith) l) ∙ omega (arith, p.decimal.high k l, p.decimal.low k l))

module _ (x : ℕ) where
  pub bytes_packed : IsPacked (packed_bytes x)
  bytes_packed = record {
    eight = bytes_length x;
    decimal = record { high = λ k h. rw (bytes_at x k h) (omega arith); low = λ k h. rw (bytes_at x k h) (omega arith) };
  }

  -- the first n bytes of a number are the number without its later digits
  module _ (h : x < 10 ^ 16) where
    first_bytes : (n : ℕ) → n ≤ 8 → number_to (packed_bytes x) n ≡ x / 100 ^ (8 - n)
    unfolding number_to
    first_bytes zero l = omega arith
    first_bytes (suc n) l =
        let i : 8 - n ≡ suc (7 - n) = omega arith in
        let j : 8 - suc n ≡ 7 - n = omega arith in
        let v : number_to (packed_bytes x) n ≡ x / 100 ^ (7 - n) / 100 = first_bytes n (omega arith) ∙ ap (λ (m : ℕ). x / 100 ^ m) i ∙ sym (cut_last x (7 - n)) in
        let w : two_digits (get_or (packed_bytes x) n 0) ≡ x / 100 ^ (7 - n) % 100 = rw (bytes_at x n l) (omega arith) in
        rw (j, v, w) (omega arith)

    -- § 13.3 Bytes come back from their number, and each number has one set of bytes.
    pub number_back : packed_number (packed_bytes x) ≡ x
    number_back = first_bytes 8 (omega arith) ∙ omega arith

-- ---- the code's loops

-- what the bytes so far leave of a number, and that the bytes from i on are set
pub record SetFrom (x : ℕ) (bs : List ℕ) (rest i : ℕ) : Type 0 where
  pub within : i ≤ 8
  pub eight : length bs ≡ 8
  pub left : rest ≡ x / 100 ^ (8 - i)
  pub each : (k : ℕ) → i ≤ k → k < 8 → get_or bs k 0 ≡ byte_at x k

pub set_none : (x : ℕ) → SetFrom x (replicate 8 0) x 8
set_none x = record { within = omega arith; eight = refl; left = omega arith; each = λ k h l. absurd (omega arith) }

pub set_more : {x rest i : ℕ} {bs : List ℕ} → SetFrom x bs rest i → 0 < i → SetFrom x (set bs (i - 1) (digits_byte (rest % 100))) (rest / 100) (i - 1)
set_more {x} {rest} {i} {bs} s h =
    let m : 8 - i ≡ 7 - (i - 1) = omega (arith, s.within) in
    let n : suc (8 - i) ≡ 8 - (i - 1) = omega (arith, s.within) in
    record {
      within = omega (arith, s.within);
      eight = length-set bs (i - 1) (digits_byte (rest % 100)) ∙ s.eight;
      left = ap (λ (r : ℕ). r / 100) s.left ∙ cut_last x (8 - i) ∙ ap (λ (e : ℕ). x / 100 ^ e) n;
      each = λ k l g. ⊎_elim
          (λ (e : i - 1 ≡ k). rw (← e) (get_or-set_same bs (i - 1) (digits_byte (rest % 100)) 0 (omega (arith, s.eight, s.within)) ∙ ap (λ (r : ℕ). digits_byte (r % 100)) (s.left ∙ ap (λ (e : ℕ). x / 100 ^ e) m)))
          (λ (g' : i - 1 < k). get_or-set_other bs (i - 1) k (digits_byte (rest % 100)) 0 (λ e. omega arith) ∙ s.each k (omega arith) g)
          (eq-or-lt_of_le l);
    }

pub set_all : {x rest i : ℕ} {bs : List ℕ} → SetFrom x bs rest i → i ≡ 0 → bs ≡ packed_bytes x
set_all {x} {rest} {i} {bs} s e = ext_get_or 0 bs (packed_bytes x) (s.eight ∙ sym (bytes_length x)) (λ k h. let l : k < 8 = omega (arith, s.eight) in s.each k (omega arith) l ∙ sym (bytes_at x k l))
