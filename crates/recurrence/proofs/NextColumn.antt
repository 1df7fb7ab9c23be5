-- The estimate ahead: the column of the next words, from the top bits of these words and of the multiple.
use Rattle.laws.proofs.{Basics.{◌≡◌, refl, ap, ◌∙◌, List, ℕ, zero, suc, add-one, ◌+◌, ◌-◌, ◌*◌, ◌/◌, ◌%◌, ◌^◌, ◌≤◌, ◌<◌, arith, lit<, ltb, get_or}, Counting.{bit_most}, Words.{same_mod, mod_sum}}
use native.Mathlib.Nat.{mod-add-mod, add-mod-mod}
use lib.Bits.{bit_and, bit_xor, and_high}
use Rattle.selection.{proofs.DigitBytes.{up_to_four}, specs.Cell.{column}, specs.declared.Estimate.{Estimate}, specs.declared.Estimate.TheVariants.{SevenBits, EightBits}}
use Rattle.recurrence.specs.{CarrySave.{sum3, maj3, multiple, lowest_carry}, Recurrence.{State, step_by}}
use Rattle.recurrence.specs.computed.FastRun.{MultiplesOf, run_state_of, state_of, top_bits_of, divisor_multiples, all_top_bits, mask_of, masked_multiples, masked_top_bits, column_ahead, renewed}
use Rattle.recurrence.specs.declared.state.RunState.{RunState}
use Rattle.recurrence.proofs.{CarrySave.{tops, majority}, Pair.{by_digit}}

shifted : (n : ℕ) → n * 4 % 2 ^ 64 / 2 ^ 56 ≡ n / 2 ^ 54 % 256
shifted n = omega arith

halves : (σ μ k t : ℕ) → k ≤ 1 → σ / 2 ^ 53 + μ / 2 ^ 53 * 2 ≡ t → σ / 2 ^ 54 + (μ * 2 + k) / 2 ^ 54 ≡ t / 2
halves σ μ k t h e = omega arith

-- the nine bits of a word that count
top : (n : ℕ) → bit_and (n % 2 ^ 62) (2 ^ 64 - 2 ^ 53) ≡ n / 2 ^ 53 % 512 * 2 ^ 53
top n = and_high (n % 2 ^ 62) 11 53 ∙ omega arith

moved_up : (u v : ℕ) → (u % 512 * 2 ^ 53 + v % 512 * 2 ^ 53) % 2 ^ 64 * 4 % 2 ^ 64 ≡ (u % 512 + v % 512) * 2 ^ 55 % 2 ^ 64
moved_up u v = omega arith

-- only one addend has bits below them
added : (u l : ℕ) → (u * 2 ^ 55 % 2 ^ 64 + l) % 2 ^ 64 / 2 ^ 57 ≡ (u + l / 2 ^ 55) % 512 / 4
added u l = rw mod-add-mod (low (u + l / 2 ^ 55) (u * 2 ^ 55 + l) (omega arith))
  where
    low : (v w : ℕ) → w / 2 ^ 55 ≡ v → w % 2 ^ 64 / 2 ^ 57 ≡ v % 512 / 4
    low v w e = omega arith

quarter_mod : (a b x : ℕ) → (a % 512 + b % 512 + (x + 256) % 512) % 512 / 4 ≡ ((a + b + x) / 2 + 128) % 256 / 2
quarter_mod a b x = rw (add-mod-mod, mod_sum a b (x + 256) 512) (half (a + b + x) (omega arith))
  where
    half : (t : ℕ) {u : ℕ} → u ≡ t + 256 → u % 512 / 4 ≡ (t / 2 + 128) % 256 / 2
    half t e = omega arith

-- the code's column: it needs the tops of the words and of the multiple, and neither of the next words
ahead : (a b x k l : ℕ) → k ≤ 1 → l / 2 ^ 55 ≡ top_bits_of x
    → ((bit_and (a % 2 ^ 62) (2 ^ 64 - 2 ^ 53) + bit_and (b % 2 ^ 62) (2 ^ 64 - 2 ^ 53)) % 2 ^ 64 * 4 % 2 ^ 64 + l) % 2 ^ 64 / 2 ^ 57
    ≡ column EightBits (sum3 a b x * 4 % 2 ^ 64) ((maj3 a b x * 2 + k) * 4 % 2 ^ 64)
ahead a b x k l h e =
    let s = sum3 a b x in
    let c = maj3 a b x * 2 + k in
    rw (top a, top b, moved_up (a / 2 ^ 53) (b / 2 ^ 53), added, e, shifted s, shifted c, mod_sum (s / 2 ^ 54) (c / 2 ^ 54) 128 256, halves s (maj3 a b x) k _ h (tops a b x 53))
    (quarter_mod (a / 2 ^ 53) (b / 2 ^ 53) (x / 2 ^ 53))

-- the top bits of each come to the top by its shift
top_bits_at : (ms : List ℕ) (d : ℕ) → d ≤ 4 → all_top_bits ms * 2 ^ (9 * d) % 2 ^ 64 / 2 ^ 55 ≡ top_bits_of (get_or ms d 0)
top_bits_at ms = joined (λ d. top_bits_of (get_or ms d 0)) (λ d. omega arith)
  where
    joined : (f : ℕ → ℕ) → ((d : ℕ) → f d < 512) → (d : ℕ) → d ≤ 4
        → ((((f 0 * 512 + f 1) * 512 + f 2) * 512 + f 3) * 512 + f 4) * 2 ^ 19 * 2 ^ (9 * d) % 2 ^ 64 / 2 ^ 55 ≡ f d
    joined f s =
        let b : (f 0 < 512) × (f 1 < 512) × (f 2 < 512) × (f 3 < 512) × (f 4 < 512) = (s 0, s 1, s 2, s 3, s 4) in
        up_to_four (λ d. ((((f 0 * 512 + f 1) * 512 + f 2) * 512 + f 3) * 512 + f 4) * 2 ^ 19 * 2 ^ (9 * d) % 2 ^ 64 / 2 ^ 55 ≡ f d) (omega arith) (omega arith) (omega arith) (omega arith) (omega arith)

pub multiple_at : (D d : ℕ) → d ≤ 4 → get_or (divisor_multiples D) d 0 ≡ multiple d D
multiple_at D = up_to_four (λ d. get_or (divisor_multiples D) d 0 ≡ multiple d D) refl (omega arith) (omega arith) (omega arith) refl

-- ---- the same for seven bits

shifted_seven : (n : ℕ) → n * 4 % 2 ^ 64 / 2 ^ 57 ≡ n / 2 ^ 55 % 128
shifted_seven n = omega arith

halves_seven : (σ μ k t : ℕ) → k ≤ 1 → σ / 2 ^ 54 + μ / 2 ^ 54 * 2 ≡ t → σ / 2 ^ 55 + (μ * 2 + k) / 2 ^ 55 ≡ t / 2
halves_seven σ μ k t h e = omega arith

top_seven : (n : ℕ) → bit_and (n % 2 ^ 62) (2 ^ 64 - 2 ^ 54) ≡ n / 2 ^ 54 % 256 * 2 ^ 54
top_seven n = and_high (n % 2 ^ 62) 10 54 ∙ omega arith

moved_up_seven : (u v : ℕ) → (u % 256 * 2 ^ 54 + v % 256 * 2 ^ 54) % 2 ^ 64 * 4 % 2 ^ 64 ≡ (2 * (u % 256) + 2 * (v % 256)) * 2 ^ 55 % 2 ^ 64
moved_up_seven u v = omega arith

half_mod : (a b x : ℕ) → (2 * (a % 256) + 2 * (b % 256) + (2 * x + 256) % 512) % 512 / 4 ≡ ((a + b + x) / 2 + 64) % 128
half_mod a b x = rw (twice a, twice b, add-mod-mod, mod_sum (2 * a) (2 * b) (2 * x + 256) 512) (half (a + b + x) (omega arith))
  where
    twice : (n : ℕ) → 2 * (n % 256) ≡ 2 * n % 512
    twice n = omega arith

    half : (t : ℕ) {u : ℕ} → u ≡ 2 * t + 256 → u % 512 / 4 ≡ (t / 2 + 64) % 128
    half t e = omega arith

ahead_seven : (a b x k l : ℕ) → k ≤ 1 → l / 2 ^ 55 ≡ (2 * (x / 2 ^ 54) + 256) % 512
    → ((bit_and (a % 2 ^ 62) (2 ^ 64 - 2 ^ 54) + bit_and (b % 2 ^ 62) (2 ^ 64 - 2 ^ 54)) % 2 ^ 64 * 4 % 2 ^ 64 + l) % 2 ^ 64 / 2 ^ 57
    ≡ column SevenBits (sum3 a b x * 4 % 2 ^ 64) ((maj3 a b x * 2 + k) * 4 % 2 ^ 64)
ahead_seven a b x k l h e =
    let s = sum3 a b x in
    let c = maj3 a b x * 2 + k in
    rw (top_seven a, top_seven b, moved_up_seven (a / 2 ^ 54) (b / 2 ^ 54), added, e, shifted_seven s, shifted_seven c, mod_sum (s / 2 ^ 55) (c / 2 ^ 55) 64 128, halves_seven s (maj3 a b x) k _ h (tops a b x 54))
    (half_mod (a / 2 ^ 54) (b / 2 ^ 54) (x / 2 ^ 54))

carry_small : (d : ℕ) → lowest_carry d ≤ 1
carry_small d = bit_most (ltb 2 d)

-- the mask drops what the estimate does not need of a multiple
masked_multiple : (D mask d : ℕ) → d ≤ 4 → get_or (masked_multiples (divisor_multiples D) mask) d 0 ≡ bit_and (multiple d D) mask
masked_multiple D mask = up_to_four (λ d. get_or (masked_multiples (divisor_multiples D) mask) d 0 ≡ bit_and (multiple d D) mask) (at 0 (lit< tt)) (at 1 (lit< tt)) (at 2 (lit< tt)) (at 3 (lit< tt)) (at 4 (lit< tt))
  where
    at : (d : ℕ) → d < 5 → bit_and (get_or (divisor_multiples D) d 0) mask ≡ bit_and (multiple d D) mask
    at d l = ap (λ (x : ℕ). bit_and x mask) (multiple_at D d (omega arith))

masked_at : (D mask d : ℕ) → d ≤ 4 → masked_top_bits (divisor_multiples D) mask * 2 ^ (9 * d) % 2 ^ 64 / 2 ^ 55 ≡ top_bits_of (bit_and (multiple d D) mask)
masked_at D mask d h = top_bits_at (masked_multiples (divisor_multiples D) mask) d h ∙ ap top_bits_of (masked_multiple D mask d h)

masked_top : (x : ℕ) → (top_bits_of (bit_and x (2 ^ 64 - 2 ^ 53)) ≡ top_bits_of x) × (top_bits_of (bit_and x (2 ^ 64 - 2 ^ 54)) ≡ (2 * (x / 2 ^ 54) + 256) % 512)
masked_top x = (rw (and_high x 11 53) (omega arith), rw (and_high x 10 54) (omega arith))

-- the mask tells the estimate
pub mask_one : (E F : Estimate) → mask_of E ≡ mask_of F → E ≡ F
mask_one SevenBits SevenBits e = refl
mask_one EightBits EightBits e = refl
mask_one SevenBits EightBits e = absurd (omega arith)
mask_one EightBits SevenBits e = absurd (omega arith)

-- the next column for either estimate
pub column_ahead_law : (E : Estimate) (p : State) (d : ℕ) → d ≤ 4 → column_ahead (mask_of E) (masked_top_bits (divisor_multiples p.divisor) (mask_of E)) d p.sum p.carry ≡ column E (step_by d p).sum (step_by d p).carry
column_ahead_law SevenBits p d h =
    ahead_seven p.sum p.carry (multiple d p.divisor) (lowest_carry d) _ (carry_small d) (masked_at p.divisor (2 ^ 64 - 2 ^ 54) d h ∙ (masked_top (multiple d p.divisor)).1)
column_ahead_law EightBits p d h =
    ahead p.sum p.carry (multiple d p.divisor) (lowest_carry d) _ (carry_small d) (masked_at p.divisor (2 ^ 64 - 2 ^ 53) d h ∙ (masked_top (multiple d p.divisor)).0)

-- bits that the additions and shifts drop on the way, the last shift would have dropped
carry_word : (m k : ℕ) → (m % 2 ^ 64 * 2 % 2 ^ 64 + k) * 4 % 2 ^ 64 ≡ (m * 2 + k) * 4 % 2 ^ 64
carry_word m k = same_mod _ _ (2 ^ 64) (8 * (m / 2 ^ 64) + 4 * (m % 2 ^ 64 * 2 / 2 ^ 64)) 0 (omega arith)

-- what the code reads for the next column gives it
column_code : {E : Estimate} {D : ℕ} {ms : List ℕ} {mask tops : ℕ} → MultiplesOf E D ms mask tops → (p : RunState) (d : ℕ) → d ≤ 4
    → column_ahead mask tops d p.sum p.carry ≡ column E (step_by d (state_of D p)).sum (step_by d (state_of D p)).carry
column_code {E} {D} m p d h = rw (m.tops_is, m.mask_is, m.multiples) (column_ahead_law E (state_of D p) d h)

-- the words, the column and the pair that the code forms are those of the step
pub step_code : {E : Estimate} {D : ℕ} {ms : List ℕ} {mask tops : ℕ} → MultiplesOf E D ms mask tops → (p : RunState) (d : ℕ) → d ≤ 4
    → ◌≡◌ {A = RunState} (record {
      sum = bit_xor (bit_xor p.sum p.carry) (get_or ms d 0) * 4 % 2 ^ 64;
      carry = ((bit_and p.sum p.carry + bit_and (bit_xor p.sum p.carry) (get_or ms d 0)) % 2 ^ 64 * 2 % 2 ^ 64 + lowest_carry d) * 4 % 2 ^ 64;
      column = column_ahead mask tops d p.sum p.carry;
      digit = d;
      value = renewed (d + 2) p.value p.decremented;
      decremented = renewed (d + 1) p.value p.decremented;
    }) (run_state_of E (step_by d (state_of D p)))
step_code {D = D} m p d h =
    let c = by_digit p.value p.decremented d h in
    rw (column_code m p d h, m.multiples, multiple_at D d h, majority, carry_word, c.value, c.decremented)

-- the top bits of the first n multiples, as the code puts them together
pub tops_upto : List ℕ → ℕ → ℕ
tops_upto ms zero = 0
tops_upto ms (suc n) = tops_upto ms n * 512 % 2 ^ 64 + top_bits_of (get_or ms n 0)

pub tops_none : (ms : List ℕ) → 0 ≡ tops_upto ms 0
unfolding tops_upto
tops_none ms = refl

pub tops_more : (ms : List ℕ) (n : ℕ) {t b : ℕ} → t ≡ tops_upto ms n → b ≡ top_bits_of (get_or ms n 0) → t * 512 % 2 ^ 64 + b ≡ tops_upto ms (n + 1)
unfolding tops_upto
tops_more ms n e f = rw (e, f, add-one) refl

-- no bit is lost
pub tops_all : (ms : List ℕ) → tops_upto ms 5 * 2 ^ 19 % 2 ^ 64 ≡ all_top_bits ms
unfolding tops_upto
tops_all ms = omega arith
