-- The lines of a file's bytes are what `chunks` gives, and those that pass a test are counted.
use Rattle.laws.proofs.Basics.{◌≡◌, sym, ap, ◌∙◌, Bool, true, false, cond, List, [], ◌∷◌, ◌++◌, append-nil, ⊎_elim, ℕ, zero, suc, ◌+◌, ◌*◌, ◌<◌, min, arith, length, take, drop, length-append}
use Rattle.laws.proofs.{Division.{le_or_lt}, Sums.{sum_as}, Counting.{count_start}}
use Rattle.laws.specs.{Counting.{count_below}, Sums.{sum_below}}
use Rattle.std.specs.List.{filter}
use Rattle.std.specs.Slice.Iter.{chunks_rest, chunks_size, chunks_steps}
use Rattle.std.proofs.lemmas.{List.{drop-drop, nil_from_length}, Iterator.{YieldsList}, Iterator.Splits.{YieldsList-from_shown_while}}
use lib.Seq.{take_all, take_at, drop_at}
use Rattle.vectors.specs.Vectors.{line_at, lines_in}

-- the first n lines
first_lines : ℕ → List ℕ → List (List ℕ)
first_lines zero s = []
first_lines (suc n) s = take 56 s ∷ first_lines n (drop 56 s)

pub lines_of : List ℕ → List (List ℕ)
lines_of s = first_lines (lines_in s) s

-- a line comes off the front, and is short only where less is left
one_line : (a r s : List ℕ) → s ≡ a ++ r → length a ≡ min 56 (length s) → 0 < length s → lines_of s ≡ a ∷ lines_of r
unfolding lines_of first_lines
one_line a r s e l h =
    let size : length s ≡ length a + length r = ap length e ∙ length-append a r in
    let more : lines_in s ≡ suc (lines_in r) = omega arith in
    ⊎_elim
    (λ k. rw (more, e) (rw (take_at a r 56 (omega arith), drop_at a r 56 (omega arith))))
    (λ k. let none : r ≡ [] = nil_from_length r (omega arith) in rw (more, e, none, append-nil, take_all 56 a (omega arith)))
    (le_or_lt 56 (length s))

no_line : (s : List ℕ) → length s ≡ 0 → length (lines_of s) ≡ 0
unfolding lines_of first_lines
no_line s h = let none : lines_in s ≡ 0 = omega arith in rw none

pub chunked : {t : _} (s : List ℕ) → chunks_rest t ≡ s → chunks_size t ≡ 56 → YieldsList (chunks_steps {A = ℕ}) (λ x. x.now) t (lines_of s)
chunked {t} s e z =
    rw (← e) (YieldsList-from_shown_while (chunks_steps {A = ℕ}) (λ x. x.now) (λ u. lines_of (chunks_rest u)) (λ u. chunks_size u ≡ 56)
    (λ u w p g. no_line (chunks_rest u) g.1.0)
    (λ u x w p g. (g.0 ∙ p, one_line x.now (chunks_rest w) (chunks_rest u) g.1.0 (g.1.1 ∙ rw p) g.1.2))
    t z)

counted_first : (g : ℕ → Bool) (n : ℕ) → count_below g (suc n) ≡ cond (g 0) 1 0 + count_below (λ k. g (1 + k)) n
unfolding count_below sum_below
counted_first g zero = omega arith
counted_first g (suc n) = omega (arith, counted_first g n, let e : 1 + n ≡ suc n = omega arith in ap (λ (k : ℕ). let x : ℕ = cond (g k) 1 0 in x) e)

counted_later : (f : List ℕ → Bool) (s : List ℕ) (n : ℕ) → count_below (λ k. f (line_at s (1 + k))) n ≡ count_below (λ k. f (line_at (drop 56 s) k)) n
unfolding count_below
counted_later f s n = sum_as _ _ n (λ k h. let e : 56 * (1 + k) ≡ 56 + 56 * k = omega arith in rw (e, drop-drop (56 * k) 56 s))

first_counted : (f : List ℕ → Bool) (n : ℕ) (s : List ℕ) → length (filter f (first_lines n s)) ≡ count_below (λ k. f (line_at s k)) n
unfolding first_lines
first_counted f zero s = sym (count_start _)
first_counted f (suc n) s =
    let later = first_counted f n (drop 56 s) ∙ sym (counted_later f s n) in
    rw (counted_first (λ k. f (line_at s k)) n, ← later) (elim (f (take 56 s)) as (λ b. length (cond b (take 56 s ∷ filter f (first_lines n (drop 56 s))) (filter f (first_lines n (drop 56 s)))) ≡ cond b 1 0 + length (filter f (first_lines n (drop 56 s)))) [ true ↦ omega arith | false ↦ omega arith ])

pub counted : (f : List ℕ → Bool) (s : List ℕ) → length (filter f (lines_of s)) ≡ count_below (λ k. f (line_at s k)) (lines_in s)
unfolding lines_of
counted f s = first_counted f (lines_in s) s
