-- A list by its index, a lent list filled from the front, and a part of a list lent and put back.
use Rattle.laws.proofs.Basics.{◌≡◌, refl, sym, ap, ◌∙◌, ◌⊎◌, ⊎_elim, List, [], ◌∷◌, ◌++◌, append_assoc, append-nil, ℕ, zero, suc, ◌+◌, ◌-◌, ◌*◌, ◌≤◌, ◌<◌, min, add-one, arith, length, get_or, take, drop, set, length-append, length-take, length-drop, drop_of_length-le}
use Rattle.laws.proofs.Division.{le_or_lt}
use native.Mathlib.Nat.{add-zero, add-suc, suc-add, zero-add, not-suc-le-zero, le_of_suc-le-suc, eq-or-lt_of_le}
use lib.{Seq.{drop-drop, drop-cons, set_at, get_or-set_same, get_or-set_other, get_or-append-add, get_or-drop, ext_get_or}, ListN.{get_or-append}}
use Rattle.laws.specs.Lists.{list_from, filled, KeptFrom, FilledWith}

module _ {X : Type 0} (f : ℕ → X) where
  pub list_length : (i n : ℕ) → length (list_from f i n) ≡ n
  unfolding list_from
  list_length i zero = refl
  list_length i (suc n) = ap suc (list_length (suc i) n)

  pub list_at : (d : X) (i n k : ℕ) → k < n → get_or (list_from f i n) k d ≡ f (i + k)
  unfolding list_from
  list_at d i zero k h = absurd (not-suc-le-zero h)
  list_at d i (suc n) zero h = ap f (sym (add-zero i))
  list_at d i (suc n) (suc k) h = list_at d (suc i) n k (le_of_suc-le-suc h) ∙ ap f (suc-add i k ∙ sym (add-suc i k))

  pub list_value : (d : X) (n k : ℕ) → k < n → get_or (list_from f 0 n) k d ≡ f k
  list_value d n k h = rw zero-add at (list_at d 0 n k h)

  list_more : (i n : ℕ) → list_from f i (suc n) ≡ list_from f i n ++ (f (i + n) ∷ [])
  unfolding list_from
  list_more i zero = ap (λ (m : ℕ). f m ∷ []) (sym (add-zero i))
  list_more i (suc n) = ap (λ (l : List X). f i ∷ l) (list_more (suc i) n ∙ ap (λ (m : ℕ). list_from f (suc i) n ++ (f m ∷ [])) (suc-add i n ∙ sym (add-suc i n)))

  -- one value more
  pub list_snoc : (n : ℕ) → list_from f 0 (suc n) ≡ list_from f 0 n ++ (f n ∷ [])
  list_snoc n = list_more 0 n ∙ ap (λ (m : ℕ). list_from f 0 n ++ (f m ∷ [])) (zero-add n)

  -- a loop that fills the list o from the front: nothing is filled, place i is stored, every place is
  module _ (o : List X) where
    pub fill_none : filled f 0 o ≡ o
    unfolding list_from
    fill_none = refl

    pub fill_more : (i : ℕ) → i < length o → set (filled f i o) i (f i) ≡ filled f (i + 1) o
    fill_more i h = rw (add-one, list_snoc, drop-cons o i (f i) h, set_at (list_from f 0 i) (get_or o i (f i)) (drop (suc i) o) (f i) i (list_length 0 i), append_assoc)

    pub fill_length : (i : ℕ) → i ≤ length o → length (filled f i o) ≡ length o
    fill_length i h = rw (length-append, length-drop, list_length 0 i) (omega arith)

    pub fill_all : (n : ℕ) → length o ≤ n → filled f n o ≡ list_from f 0 n
    fill_all n h = rw (drop_of_length-le o {i = n} h, append-nil)

    -- what stands at a place that is filled, and at one past them
    pub fill_at : (d : X) (n k : ℕ) → k < n → get_or (filled f n o) k d ≡ f k
    fill_at d n k h = get_or-append (list_from f 0 n) (drop n o) d k (omega (arith, list_length 0 n)) ∙ list_value d n k h

    pub fill_rest : (d : X) (n k : ℕ) → n ≤ k → get_or (filled f n o) k d ≡ get_or o k d
    fill_rest d n k h =
        let e : k ≡ n + (k - n) = omega arith in
        rw e (ap (λ (m : ℕ). get_or (filled f n o) (m + (k - n)) d) (sym (list_length 0 n)) ∙ get_or-append-add (list_from f 0 n) (drop n o) (k - n) d ∙ get_or-drop n o (k - n) d)

-- a filled list, place by place; and lists that are kept from n on and agree before are the same
pub fill_kept : (f : ℕ → ℕ) (n : ℕ) (o : List ℕ) → n ≤ length o → KeptFrom n o (filled f n o)
fill_kept f n o h = record { size = fill_length f o n h; rest = fill_rest f o 0 n }

pub fill_right : (f : ℕ → ℕ) (n : ℕ) (o : List ℕ) → n ≤ length o → FilledWith f n o (filled f n o)
fill_right f n o h = record { each = fill_at f o 0 n; kept = fill_kept f n o h }

pub kept_one : {n : ℕ} {o a b : List ℕ} → KeptFrom n o a → KeptFrom n o b → ((j : ℕ) → j < n → get_or a j 0 ≡ get_or b j 0) → a ≡ b
kept_one {n} {o} {a} {b} x y e = ext_get_or 0 a b (x.size ∙ sym y.size) (λ j l. ⊎_elim (λ h. x.rest j h ∙ sym (y.rest j h)) (e j) (le_or_lt n j))

pub filled_one : {f : ℕ → ℕ} {n : ℕ} {o a b : List ℕ} → FilledWith f n o a → FilledWith f n o b → a ≡ b
filled_one x y = kept_one x.kept y.kept (λ j h. x.each j h ∙ sym (y.each j h))

-- n entries from a on, lent and put back
pub part_length : (b : List ℕ) (a n : ℕ) → a + n ≤ length b → length (take (a + n - a) (drop a b)) ≡ n
part_length b a n h = rw (length-take, length-drop) (omega arith)

pub put_back : (b ys : List ℕ) (a n : ℕ) → take a b ++ (ys ++ drop (a + n - a) (drop a b)) ≡ take a b ++ (ys ++ drop (a + n) b)
put_back b ys a n = let e : a + (a + n - a) ≡ a + n = omega arith in rw (drop-drop (a + n - a) a b, e)

-- the first i entries have P: entry i is stored
pub set_more : {X : Type 0} (P : ℕ → X → Type 0) (l : List X) (i : ℕ) (v d : X) → i < length l → ((j : ℕ) → j < i → P j (get_or l j d)) → P i v → (j : ℕ) → j < i + 1 → P j (get_or (set l i v) j d)
set_more P l i v d h below here j k =
    ⊎_elim (λ (e : j ≡ i). rw (e, get_or-set_same l i v d h) here) (λ (lt : j < i). rw (get_or-set_other l i j v d (λ e. omega arith)) (below j lt)) (eq-or-lt_of_le (omega arith))

-- what is left of a list from place i on: its first entry is at i, and the rest is from the next place on
left_next : {X : Type 0} (xs : List X) (i : ℕ) {x : X} {ys : List X} → drop i xs ≡ x ∷ ys → (i < length xs) × ((d : X) → x ≡ get_or xs i d) × (ys ≡ drop (i + 1) xs)
left_next xs i {x} {ys} e = ⊎_elim
    (λ (h : length xs ≤ i). let n : [] ≡ x ∷ ys = sym (drop_of_length-le xs {i = i} h) ∙ e in cc)
    (λ (h : i < length xs). (h, (λ d. let f = sym (drop-cons xs i d h) ∙ e in cc), (let f = sym (drop-cons xs i x h) ∙ e in rw add-one (cc))))
    (le_or_lt (length xs) i)

-- a loop over two lists side by side: us and vs are what is left of xs and ys from place i on
pub record Beside (xs ys us vs : List ℕ) (i : ℕ) : Type 0 where
  pub within : i ≤ length xs
  pub first : us ≡ drop i xs
  pub second : vs ≡ drop i ys

pub beside_more : {xs ys us vs us' vs' : List ℕ} {i x y : ℕ} → Beside xs ys us vs i → us ≡ x ∷ us' → vs ≡ y ∷ vs' → (i < length xs) × (x ≡ get_or xs i 0) × (y ≡ get_or ys i 0) × Beside xs ys us' vs' (i + 1)
beside_more {xs} {ys} {i = i} b e f =
    let l = left_next xs i (sym b.first ∙ e) in
    let r = left_next ys i (sym b.second ∙ f) in
    (l.0, l.1 0, r.1 0, record { within = omega (arith, l.0); first = l.2; second = r.2 })

-- it ends where either list ends
pub beside_end : {xs ys us vs : List ℕ} {i : ℕ} → length xs ≡ length ys → Beside xs ys us vs i → (length us ≡ 0) ⊎ (length vs ≡ 0) → i ≡ length xs
beside_end {xs} {ys} {us} {vs} {i} n b e =
    let k = b.within in
    ⊎_elim (λ (h : length us ≡ 0). omega (arith, ap length b.first, length-drop i xs)) (λ (h : length vs ≡ 0). omega (arith, ap length b.second, length-drop i ys)) e

-- a loop over a list by fours: u is the k-th four, or what is left of it, where us is what is left of xs before it and vs after it
pub record Four (xs u : List ℕ) (k : ℕ) : Type 0 where
  pub some : 4 * k < length xs
  pub size : length u ≡ min 4 (length xs - 4 * k)
  pub at : (j : ℕ) → j < length u → get_or u j 0 ≡ get_or xs (4 * k + j) 0

pub four_next : (xs : List ℕ) (k : ℕ) {us u vs : List ℕ} {w : ℕ} → w ≡ 4 → us ≡ drop (4 * k) xs → us ≡ u ++ vs → length u ≡ min w (length us) → 0 < length us → Four xs u k × (vs ≡ drop (4 * (k + 1)) xs)
four_next xs k {us} {u} {vs} four d e l h =
    let n = ap length d ∙ length-drop (4 * k) xs in
    let m = ap length e ∙ length-append u vs in
    let at : (j : ℕ) → get_or us j 0 ≡ get_or xs (4 * k + j) 0 = λ j. ap (λ (ys : List ℕ). get_or ys j 0) d ∙ get_or-drop (4 * k) xs j 0 in (
      record {
        some = omega arith;
        size = omega arith;
        at = λ j g. sym (get_or-append u vs 0 j g) ∙ sym (ap (λ (ys : List ℕ). get_or ys j 0) e) ∙ at j;
      },
      ext_get_or 0 vs (drop (4 * (k + 1)) xs) (omega (arith, length-drop (4 * (k + 1)) xs)) (λ j g.
          let a : 4 * k + (length u + j) ≡ 4 * (k + 1) + j = omega arith in
          sym (get_or-append-add u vs j 0) ∙ sym (ap (λ (ys : List ℕ). get_or ys (length u + j) 0) e) ∙ at (length u + j) ∙ ap (λ (i : ℕ). get_or xs i 0) a ∙ sym (get_or-drop (4 * (k + 1)) xs j 0)),
    )

-- it ends where either of two lists of one length ends
pub four_end : (xs ys : List ℕ) (k : ℕ) {us vs : List ℕ} → length xs ≡ length ys → us ≡ drop (4 * k) xs → vs ≡ drop (4 * k) ys → (length us ≡ 0) ⊎ (length vs ≡ 0) → min (4 * k) (length xs) ≡ length xs
four_end xs ys k {us} {vs} n d e z = ⊎_elim
    (λ (h : length us ≡ 0). omega (arith, ap length d, length-drop (4 * k) xs))
    (λ (h : length vs ≡ 0). omega (arith, ap length e, length-drop (4 * k) ys))
    z
