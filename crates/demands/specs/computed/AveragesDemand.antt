-- Averages are right, and what they are of a reversed list: the specification, section 11. What is refused is said in demand 1.
use Rattle.std.specs.Prelude.{◌≡◌, Bool, true, false, not, List, [], ◌∷◌, reverse, ◌↔◌, ℕ, ◌+◌, ◌-◌, ◌^◌, ◌≤◌, length, get_or, take}
use Rattle.selection.specs.Answer.{refusal}
use Rattle.exposure.specs.computed.Windows.{Window}
use Rattle.exposure.specs.computed.Averages.{reading_at, Accepts, AveragesOutcome, Averages}
use Rattle.exposure.specs.computed.Outcomes.{averages_of}

-- a call with the readings xs, the width w and two lists that hold ms and rs; newest_first: the newest reading comes first
-- § 11.3 The oldest window comes first, in whichever order the readings come.
pub record AveragesCall (xs : List ℕ) (w : ℕ) (newest_first : Bool) (ms rs : List ℕ) : Type 0 where
  -- the answer and the two lists, where it refuses and where not; and nothing else fits
  pub answer : Averages xs w newest_first ms rs (averages_of xs w newest_first ms rs)
  pub one : (x : AveragesOutcome) → Averages xs w newest_first ms rs x → x ≡ averages_of xs w newest_first ms rs
  -- nothing is refused exactly if all is accepted
  pub accepted : ((averages_of xs w newest_first ms rs).answer ≡ refusal 0 0) ↔ Accepts xs w (length ms) (length rs)
  -- with oldest first, output j belongs to the window that begins at place j of the list as handed in
  pub oldest_first : newest_first ≡ false → (averages_of xs w newest_first ms rs).answer ≡ refusal 0 0
      → (j : ℕ) → j + w ≤ length xs → Window (reading_at xs) w j (get_or (averages_of xs w newest_first ms rs).means j 0) (get_or (averages_of xs w newest_first ms rs).remainders j 0)
  -- with newest first, to the one that ends j places before that list's last: it begins at place b, and b readings come before it and j after it
  pub newest_first_law : newest_first ≡ true → (averages_of xs w newest_first ms rs).answer ≡ refusal 0 0
      → (j b : ℕ) → b + w + j ≡ length xs → Window (reading_at xs) w b (get_or (averages_of xs w newest_first ms rs).means j 0) (get_or (averages_of xs w newest_first ms rs).remainders j 0)

-- § 11.3 The oldest window comes first, in whichever order the readings come.
pub record AveragesDemand : Type 0 where
  pub call : (xs : List ℕ) (w : ℕ) (newest_first : Bool) (ms rs : List ℕ) → AveragesCall xs w newest_first ms rs

-- the means and the remainders that a call gives, one for each full window: what stands first in the two lists
abbrev pub given_means : List ℕ → ℕ → Bool → List ℕ → List ℕ → List ℕ
given_means xs w newest_first ms rs = take (length xs - w + 1) (averages_of xs w newest_first ms rs).means

abbrev pub given_remainders : List ℕ → ℕ → Bool → List ℕ → List ℕ → List ℕ
given_remainders xs w newest_first ms rs = take (length xs - w + 1) (averages_of xs w newest_first ms rs).remainders

-- a call with the list xs, and calls with that list reversed and two lists that hold os and ps
-- § 11.4 Reversed readings give reversed results.
pub record Reversed (xs : List ℕ) (w : ℕ) (newest_first : Bool) (ms rs os ps : List ℕ) : Type 0 where
  pub accepted : (newest : Bool) → (averages_of (reverse xs) w newest os ps).answer ≡ refusal 0 0
  -- the same means and remainders in reversed order
  pub means : given_means (reverse xs) w newest_first os ps ≡ reverse (given_means xs w newest_first ms rs)
  pub remainders : given_remainders (reverse xs) w newest_first os ps ≡ reverse (given_remainders xs w newest_first ms rs)
  -- and in the other direction the same in the same order
  pub other_means : given_means (reverse xs) w (not newest_first) os ps ≡ given_means xs w newest_first ms rs
  pub other_remainders : given_remainders (reverse xs) w (not newest_first) os ps ≡ given_remainders xs w newest_first ms rs

-- in either direction a reversed list gives the same means and remainders in reversed order, for every width and every list that the averages accept
-- § 11.4 Reversed readings give reversed results.
pub record ReversalDemand : Type 0 where
  pub reversed : (xs : List ℕ) (w : ℕ) (newest_first : Bool) (ms rs os ps : List ℕ) → (averages_of xs w newest_first ms rs).answer ≡ refusal 0 0
      → length xs - w + 1 ≤ length os → length xs - w + 1 ≤ length ps → Reversed xs w newest_first ms rs os ps

-- an example: five readings in windows of four, 10 + 20 + 31 + 40 = 25 · 4 + 1 and 20 + 31 + 40 + 51 = 35 · 4 + 2. Of lists of three places the third is kept, and lists of
-- two places just fit; with the newest reading first the windows come the other way round
abbrev pub five : List ℕ
five = 10 ∷ 20 ∷ 31 ∷ 40 ∷ 51 ∷ []

abbrev pub nines : List ℕ
nines = 9 ∷ 9 ∷ 9 ∷ []

abbrev pub two_nines : List ℕ
two_nines = 9 ∷ 9 ∷ []

-- readings of 2^40 at the places 1 and 3
abbrev pub two_large : List ℕ
two_large = 10 ∷ 2 ^ 40 ∷ 31 ∷ 2 ^ 40 ∷ 51 ∷ []

-- § 11.3 Five readings are averaged in numbers.
pub record AveragesExample : Type 0 where
  pub oldest : averages_of five 4 false nines nines ≡ record { answer = refusal 0 0; means = 25 ∷ 35 ∷ 9 ∷ []; remainders = 1 ∷ 2 ∷ 9 ∷ [] }
  pub newest : averages_of five 4 true nines nines ≡ record { answer = refusal 0 0; means = 35 ∷ 25 ∷ 9 ∷ []; remainders = 2 ∷ 1 ∷ 9 ∷ [] }
  pub fitting : averages_of five 4 true two_nines two_nines ≡ record { answer = refusal 0 0; means = 35 ∷ 25 ∷ []; remainders = 2 ∷ 1 ∷ [] }
  pub short_means : (newest_first : Bool) → averages_of five 4 newest_first (9 ∷ []) two_nines ≡ record { answer = refusal 7 0; means = 9 ∷ []; remainders = two_nines }
  pub short_remainders : (newest_first : Bool) → averages_of five 4 newest_first two_nines (9 ∷ []) ≡ record { answer = refusal 7 0; means = two_nines; remainders = 9 ∷ [] }
  pub large : (newest_first : Bool) → averages_of two_large 4 newest_first two_nines two_nines ≡ record { answer = refusal 13 1; means = two_nines; remainders = two_nines }
