-- Working definitions of private functions: no public contract cites this file. A list of counts to which is added.
use Rattle.std.specs.Prelude.{◌≡◌, ℕ, ◌+◌, ◌^◌, ◌<◌, ◌≤◌, List, length, slice_index}

-- b is the list a with f c added at each place c of the first 2,048
pub record Added (f : ℕ → ℕ) (a b : List ℕ) : Type 0 where
  pub size : length b ≡ length a
  pub each : (c : ℕ) → c < 2048 → slice_index b c ≡ slice_index a c + f c
  pub rest : (c : ℕ) → 2048 ≤ c → slice_index b c ≡ slice_index a c

-- the list has at least 2,048 numbers, and s can be added to each of the first 2,048
pub record Room (s : ℕ) (a : List ℕ) : Type 0 where
  pub size : 2048 ≤ length a
  pub fits : (c : ℕ) → c < 2048 → slice_index a c + s < 2 ^ 32

-- k is from 1 to 6, n is at most 28, and the list has at least 2,048 places
pub record VisitsSpans (k n len : ℕ) : Type 0 where
  pub some : 1 ≤ k
  pub bits : k ≤ 6
  pub digits : n ≤ 28
  pub room : 2048 ≤ len
