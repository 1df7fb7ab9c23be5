-- Roots are right: the specification, section 12. What they refuse is said in demand 1.
use Rattle.std.specs.Prelude.{◌≡◌, false, ℕ, ◌+◌, ◌-◌, ◌*◌, ◌^◌, ◌≤◌, ◌<◌}
use Rattle.selection.specs.Answer.{refusal}
use Rattle.division.specs.Format.{negative, FiniteNonzero}
use Rattle.division.specs.Roots.{IeeeRoot, RootPlain}
use Rattle.division.specs.computed.RootCalls.{root_whole_of, root_binary64_of}
use Rattle.division.specs.declared.format.Binary64Result.{Binary64Result}
use Rattle.division.specs.declared.format.Binary64.{Binary64}
use Rattle.division.specs.declared.root.Root.{Root}

-- the answer is no refusal; s·s ≤ a < (s + 1)·(s + 1) for its root s and for no other, and the remainder is a − s·s
-- § 12.1 The whole root s has s·s ≤ a < (s + 1)·(s + 1); no other fits.
pub record RootsWhole (a : ℕ) (x : Root) : Type 0 where
  pub done : x.refusal ≡ refusal 0 0
  pub under : x.root * x.root ≤ a
  pub next : a < (x.root + 1) * (x.root + 1)
  pub remainder : x.remainder ≡ a - x.root * x.root
  pub only : (s : ℕ) → s * s ≤ a → a < (s + 1) * (s + 1) → s ≡ x.root

-- the answer is no refusal; its pattern and flags are the root of p, and there are no others; of a number above 0 they are plain
pub record RootsBinary64 (direction p : ℕ) (x : Binary64) : Type 0 where
  pub done : x.refusal ≡ refusal 0 0
  pub meaning : IeeeRoot direction p (record { pattern = x.pattern; flags = x.flags })
  pub only : (y : Binary64Result) → IeeeRoot direction p y → y ≡ record { pattern = x.pattern; flags = x.flags }
  pub plain : negative p ≡ false → FiniteNonzero p → RootPlain p (record { pattern = x.pattern; flags = x.flags })

-- for all operands that no refusal names: 4; 6
-- § 12 All of it holds of both calls.
pub record RootDemand : Type 0 where
  pub whole : (a : ℕ) → a < 2 ^ 60 → RootsWhole a (root_whole_of a)
  pub binary64 : (direction p : ℕ) → direction ≤ 3 → RootsBinary64 direction p (root_binary64_of direction p)
