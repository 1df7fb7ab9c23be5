-- A cell without a point is one that allows both -2 and 2: where there is a point, it keeps at most one of them. Points lie in the columns 20 to 106.
use Rattle.laws.proofs.{Basics.{refl, sym, Bool, not, true, false, true≢false, ℕ, ◌≤◌, ◌<◌, arith, ℤ}, Diff.{diffs, by_diff}}
use Rattle.selection.{specs.Cell.{Keeps, Allows, digit}, proofs.BiasedPoints.{of_point}, proofs.Search.{span_most}, specs.declared.Estimate.{Estimate}}
use Rattle.plot.specs.Plot.{HasPoint, Broken, AllowedIs, PointIs, DrawnIs}

-- 3(P + 2D) ≤ 2D and -2D ≤ 3(P - 2D)
keeps_not_both : (D : ℕ) → 0 < D → (P : ℤ) → Keeps (digit 0) D P → Keeps (digit 4) D P → ⊥
unfolding digit
keeps_not_both D h =
    by_diff (λ P. Keeps (digit 0) D P → Keeps (digit 4) D P → ⊥) (λ a b low high.
    omega (arith, simp diffs at low.high, simp diffs at high.low))

module _ (E : Estimate) where
  pub no_point : {r c : ℕ} → Allows E r c (digit 0) → Allows E r c (digit 4) → HasPoint E r c → ⊥
  no_point low high p = keeps_not_both p.divisor (omega (arith, p.point.row.from)) p.remainder (low _ _ p.point) (high _ _ p.point)

  -- a point lies in the columns 20 to 106
  pub has_point_columns : {r c : ℕ} → r ≤ 15 → c ≤ 127 → HasPoint E r c → (20 ≤ c) × (c ≤ 106)
  has_point_columns hr hc p = let most = span_most E in let b = (of_point E hr hc p.point).point in (omega (arith, b), omega (arith, b))

  -- a witness is a point
  pub point_yes : {r c b : ℕ} → Broken E r c b → PointIs E r c true
  point_yes w = record { yes = λ e. record { divisor = w.divisor; remainder = w.remainder; point = w.against.point }; no = λ e. absurd (true≢false e) }

  -- a cell that allows -2 has a point unless it allows 2 too
  pub point_unless : {r c : ℕ} (x : Bool) → AllowedIs E r c 0 true → AllowedIs E r c 4 x → PointIs E r c (not x)
  point_unless true low high = record { yes = λ e. absurd (true≢false (sym e)); no = λ e. no_point (low.yes refl) (high.yes refl) }
  point_unless false low high = point_yes (high.no refl)

pub drawn_yes : {c : ℕ} → 16 ≤ c → c < 112 → DrawnIs c true
drawn_yes h l = record { yes = λ e. (h, l); no = λ e. absurd (true≢false e) }

pub drawn_no : {c : ℕ} → c ≤ 127 → (20 ≤ c → c ≤ 106 → ⊥) → DrawnIs c false
drawn_no h n = record { yes = λ e. absurd (true≢false (sym e)); no = λ e E r hr p. let l = has_point_columns E hr h p in n l.0 l.1 }
