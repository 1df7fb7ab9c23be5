-- Laws of text in a buffer: one text after another.
use Rattle.laws.proofs.Basics.{◌≡◌, refl, ◌∙◌, ap, List, [], ◌++◌, append_assoc, append-nil, ℕ, ◌+◌, arith, length-append}
use lib.Seq.{drop-drop}
use Rattle.printing.specs.Text.{Filled, pushed, Adds}

-- one text after another
pub pushed_pushed : (s : Filled) (x y : List ℕ) → pushed (pushed s x) y ≡ pushed s (x ++ y)
pushed_pushed s x y = rw (append_assoc, drop-drop, length-append) refl

pub adds_none : (s : Filled) (most : ℕ) → Adds s [] most s
adds_none s most = record { is = rw append-nil refl; room = omega arith }

pub adds_then : {s s' s'' : Filled} {x y : List ℕ} {m n : ℕ} → Adds s x m s' → Adds s' y n s'' → Adds s (x ++ y) (m + n) s''
adds_then {s} {x} {y} a b = record { is = b.is ∙ ap (λ (z : Filled). pushed z y) a.is ∙ pushed_pushed s x y; room = omega (arith, a.room, b.room) }

-- the first text in a buffer
pub adds_first : {s s' : Filled} {x : List ℕ} {most : ℕ} → s.text ≡ [] → Adds s x most s' → s'.text ≡ x
adds_first {x} e a = ap (λ (z : Filled). z.text) a.is ∙ ap (λ (t : List ℕ). t ++ x) e
