-- `printing::input::read_input` meets its contract: what one read more brings stands behind what was read before.
use Rattle.std.proofs.Common.{◌≡◌, ℕ, ◌+◌, ◌-◌, ◌≤◌, List, ◌++◌, ◌∙◌, length, take, ap, ap₂, sym, subst, le_refl, drop_at, length-take-le, rules}
use Rattle.std.proofs.lemmas.Slice.{take-put_mid_below}
use Rattle.std.specs.Io.KnownBytes.{Consumes}
use Rattle.std.proofs.KnownBytes.{Consumes-trans}
use borrow.Rule.Slice.PartMut.{put_mid, post_of}
use lib.Seq.{take-add, take-append-le}
use Rattle.printing.proofs.input.read_input.Goals as goal

read_behind : (a k n : ℕ) (xs ys : List ℕ) → a ≤ length xs → n ≤ length ys → take (a + n) (put_mid a k xs ys) ≡ take a xs ++ take n ys
read_behind a k n xs ys h f =
    take-add a n (put_mid a k xs ys)
    ∙ ap₂ ◌++◌ (take-put_mid_below a k xs ys a (le_refl a) h) (ap (take n) (drop_at (take a xs) (ys ++ post_of a k xs) a (length-take-le a xs h)) ∙ take-append-le n ys (post_of a k xs) f)

pub loop-count-preserved : goal.loop-count-preserved
loop-count-preserved g c =
    let joined = read_behind c.loop-count.count (length c.loop-count.buffer - c.loop-count.count) c.in-Ok.more c.loop-count.buffer c.read_again.new.buffer c.loop-count.invariant.0 c.in-Ok.ensures.bound.0 in
    (search rules, search rules, subst (Consumes _ _) (sym joined) (Consumes-trans _ _ _ _ _ c.loop-count.invariant.2 c.in-Ok.ensures.bytes.0))
