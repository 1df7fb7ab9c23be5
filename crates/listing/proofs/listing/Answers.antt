-- `listing::listing` meets its contract: a table's text is the listing, and so is that of a refusal of its form.
use Rattle.printing.proofs.Texts.{adds_first}
use Rattle.listing.proofs.Listings.{printed}
use Rattle.listing.proofs.listing.Goals as goal

pub returns-in-Ok-clause-out_after : goal.returns-in-Ok-clause-out_after
returns-in-Ok-clause-out_after c =
    let lent = rw c.in-Ok.is at c.new.ensures.lent in
    printed _ _ c.new.ensures.refused (rw c.in-Ok.is (rw lent at (adds_first c.requires.none c.push_table.ensures)))

pub returns-in-Err-clause-out_after : goal.returns-in-Err-clause-out_after
returns-in-Err-clause-out_after c = printed _ _ c.new.ensures.refused (rw c.in-Err.is (adds_first c.requires.none c.push_refusal.ensures))
