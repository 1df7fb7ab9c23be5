-- `listing::listing_of_input` meets its contract: there is room for more than a table, so that what was read settles what is printed.
use Rattle.laws.proofs.Basics.{arith}
use Rattle.listing.proofs.Listings.{lists_read}
use Rattle.listing.proofs.listing_of_input.Goals as goal

pub returns-clause-fact : goal.returns-clause-fact
returns-clause-fact c = lists_read _ (omega arith) c.listing.ensures.out_after.0
