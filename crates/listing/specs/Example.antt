-- The specification's example of a listing, and what a passed table prints: the specification, section 19.2.
use Rattle.std.specs.Prelude.{◌≡◌, List, [], ℕ, get_or, set}
use Rattle.selection.specs.computed.Outcomes.{made_table}
use Rattle.selection.specs.Table.{Passes}
use Rattle.printing.specs.Text.{ascii}
use Rattle.listing.specs.Listing.{listing_of}
use Rattle.selection.specs.declared.Estimate.TheVariants.{EightBits}

-- § 19.2 The example is printed whole.
pub record Example : Type 0 where
  -- the made table's byte 215 is 4; changed to 2, the table prints whole
  pub byte : get_or (made_table EightBits) 215 0 ≡ 4
  pub whole : listing_of EightBits (set (made_table EightBits) 215 2) ≡ ascii "row column digit divisor remainder\n1 87 0 1242993497154256896 3314649325744685056\n"
  -- row 15, column 20, of which byte 1940 holds -2; changed to 0, its witness lies below zero
  pub last_row : listing_of EightBits (set (made_table EightBits) 1940 2) ≡ ascii "row column digit divisor remainder\n15 20 0 2296835809958952961 -6124895493223874562\n"
  -- no byte, and a byte above 4 behind a bad cell
  pub empty : listing_of EightBits [] ≡ ascii "refusal place\n8 0\n"
  pub above : listing_of EightBits (set (set (made_table EightBits) 215 2) 1000 5) ≡ ascii "refusal place\n9 1000\n"
  -- a passed table prints the first line alone
  pub passed : (t : List ℕ) → Passes EightBits t → listing_of EightBits t ≡ ascii "row column digit divisor remainder\n"
