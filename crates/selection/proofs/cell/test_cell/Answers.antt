-- past the first test a digit is broken, from below or from above
use Rattle.std.proofs.Common.{sym}
use Rattle.selection.proofs.CellTests.{low_found, high_found}
use Rattle.selection.proofs.cell.test_cell.Goals as goal

pub returns-then-allows : goal.returns-then-allows
returns-then-allows c = sym (c.allows.ensures.1.0 c.if-allows.true)

pub invariant_of-search : goal.invariant_of-search
invariant_of-search c =
    let p = low_found c.m.invariant c.m.view_is (c.args.column.bound, c.requires) c.allows.ensures.0 c.if-allows.false c.greatest_byte.ensures.0 c.if-greatest_byte-byte.true in
    record { column_bounds = p.column; byte_bound = c.requires }

pub low_witness-requires : goal.low_witness-requires
low_witness-requires c =
    let p = low_found c.m.invariant c.m.view_is (c.args.column.bound, c.requires) c.allows.ensures.0 c.if-allows.false c.greatest_byte.ensures.0 c.if-greatest_byte-byte.true in
    rw c.low_divisor.ensures p.divisor

pub returns-then-greatest_byte-byte : goal.returns-then-greatest_byte-byte
returns-then-greatest_byte-byte c =
    let p = low_found c.m.invariant c.m.view_is (c.args.column.bound, c.requires) c.allows.ensures.0 c.if-allows.false c.greatest_byte.ensures.0 c.if-greatest_byte-byte.true in
    rw (c.low_witness.ensures, c.low_divisor.ensures) p.answer

pub invariant_of-search-2 : goal.invariant_of-search-2
invariant_of-search-2 c =
    let p = high_found c.m.invariant c.m.view_is (c.args.column.bound, c.requires) c.allows.ensures.0 c.if-allows.false c.greatest_byte.ensures.0 c.if-greatest_byte-byte.false in
    record { column_bounds = p.column; byte_bound = c.requires }

pub high_witness-requires : goal.high_witness-requires
high_witness-requires c =
    let p = high_found c.m.invariant c.m.view_is (c.args.column.bound, c.requires) c.allows.ensures.0 c.if-allows.false c.greatest_byte.ensures.0 c.if-greatest_byte-byte.false in
    rw c.high_divisor.ensures p.divisor

pub returns : goal.returns
returns c =
    let p = high_found c.m.invariant c.m.view_is (c.args.column.bound, c.requires) c.allows.ensures.0 c.if-allows.false c.greatest_byte.ensures.0 c.if-greatest_byte-byte.false in
    rw (c.high_witness.ensures, c.high_divisor.ensures) p.answer
