-- Each ratio is that of its division.
use Rattle.laws.proofs.Basics.{◌≡◌, sym, ◌∙◌, length, arith}
use Rattle.std.proofs.lemmas.List.{length-map}
use Rattle.division.proofs.FourRatios.{ratios, span_at, ratio_at, as_four}
use Rattle.division.proofs.binary64.four_ratios.Goals as goal

pub of-requires : goal.of-requires
of-requires c = span_at c.args.x 0 _ c.args.table.now.passes c.requires c.four_results.ensures (omega arith)

pub of-requires-2 : goal.of-requires-2
of-requires-2 c = span_at c.args.x 1 _ c.args.table.now.passes c.requires c.four_results.ensures (omega arith)

pub of-requires-3 : goal.of-requires-3
of-requires-3 c = span_at c.args.x 2 _ c.args.table.now.passes c.requires c.four_results.ensures (omega arith)

pub of-requires-4 : goal.of-requires-4
of-requires-4 c = span_at c.args.x 3 _ c.args.table.now.passes c.requires c.four_results.ensures (omega arith)

pub returns : goal.returns
returns c =
    let l : length c.args.x ≡ 4 = omega arith in
    rw (
      ratio_at _ c.args.x 0 _ c.four_results.ensures (omega arith) c.of.ensures,
      ratio_at _ c.args.x 1 _ c.four_results.ensures (omega arith) c.of-2.ensures,
      ratio_at _ c.args.x 2 _ c.four_results.ensures (omega arith) c.of-3.ensures,
      ratio_at _ c.args.x 3 _ c.four_results.ensures (omega arith) c.of-4.ensures,
    ) (sym (as_four (ratios c.args.table.now.bytes.now c.args.x) 0 (length-map c.args.x _ ∙ l)))
