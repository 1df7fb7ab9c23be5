-- `vectors::count_lines`: the lines that `filter` keeps are those that differ.
use Rattle.laws.proofs.Basics.{◌≡◌, ◌∙◌, arith}
use Rattle.std.proofs.Common.{rules, tests}
use Rattle.std.proofs.lemmas.Iterator.Consumers.{count_from_yields_List, YieldsList-from_filter}
use Rattle.vectors.specs.Vectors.{line_differs, lines_in, counts_of}
use Rattle.vectors.proofs.Lines.{chunked, counted}
use Rattle.vectors.proofs.count_lines.Goals as goal

pub returns : goal.returns
unfolding counts_of
returns c =
    let bytes = c.args.bytes.now in
    let run : c.len.result ≡ lines_in bytes = omega arith in
    let kept = count_from_yields_List c.filter.result _ c.count.ensures.ran (YieldsList-from_filter _ line_differs (chunked bytes (cc) (cc)) c.filter.ensures.closure (λ x r q k. search (rules, tests))) in
    rw (run, kept ∙ counted line_differs bytes)
