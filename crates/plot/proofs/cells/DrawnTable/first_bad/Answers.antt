-- `plot::cells::DrawnTable::first_bad`: `find` gives the first column whose digit is not allowed.
use Rattle.std.proofs.Common.{rules, tests}
use Rattle.std.proofs.lemmas.Iterator.{first_from_Range}
use Rattle.plot.proofs.BadCells.{Good, Bad}
use Rattle.plot.proofs.cells.DrawnTable.first_bad.Goals as goal

pub returns : goal.returns
returns c =
    let E = c.args.self.now.estimate in
    let t = c.args.self.now.table.bytes.now in
    let row = c.args.from.row in
    first_from_Range _ _ _ c.find.result (Bad E t row) (Good E t row) c.find.ensures.ran (λ x q k. search (rules, tests)) (λ x q k. search (rules, tests))
