-- `plot::cells::DrawnTable::bad_end`: `find` gives the first column whose digit is allowed.
use Rattle.std.proofs.Common.{rules, tests, arith}
use Rattle.std.proofs.lemmas.Iterator.{first_from_Range}
use Rattle.plot.proofs.BadCells.{Good, Bad, bad_to}
use Rattle.plot.proofs.cells.DrawnTable.bad_end.Goals as goal

pub returns : goal.returns
returns c =
    let E = c.args.self.now.estimate in
    let t = c.args.self.now.table.bytes.now in
    let row = c.args.from.row in
    rw c.unwrap_or.ensures (bad_to E t row c.find.result (omega (arith, c.args.from.column_bound)) (first_from_Range _ _ _ c.find.result (Good E t row) (Bad E t row) c.find.ensures.ran (λ x q k. search (rules, tests)) (λ x q k. search (rules, tests))))
