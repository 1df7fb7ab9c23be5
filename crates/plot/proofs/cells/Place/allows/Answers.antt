-- `plot::cells::Place::allows`: it is what the check of the single cell says.
use Rattle.std.proofs.Common.{◌≡◌, sym, ◌∙◌, rules, is_none}
use Rattle.plot.proofs.Verdicts.{allowed_is}
use Rattle.plot.proofs.cells.Place.allows.Goals as goal

pub returns : goal.returns
returns c =
    let a = c.args in
    let none : c.is_none.result ≡ is_none c.unwrap.result = search rules in
    rw none (allowed_is a.estimate a.self.row a.self.column a.byte _ (sym c.unwrap.ensures ∙ c.check_cell.ensures))
