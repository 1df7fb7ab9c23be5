-- `next` meets its contract: the byte at the state's column is the table's in the state's cell.
use Rattle.laws.proofs.Basics.{◌≡◌, ap, ◌∙◌, ℕ, arith, get_or}
use Rattle.selection.{specs.Cell.{row, column}, proofs.Columns.{column_small}}
use Rattle.recurrence.specs.{Recurrence.{cell_at, step_by, next_of}, computed.FastRun.{run_state_of, state_of}}
use Rattle.recurrence.proofs.Rows.{row_at}
use Rattle.recurrence.proofs.state.RunState.next.Goals as goal

pub returns : goal.returns
unfolding next_of
returns c t f =
    let m = c.args.multiples.now in
    let p = state_of m.divisor c.args.self in
    let e : c.at.result ≡ get_or t (cell_at m.estimate p) 0 = c.at.ensures.0 ∙ rw (f, c.requires) (row_at t (row m.divisor) (column m.estimate p.sum p.carry) (omega (arith, column_small m.estimate p.sum p.carry))) in
    c.step_by.ensures ∙ ap (λ (n : ℕ). run_state_of m.estimate (step_by n p)) e
