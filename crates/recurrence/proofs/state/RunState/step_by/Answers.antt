-- `step_by` meets its contract: the words, the column and the pair are those of the step.
use Rattle.recurrence.proofs.NextColumn.{step_code}
use Rattle.recurrence.proofs.state.RunState.step_by.Goals as goal

pub returns : goal.returns
returns c =
    rw (c.lowest_carry.ensures.0, c.renew.ensures, c.renew-2.ensures, c.from-byte.ensures, ← c.multiples.view_is)
    (step_code c.multiples.invariant c.args.self c.args.digit c.requires)
