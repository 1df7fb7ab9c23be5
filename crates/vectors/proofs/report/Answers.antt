-- `vectors::report`: a line for each file, and the sums of the counts.
use Rattle.laws.proofs.Basics.{sym, ap, ◌∙◌, arith, append-nil}
use Rattle.std.proofs.Common.{Some, None}
use Rattle.vectors.proofs.Reports.{few_told, name_most, seven, name_is, one_file}
use Rattle.vectors.proofs.report.Goals as goal
use Rattle.vectors.proofs.report.Goals.{in-Some, in-None}

pub push_counts-requires : goal.push_counts-requires
push_counts-requires c =
    let all = seven _ c.requires in
    rw (c.as_bytes.ensures.value, name_is _ c.requires c.loop-name.name-index _ c.loop-name-test.true) (omega (arith, c.loop-name.invariant.room, name_most {k = c.loop-name.name-index} (omega arith)))

pub overflow_add-total : goal.overflow_add-total
overflow_add-total c = omega (arith, few_told c.in-Some.ensures, seven _ c.requires, c.loop-name.invariant.few)

pub overflow_add-total-in-Some : goal.overflow_add-total-in-Some
overflow_add-total-in-Some c = omega (arith, few_told c.in-Some.ensures, seven _ c.requires, c.loop-name.invariant.few)

pub loop-name-preserved : goal.loop-name-preserved
loop-name-preserved c =
    let l = c.loop-name.invariant in
    let all = seven _ c.requires in
    elim c.match-run_file.branch [
      | in-Some w ↦
          let name = w.as_bytes.ensures.value ∙ name_is _ c.requires c.loop-name.name-index _ c.loop-name-test.true in
          let short = name_most {k = c.loop-name.name-index} (omega arith) in
          let line = rw name at w.push_counts.ensures in
          rw (w.out-is, w.total-is, w.unread-is) (one_file (Some w.in-Some.counts) l (omega arith) w.in-Some.ensures (ap (λ s. s.text) line.is) (omega (arith, line.room)))
      | in-None w ↦ rw (w.out-is, w.total-is, w.unread-is) (one_file None l (omega arith) w.in-None.ensures (sym (append-nil _)) (omega arith))
    ]
