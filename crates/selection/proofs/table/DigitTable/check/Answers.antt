use Rattle.laws.proofs.Basics.{◌*◌, ◌≡◌, ◌∙◌, arith, sym}
use Rattle.laws.proofs.Counting.{count_start, none_counted, some_counted}
use Rattle.selection.specs.computed.Allowed.{is_bad}
use Rattle.selection.proofs.{Counts.{row_counted}, Reports.{report_row}}
use Rattle.selection.proofs.table.DigitTable.check.Goals as goal

pub loop-row-init : goal.loop-row-init
loop-row-init c = sym (count_start _)

pub count_from-requires : goal.count_from-requires
count_from-requires c = (omega arith, omega (arith, row_counted (λ E. is_bad E c.args.self.now.bytes.now) c.loop-row.row c.new-m.ensures c.loop-row.invariant c.count_row-count.ensures))

pub bad_report-requires : goal.bad_report-requires
bad_report-requires c = grind (arith, some_counted)

pub returns-then-count-gt0 : goal.returns-then-count-gt0
returns-then-count-gt0 c =
    c.bad_report.ensures
    ∙ report_row _ _ c.loop-row.row c.new-m.ensures (omega arith) c.loop-row.invariant c.count_row-count.ensures (omega arith) c.count_from.ensures

pub loop-row-preserved : goal.loop-row-preserved
loop-row-preserved c = omega (arith, row_counted (λ E. is_bad E c.args.self.now.bytes.now) c.loop-row.row c.new-m.ensures c.loop-row.invariant c.count_row-count.ensures)

pub returns : goal.returns
returns c = let e : 128 * c.loop-row.row ≡ 2048 = omega arith in rw (none_counted _ 2048 (sym (rw e at c.loop-row.invariant)))
