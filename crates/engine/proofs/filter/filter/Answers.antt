use Rattle.std.proofs.Common.{◌+◌, ◌*◌, ◌≤◌, length, ◌∙◌, arith}
use Rattle.std.proofs.lemmas.Nat.{mul-le}
use Rattle.meaning.specs.Running.{passes}
use Rattle.engine.specs.Rows.{values}
use Rattle.engine.specs.Iterators.{groups_left}
use Rattle.engine.proofs.RowsIn.{row_within}
use Rattle.engine.proofs.Values.{length-values, values_copied}
use Rattle.engine.proofs.Filtering.{filtered_none, filtered_no, filtered_yes, row_passes}
use Rattle.engine.proofs.filter.filter.Goals as goal
use Rattle.engine.proofs.filter.filter.Goals.{then-holds, else-holds}

pub loop-i-init : goal.loop-i-init
loop-i-init c = filtered_none _ _ _

pub part-row-requires : goal.part-row-requires
part-row-requires c = record { within = omega (arith, row_within c.loop-i.i c.args.kept.rows c.args.kept.width _ c.loop-i-test.true c.requires.rows) }

pub copy_within-requires : goal.copy_within-requires
copy_within-requires c =
    let inside = row_within c.loop-i.i c.args.kept.rows c.args.kept.width _ c.loop-i-test.true c.requires.rows in
    let below = mul-le c.loop-i.left c.args.kept.width c.loop-i.i c.args.kept.width c.loop-i.invariant.behind (omega arith) in
    record { start_le_end = omega arith; in_bounds = omega arith; dest_in_bounds = omega arith; not_exhausted = tt }

pub loop-i-preserved : goal.loop-i-preserved
loop-i-preserved c =
    let w = c.args.kept.width in
    let i = c.loop-i.i in
    let left = c.loop-i.left in
    let old = values c.args.rows.now in
    let new = c.loop-i.rows in
    let joins = c.args.joins.now in
    let operand = c.args.operand in
    let comparison = c.args.comparison in
    let groups = groups_left c.args.groups in
    let row = values c.part-row.result.now in
    let inside : i * w + w ≤ length (values new) = rw length-values (omega (arith, row_within i c.args.kept.rows w _ c.loop-i-test.true c.requires.rows)) in
    elim c.if-holds.branch [
      | then-holds v ↦
          let copied = values_copied new c.if-holds.rows (i * w) (left * w) w (v.rows-is ∙ v.copy_within.ensures.after) in
          let yes' = row_passes groups joins operand comparison row v.if-holds.ensures c.operand_of.ensures.value c.find_answer-answer.ensures.value in
          rw v.left-is (filtered_yes (passes groups joins operand comparison) w old (values new) left i row c.loop-i.invariant c.part-row.ensures.value copied yes' inside)
      | else-holds v ↦
          let no' = row_passes groups joins operand comparison row v.if-holds.ensures c.operand_of.ensures.value c.find_answer-answer.ensures.value in
          rw (v.rows-is, v.left-is) (filtered_no (passes groups joins operand comparison) w old (values new) left i row c.loop-i.invariant c.part-row.ensures.value no')
    ]
