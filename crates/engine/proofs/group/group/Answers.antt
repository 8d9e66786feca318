use Rattle.std.proofs.Common.{◌≡◌, ◌+◌, length, arith, rules}
use Rattle.std.proofs.lemmas.List.{map-set}
use Rattle.engine.specs.Grouping.{group_over}
use Rattle.engine.specs.Iterators.{table_rows_left}
use Rattle.engine.specs.Rows.{value_of, values}
use Rattle.engine.proofs.RowsIn.{row_within}
use Rattle.engine.proofs.Values.{length-values}
use Rattle.engine.proofs.Grouping.{answered_none, answered_more}
use Rattle.engine.proofs.group.group.Goals as goal

pub loop-t-init : goal.loop-t-init
loop-t-init g c = answered_none _ _ _

pub part-requires : goal.part-requires
part-requires g c = record { within = omega (arith, row_within c.loop-t.t c.args.tuples (length c.args.joins.now + 1) _ c.loop-t-test.true c.requires.keys) }

pub offset_bounds-keys-at : goal.offset_bounds-keys-at
offset_bounds-keys-at g c = let h = row_within c.loop-t.t c.args.tuples (length c.args.joins.now + 1) _ c.loop-t-test.true c.requires.keys in search rules

pub bounds-keys-at : goal.bounds-keys-at
bounds-keys-at g c = omega (arith, row_within c.loop-t.t c.args.tuples (length c.args.joins.now + 1) _ c.loop-t-test.true c.requires.keys)

pub loop-t-preserved : goal.loop-t-preserved
loop-t-preserved g c =
    let joins = c.args.joins.now in
    let answer = group_over g.A.AggregateFunction.meaning joins c.args.aggregate (table_rows_left c.args.rows) in
    let fits = row_within c.loop-t.t c.args.tuples (length joins + 1) _ c.loop-t-test.true c.requires.keys in
    answered_more answer (length joins) (values c.args.keys.now) (values c.loop-t.keys) c.loop-t.t c.loop-t.invariant (rw length-values (omega arith)) c.part.ensures.value c.group_one-answer.ensures.value
    (map-set value_of c.loop-t.keys _ _)

pub returns : goal.returns
returns g c = let all : c.loop-t.t ≡ c.args.tuples = omega arith in record { groups = rw all at c.loop-t.invariant.front }
