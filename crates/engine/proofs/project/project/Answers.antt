use Rattle.std.proofs.Common.{◌≡◌, ◌+◌, false, rules, ◌*◌, length, set, None, ap, ◌∙◌, arith}
use Rattle.std.proofs.lemmas.List.{map-set}
use Rattle.meaning.specs.Running.{tuple_of}
use Rattle.engine.specs.Rows.{value_of, values, groups_in}
use Rattle.engine.specs.Iterators.{row_of, rows_left}
use Rattle.engine.proofs.RowsIn.{length_rows}
use Rattle.engine.proofs.Values.{length-values}
use Rattle.engine.proofs.Projecting.{known, projected_none, projected_new, room_more}
use Rattle.engine.proofs.project.project.Goals as goal

pub rows-init : goal.rows-init
rows-init c = rw c.into_iter-row-iterator.ensures.into_iter_gives (projected_none _ _ _ _ (length_rows _ _ _))

pub invariant_of-group-items : goal.invariant_of-group-items
invariant_of-group-items c = record { within = omega (arith, room_more _ _ _ _ _ c.rows.invariant _ _ c.in-Some.ensures.steps _ c.requires.room) }

pub store_tuple-requires : goal.store_tuple-requires
store_tuple-requires c = record { room = omega (arith, room_more _ _ _ _ _ c.rows.invariant _ _ c.in-Some.ensures.steps _ c.requires.room) }

pub bounds-keys-tuples : goal.bounds-keys-tuples
bounds-keys-tuples c = omega (arith, room_more _ _ _ _ _ c.rows.invariant _ _ c.in-Some.ensures.steps _ c.requires.room)

pub rows-preserved : goal.rows-preserved
rows-preserved c =
    let joins = c.args.joins.now in
    let n = length joins in
    let keys = c.rows.keys in
    let count = c.rows.tuples in
    let room = room_more joins (rows_left c.args.rows) c.args.rows.count (values keys) count c.rows.invariant _ _ c.in-Some.ensures.steps _ c.requires.room in
    let stored = map-set value_of c.store_tuple.new.keys (count * (n + 1) + n) (record { value = None }) ∙ ap (λ v. set v (count * (n + 1) + n) None) c.store_tuple.ensures.cells in
    let none : known (tuple_of joins (row_of c.in-Some.row)) (groups_in count (n + 1) (values keys)) ≡ false = search rules in
    projected_new joins (rows_left c.args.rows) c.args.rows.count (values keys) count c.rows.invariant (row_of c.in-Some.row) (rows_left c.next.new.self) c.in-Some.ensures.steps
    (rw length-values (omega arith)) stored none
