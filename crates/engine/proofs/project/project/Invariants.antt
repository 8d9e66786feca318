use Rattle.std.proofs.Common.{◌≡◌}
use Rattle.meaning.specs.Running.{tuple_of}
use Rattle.engine.specs.Rows.{values}
use Rattle.engine.specs.Iterators.{groups_left, rows_left}
use Rattle.engine.proofs.Projecting.{Projected, known}
use Rattle.engine.proofs.project.project.Given as goal

abbrev pub invariant-rows : goal.invariant-rows
invariant-rows l = Projected l.joins (rows_left l.rows) l.rows.count (values l.keys) l.tuples (rows_left l.row-iterator)

abbrev pub invariant-loop-group : goal.invariant-loop-group
invariant-loop-group l =
    let p = tuple_of l.joins (values l.row) in
    known p (groups_left l.group-iterator) ≡ known p (groups_left l.initial.group-iterator)
