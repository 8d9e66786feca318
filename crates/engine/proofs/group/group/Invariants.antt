use Rattle.std.proofs.Common.{length}
use Rattle.engine.specs.Rows.{values}
use Rattle.engine.specs.Grouping.{group_over}
use Rattle.engine.specs.Iterators.{table_rows_left}
use Rattle.engine.proofs.Grouping.{Answered}
use Rattle.engine.proofs.group.group.Given as goal

abbrev pub invariant-loop-t : goal.invariant-loop-t
invariant-loop-t g l =
    Answered (group_over g.A.AggregateFunction.meaning l.joins l.aggregate (table_rows_left l.rows)) (length l.joins) (values l.initial.keys) (values l.keys) l.t
