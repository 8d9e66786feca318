use Rattle.meaning.specs.Running.{passes}
use Rattle.engine.specs.Rows.{values}
use Rattle.engine.specs.Iterators.{groups_left}
use Rattle.engine.proofs.Filtering.{Filtered}
use Rattle.engine.proofs.filter.filter.Given as goal

abbrev pub invariant-loop-i : goal.invariant-loop-i
invariant-loop-i l = Filtered (passes (groups_left l.groups) l.joins l.operand l.comparison) l.width (values l.initial.rows) (values l.rows) l.left l.i
