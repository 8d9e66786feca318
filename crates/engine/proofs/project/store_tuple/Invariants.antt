use Rattle.std.proofs.Common.{◌≡◌}
use lib.Seq.{paste}
use Rattle.meaning.specs.Running.{tuple_of}
use Rattle.engine.specs.Rows.{values}
use Rattle.engine.proofs.project.store_tuple.Given as goal

abbrev pub invariant-loop-i : goal.invariant-loop-i
invariant-loop-i l = values l.keys ≡ paste (values l.initial.keys) l.at (tuple_of l.joins (values l.row)) l.i
