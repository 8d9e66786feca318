use Rattle.std.proofs.Common.{◌≡◌}
use lib.Seq.{paste}
use Rattle.meaning.specs.Rows.{cells}
use Rattle.engine.specs.Iterators.{table_row_of}
use Rattle.engine.proofs.output.write_row.Given as goal

abbrev pub invariant-loop-i : goal.invariant-loop-i
invariant-loop-i l = l.res ≡ paste l.initial.res l.at (cells l.outputs (table_row_of l.row)) l.i
