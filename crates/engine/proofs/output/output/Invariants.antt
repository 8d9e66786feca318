use Rattle.std.proofs.Common.{length}
use Rattle.std.specs.Iterator.Adapters.{enumerate_source, enumerate_count}
use Rattle.meaning.specs.Rows.{cells}
use Rattle.engine.specs.Iterators.{table_rows_left}
use Rattle.engine.proofs.Writing.{Written}
use Rattle.engine.proofs.output.output.Given as goal

abbrev pub invariant-loop-i : goal.invariant-loop-i
invariant-loop-i l = Written (cells l.outputs) (length l.outputs) (table_rows_left l.rows) l.rows.rows.count l.initial.res l.res (enumerate_count l.i-iterator) (table_rows_left (enumerate_source l.i-iterator))
