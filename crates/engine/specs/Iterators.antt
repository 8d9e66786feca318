-- What the engine's iterators give, and what they have left.
use Rattle.std.specs.Prelude.{◌+◌, List}
use Rattle.std.specs.Borrow.{Bor}
use Rattle.terms.specs.declared.cells.WorkCell.{WorkCell}
use Rattle.terms.specs.Cells.{Row}
use Rattle.sources.specs.Heads.{rows_in}
use Rattle.meaning.specs.Running.{Group}
use Rattle.engine.specs.declared.rows.Rows.{Rows}
use Rattle.engine.specs.declared.rows.TableRows.{TableRows}
use Rattle.engine.specs.declared.rows.TableRow.{TableRow}
use Rattle.engine.specs.declared.groups.Groups.{Groups}
use Rattle.engine.specs.declared.groups.Group as lent
use Rattle.engine.specs.Rows.{values, groups_in}

abbrev pub row_of : Bor (List WorkCell) → Row
row_of cells = values cells.now

abbrev pub rows_left : Rows → List Row
rows_left r = rows_in r.count r.width (values r.cells.now)

abbrev pub table_row_of : TableRow → Row
table_row_of r = values r.cells.now

abbrev pub table_rows_left : TableRows → List Row
table_rows_left r = rows_left r.rows

abbrev pub group_of : lent.Group → Group
group_of g = record { tuple = values g.tuple.now; answer = g.answer }

abbrev pub groups_left : Groups → List Group
groups_left g = groups_in g.count (g.tuple_len + 1) (values g.keys.now)
