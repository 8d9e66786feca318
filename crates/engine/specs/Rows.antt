-- What a list of work cells holds: rows one behind the other, and tuples with their answers.
use Rattle.std.specs.Prelude.{ℕ, ◌-◌, ◌*◌, List, map, take, drop, None, slice_index_or}
use Rattle.terms.specs.declared.cells.WorkCell.{WorkCell}
use Rattle.terms.specs.Cells.{Cell, Row}
use Rattle.sources.specs.Heads.{rows_in}
use Rattle.meaning.specs.Running.{Group}

abbrev pub value_of : WorkCell → Cell
value_of c = c.value

abbrev pub values : List WorkCell → List Cell
values cells = map value_of cells

-- the row with an index, which counts from 0
abbrev pub row_in : ℕ → List Cell → ℕ → Row
row_in width cells i = take width (drop (i * width) cells)

-- n cells of a tuple, and its answer behind them
abbrev pub group_in : ℕ → List Cell → Group
group_in n key = record { tuple = take n key; answer = slice_index_or key n None }

abbrev pub groups_in : ℕ → ℕ → List Cell → List Group
groups_in n width cells = map (group_in (width - 1)) (rows_in n width cells)
