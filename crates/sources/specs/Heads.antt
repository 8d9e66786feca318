-- Which table heads may stand, and the rows that a head takes from a list of cells.
use Rattle.std.specs.Prelude.{ℕ, zero, suc, ◌+◌, ◌*◌, Bool, cond, ◌&&◌, List, [], ◌∷◌, map, take, drop, Some, Ok, Err, Result, nat_le}
use Rattle.terms.specs.declared.refusals.Refusal.{Refusal}
use Rattle.terms.specs.declared.refusals.Refusal.TheVariants.{BadTableHead, BadRowCount}
use Rattle.terms.specs.Cells.{Cell, Row}
use Rattle.terms.specs.Tables.{Table, is_table, is_column}
use Rattle.sources.specs.declared.head.TableHead.{TableHead}

abbrev pub number_and_columns_in_range : ℕ → ℕ → Bool
number_and_columns_in_range number columns = is_table number && is_column columns

-- why a head over so many cells is refused: its number and columns first, then its rows
abbrev pub head_verdict : ℕ → TableHead → Result (Unit {0}) Refusal
head_verdict len h =
    cond (number_and_columns_in_range h.number h.columns)
    (cond (nat_le h.rows 1024 && nat_le (h.first + h.rows * h.columns) len) (Ok tt) (Err BadRowCount))
    (Err BadTableHead)

-- the first n rows of a list of cells, one behind the other
abbrev pub rows_in : ℕ → ℕ → List Cell → List Row
rows_in zero columns cells = []
rows_in (suc n) columns cells = take columns cells ∷ rows_in n columns (drop columns cells)

abbrev pub head_rows : List Cell → TableHead → List Row
head_rows cells h = rows_in h.rows h.columns (drop h.first cells)

-- the table of a head: all its rows are readable
abbrev pub head_table : List Cell → TableHead → Table
head_table cells h = record { columns = h.columns; rows = map Some (head_rows cells h) }
