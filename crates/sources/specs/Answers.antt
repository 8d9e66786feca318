-- What a source's calls answer, by its tables.
use Rattle.std.specs.Prelude.{ℕ, ◌+◌, ◌-◌, ◌%◌, ◌^◌, ◌≤◌, List, ◌++◌, length, replicate, Some, None, Ok, Err, Option, Result}
use Rattle.std.specs.Option.{option_map}
use Rattle.terms.specs.declared.faults.Fault.{Fault}
use Rattle.terms.specs.declared.refusals.Refusal.TheVariants.{RowUnreadable, NoSuchRow}
use Rattle.terms.specs.Cells.{Cell, Row}
use Rattle.terms.specs.Faults.{of_row}
use Rattle.terms.specs.Tables.{Table, Stored}
use Rattle.sources.specs.declared.source.Shape.{Shape}

abbrev pub table_shape : Table → Shape
table_shape t = record { columns = t.columns; rows = length t.rows }

abbrev pub shape_of : Option Table → Option Shape
shape_of table = option_map table_shape table

-- what every shape keeps to
pub record BoundedShape (shape : Shape) : Type 0 where
  pub some_column : 1 ≤ shape.columns
  pub few_columns : shape.columns ≤ 6
  pub few_rows : shape.rows ≤ 1024

-- the six cells that a fetch leaves: the row's, and absent ones after them
abbrev pub six_cells : Row → List Cell
six_cells row = row ++ replicate (6 - length row) None

-- Below, the row that was asked for: None where there is none, Some None where it is unreadable.

abbrev pub fetched_cells : Option Stored → List Cell
fetched_cells None = replicate 6 None
fetched_cells (Some None) = replicate 6 None
fetched_cells (Some (Some row)) = six_cells row

abbrev pub fetch_answer : ℕ → ℕ → Option Stored → Result (Unit {0}) Fault
fetch_answer table index None = Err (of_row NoSuchRow table index)
fetch_answer table index (Some None) = Err (of_row RowUnreadable table index)
fetch_answer table index (Some (Some row)) = Ok tt

-- the meter counts each fetch of a row that exists, readable or not, modulo 2^64
abbrev pub metered : Option Stored → ℕ → ℕ
metered None meter = meter
metered (Some row) meter = (meter + 1) % 2 ^ 64
