-- What a source of tables shows.
use Rattle.std.specs.Prelude.{◌≡◌, ℕ, ◌<◌, ◌≤◌, Bool, true, List, [], length, Some, None, Option}
use Rattle.std.specs.List.{slice_get, AllByRecursion}
use Rattle.terms.specs.Numbered.{numbered, within}
use Rattle.terms.specs.Cells.{Row, cell_in_range, every}

-- tables have the numbers 1 to 16, and at most 6 columns, which count from 1
abbrev pub is_table : ℕ → Bool
is_table n = within 1 n 16

abbrev pub is_column : ℕ → Bool
is_column n = within 1 n 6

-- a row as a table stores it: None where it is unreadable
abbrev pub Stored : Type 0
Stored = Option Row

pub record Table : Type 0 where
  pub columns : ℕ
  pub rows : List Stored

-- the table of each number
abbrev pub Tables : Type 0
Tables = ℕ → Option Table

-- a readable row has a cell for each column, and each is in a cell's range
pub record Filled (columns : ℕ) (row : Row) : Type 0 where
  pub wide : length row ≡ columns
  pub ranged : every cell_in_range row ≡ true

abbrev pub RowFormed : ℕ → Stored → Type 0
RowFormed columns None = Unit {0}
RowFormed columns (Some row) = Filled columns row

pub record Formed (t : Table) : Type 0 where
  pub some_column : 1 ≤ t.columns
  pub few_columns : t.columns ≤ 6
  pub few_rows : length t.rows ≤ 1024
  pub each_row : AllByRecursion (RowFormed t.columns) t.rows

abbrev pub TableFormed : Option Table → Type 0
TableFormed None = Unit {0}
TableFormed (Some t) = Formed t

-- Of several tables with one number the first counts. Whatever holds tables under numbers goes by this.
abbrev pub counting : {X : Type 0} → (X → ℕ) → List X → ℕ → Option X
counting number tables n = numbered number tables n

-- what every source shows
pub record WellFormed (tables : Tables) : Type 0 where
  pub none_at_zero : tables 0 ≡ None
  pub none_above : (n : ℕ) → 16 < n → tables n ≡ None
  pub each_table : (n : ℕ) → TableFormed (tables n)

-- the stored rows of a table, none where there is no table
abbrev pub rows_of : Option Table → List Stored
rows_of None = []
rows_of (Some t) = t.rows

-- its columns, none where there is no table
abbrev pub columns_of : Option Table → ℕ
columns_of None = 0
columns_of (Some t) = t.columns

-- the stored row with an index, which counts from 0, if the table has it
abbrev pub row_at : Option Table → ℕ → Option Stored
row_at table index = slice_get (rows_of table) index
