-- The tables that an image shows.
use Rattle.std.specs.Prelude.{ℕ, cond, List, [], ◌∷◌, Option, ◌==◌}
use Rattle.std.specs.List.{flat_map}
use Rattle.std.specs.Option.{option_map}
use Rattle.terms.specs.Tables.{Table, Tables, counting}
use Rattle.cards.specs.Format.{CardRecord, records, rows_from}
use Rattle.cards.specs.Verdicts.{row_count}

-- a table as it stands in an image: the bytes of its record, head and payload, and what they say; its rows are still bytes
pub record RawTable : Type 0 where
  pub whole : List ℕ
  pub number : ℕ
  pub columns : ℕ
  pub bytes : List ℕ

-- the table in the payload of a record, as a list of at most one
abbrev pub table_in_payload : List ℕ → List ℕ → List RawTable
table_in_payload whole [] = []
table_in_payload whole (number ∷ []) = []
table_in_payload whole (number ∷ (columns ∷ bytes)) = record { whole = whole; number = number; columns = columns; bytes = bytes } ∷ []

abbrev pub table_in : List ℕ → ℕ → List ℕ → List RawTable
table_in whole kind payload = cond (kind == 1) (table_in_payload whole payload) []

-- every table of the records, in order
abbrev pub tables_in : List CardRecord → List RawTable
tables_in rs = flat_map (λ r. table_in r.bytes r.kind r.payload) rs

-- the one that counts for a number
abbrev pub table_for : List RawTable → ℕ → Option RawTable
table_for tables n = counting (λ t. t.number) tables n

abbrev pub raw_table : List ℕ → ℕ → Option RawTable
raw_table image n = table_for (tables_in (records image)) n

-- its rows read
abbrev pub shown : RawTable → Table
shown t = record { columns = t.columns; rows = rows_from (row_count t.columns t.bytes) t.columns t.bytes }

abbrev pub card_tables : List ℕ → Tables
card_tables image n = option_map shown (raw_table image n)
