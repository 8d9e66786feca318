-- What writing and loading have to do with each other.
use Rattle.std.specs.Prelude.{◌≡◌, ℕ, ◌<◌, true, List, map, Some, Option}
use Rattle.std.specs.List.{AllByRecursion}
use Rattle.terms.specs.Cells.{Row}
use Rattle.terms.specs.Tables.{Table}
use Rattle.cards.specs.Verdicts.{card_takes}
use Rattle.cards.specs.CardTables.{card_tables}
use Rattle.writing.specs.Records.{table_record}

-- an image is taken by a load, and shows the table under its number
pub record Shows (image : List ℕ) (number : ℕ) (table : Table) : Type 0 where
  pub taken : card_takes image ≡ true
  pub shown : card_tables image number ≡ Some table

abbrev pub Bytes : List ℕ → Type 0
Bytes bytes = AllByRecursion (λ b. b < 256) bytes

-- a table has one writing: where none of the rows that an image shows under a number is unreadable, the record that counts
-- for the number is, byte for byte, the one that writing gives for the table
abbrev pub WrittenOnce : List ℕ → ℕ → Option (List ℕ) → Type 0
WrittenOnce image number record_found =
    (columns : ℕ) (rows : List Row) → card_tables image number ≡ Some (record { columns = columns; rows = map Some rows })
    → record_found ≡ Some (table_record number columns rows)
