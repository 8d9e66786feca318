-- The code's views of the parts of an image, as the format's definitions have them.
use Rattle.std.specs.Prelude.{ℕ, ◌+◌, cond, List, drop, Ok, Err, Result, ◌==◌}
use Rattle.terms.specs.declared.refusals.Refusal.{Refusal}
use Rattle.terms.specs.declared.refusals.Refusal.TheVariants.{UnknownKind}
use Rattle.terms.specs.Tables.{Stored}
use Rattle.cards.specs.declared.format.RecordKind.{RecordKind}
use Rattle.cards.specs.declared.format.RecordKind.TheVariants.{Table, Remark}
use Rattle.cards.specs.declared.format.TableBytes.{TableBytes}
use Rattle.cards.specs.declared.records.Record.{Record}
use Rattle.cards.specs.declared.records.Records.{Records}
use Rattle.cards.specs.declared.rows.RowBytes.{RowBytes}
use Rattle.cards.specs.Format.{CardRecord, left, row_of}
use Rattle.cards.specs.CardTables.{RawTable}

-- the kind with a number, or the refusal of a number that is no kind's
abbrev pub kind_numbered : ℕ → Result RecordKind Refusal
kind_numbered number = cond (number == 1) (Ok Table) (cond (number == 2) (Ok Remark) (Err UnknownKind))

abbrev pub as_record : Record → CardRecord
as_record r = record { place = r.place; bytes = r.bytes.now; size = r.size; kind = r.kind; payload = r.payload.now }

-- the records that an iterator has left
abbrev pub records_left : Records → List CardRecord
records_left rs = left (rs.place + rs.over) (drop rs.over rs.bytes.now)

abbrev pub as_raw : TableBytes → RawTable
as_raw t = record { whole = t.whole.now; number = t.number; columns = t.columns; bytes = t.bytes.now }

abbrev pub as_row : RowBytes → Stored
as_row r = row_of r.columns r.bytes.now
