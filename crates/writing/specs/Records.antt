-- A table as it is written: one record.
use Rattle.std.specs.Prelude.{ℕ, ◌+◌, ◌*◌, ◌/◌, ◌%◌, cond, List, [], ◌∷◌, ◌++◌, length, Some, None, Ok, Err, Result, nat_le}
use Rattle.std.specs.Int.{w32}
use Rattle.std.proofs.Common.{of_z}
use Rattle.std.specs.List.{flat_map}
use Rattle.terms.specs.declared.faults.Fault.{Fault}
use Rattle.terms.specs.declared.refusals.Refusal.TheVariants.{BufferShort}
use Rattle.terms.specs.Cells.{Cell, Row}
use Rattle.terms.specs.Faults.{at_place, refused_at}
use Rattle.sources.specs.declared.head.TableHead.{TableHead}
use Rattle.sources.specs.Heads.{head_verdict, head_rows}
use Rattle.cards.specs.Format.{row_width}

-- four bytes, the lowest first
abbrev pub four_bytes : ℕ → List ℕ
four_bytes n = (n % 256) ∷ ((n / 256 % 256) ∷ ((n / 65536 % 256) ∷ ((n / 16777216 % 256) ∷ [])))

-- a number in two's complement; an absent cell is four bytes 0
abbrev pub cell_bytes : Cell → List ℕ
cell_bytes None = four_bytes 0
cell_bytes (Some z) = four_bytes (of_z w32 z)

abbrev pub mark_bit : Cell → ℕ
mark_bit None = 1
mark_bit (Some z) = 0

-- a bit for each absent cell, the first cell's the lowest
abbrev pub mark_of : Row → ℕ
mark_of [] = 0
mark_of (c ∷ cs) = mark_bit c + 2 * mark_of cs

abbrev pub row_bytes : Row → List ℕ
row_bytes row = mark_of row ∷ flat_map cell_bytes row

-- a record's length and its kind, then the table's number and columns
abbrev pub head_bytes : ℕ → ℕ → ℕ → List ℕ
head_bytes size number columns = (size % 256) ∷ ((size / 256 % 256) ∷ (1 ∷ (0 ∷ (number ∷ (columns ∷ [])))))

abbrev pub table_record : ℕ → ℕ → List Row → List ℕ
table_record number columns rows = head_bytes (2 + length (flat_map row_bytes rows)) number columns ++ flat_map row_bytes rows

-- the record of a head over a list of cells, and its length
abbrev pub head_record : List Cell → TableHead → List ℕ
head_record cells h = table_record h.number h.columns (head_rows cells h)

abbrev pub record_length : TableHead → ℕ
record_length h = 6 + h.rows * row_width h.columns

-- the head is checked first, then the room for its record
abbrev pub write_verdict : TableHead → (cells room : ℕ) → Result (Unit {0}) Fault
write_verdict h cells room = refused_at (head_verdict cells h) 0 (cond (nat_le (record_length h) room) (Ok tt) (Err (at_place BufferShort 0)))

-- what a writing answers: how many bytes the record has, where it is not refused
abbrev pub written : Result (Unit {0}) Fault → ℕ → Result ℕ Fault
written (Ok _) n = Ok n
written (Err fault) n = Err fault

abbrev pub write_answer : TableHead → List Cell → (room : ℕ) → Result ℕ Fault
write_answer h cells room = written (write_verdict h (length cells) room) (length (head_record cells h))
