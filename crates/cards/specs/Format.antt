-- The card format: how an image is cut into records, and how the bytes of a row are read.
use Rattle.std.specs.Prelude.{ℕ, zero, suc, ◌+◌, ◌*◌, ◌/◌, ◌%◌, Bool, true, cond, not, ◌&&◌, ◌||◌, List, [], ◌∷◌, length, take, drop, Some, None, ◌==◌, nat_lt, slice_index}
use Rattle.std.specs.Int.{w32}
use Rattle.std.proofs.Common.{to_z}
use Rattle.terms.specs.Cells.{Cell, Row}
use Rattle.terms.specs.Tables.{Stored}

-- Records.

-- the place of a record's first byte, its bytes as they stand in the image, the length and the kind that its head gives,
-- and as much of its payload as there is
pub record CardRecord : Type 0 where
  pub place : ℕ
  pub bytes : List ℕ
  pub size : ℕ
  pub kind : ℕ
  pub payload : List ℕ

-- The records of bytes that begin at `place`; fewer than four bytes are no record. Each record has four bytes at least,
-- so `fuel`, which bounds their number, is enough once it is the number of bytes.
abbrev pub cut : ℕ → ℕ → List ℕ → List CardRecord
cut zero place bytes = []
cut (suc fuel) place [] = []
cut (suc fuel) place (a ∷ []) = []
cut (suc fuel) place (a ∷ (b ∷ [])) = []
cut (suc fuel) place (a ∷ (b ∷ (c ∷ []))) = []
cut (suc fuel) place (l0 ∷ (l1 ∷ (k0 ∷ (k1 ∷ rest)))) =
    let size = l0 + l1 * 256 in
    record { place = place; bytes = l0 ∷ (l1 ∷ (k0 ∷ (k1 ∷ take size rest))); size = size; kind = k0 + k1 * 256; payload = take size rest } ∷ cut fuel (place + (4 + size)) (drop size rest)

abbrev pub records : List ℕ → List CardRecord
records image = cut (length image) 0 image

-- what is left of an image from a place on, and the records in it
abbrev pub left : ℕ → List ℕ → List CardRecord
left place bytes = cut (length bytes) place bytes

-- Rows. A row is a mark byte and four bytes for each column.

abbrev pub row_width : ℕ → ℕ
row_width columns = 1 + 4 * columns

-- the first four bytes as a number, the lowest byte first
abbrev pub word : List ℕ → ℕ
word bytes = slice_index bytes 0 + slice_index bytes 1 * 256 + slice_index bytes 2 * 65536 + slice_index bytes 3 * 16777216

-- the mark's lowest bit says whether the first cell is absent; a number is in two's complement
abbrev pub first_cell : ℕ → List ℕ → Cell
first_cell mark bytes = cond (mark % 2 == 0) (Some (to_z w32 (word bytes))) None

abbrev pub cells_of : ℕ → ℕ → List ℕ → Row
cells_of zero mark bytes = []
cells_of (suc n) mark bytes = first_cell mark bytes ∷ cells_of n (mark / 2) (drop 4 bytes)

-- an absent cell has four bytes 0, and the mark has no bit past the columns
abbrev pub cells_right : ℕ → ℕ → List ℕ → Bool
cells_right zero mark bytes = mark == 0
cells_right (suc n) mark bytes = (mark % 2 == 0 || word bytes == 0) && cells_right n (mark / 2) (drop 4 bytes)

-- a mark with bit 7 says that the row is unreadable; nothing else in the row is looked at
abbrev pub readable : List ℕ → Bool
readable bytes = nat_lt (slice_index bytes 0) 128

abbrev pub row_of : ℕ → List ℕ → Stored
row_of columns bytes = cond (readable bytes) (Some (cells_of columns (slice_index bytes 0) (drop 1 bytes))) None

abbrev pub row_right : ℕ → List ℕ → Bool
row_right columns bytes = not (readable bytes) || cells_right columns (slice_index bytes 0) (drop 1 bytes)

-- the first n rows of the bytes of a table
abbrev pub rows_from : ℕ → ℕ → List ℕ → List Stored
rows_from zero columns bytes = []
rows_from (suc n) columns bytes = row_of columns (take (row_width columns) bytes) ∷ rows_from n columns (drop (row_width columns) bytes)

abbrev pub rows_right : ℕ → ℕ → List ℕ → Bool
rows_right zero columns bytes = true
rows_right (suc n) columns bytes = row_right columns (take (row_width columns) bytes) && rows_right n columns (drop (row_width columns) bytes)
