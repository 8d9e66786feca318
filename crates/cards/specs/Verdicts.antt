-- What a load answers: the image's length first, then record after record, and within each the checks in this order.
use Rattle.std.specs.Prelude.{ℕ, ◌/◌, ◌%◌, Bool, cond, ◌&&◌, List, [], ◌∷◌, length, is_ok, Ok, Err, Result, ◌==◌, nat_le, nat_lt}
use Rattle.terms.specs.declared.faults.Fault.{Fault}
use Rattle.terms.specs.declared.refusals.Refusal.{Refusal}
use Rattle.terms.specs.declared.refusals.Refusal.TheVariants.{ImageTooLong, RecordPastEnd, UnknownKind, BadTableHead, BadRowCount, BadRow}
use Rattle.terms.specs.Faults.{at_place, refused_at}
use Rattle.sources.specs.Heads.{number_and_columns_in_range}
use Rattle.cards.specs.Format.{CardRecord, records, row_width, rows_right}

abbrev pub row_count : ℕ → List ℕ → ℕ
row_count columns bytes = length bytes / row_width columns

-- whole rows, and not too many
abbrev pub rows_counted : ℕ → List ℕ → Bool
rows_counted columns bytes = length bytes % row_width columns == 0 && nat_le (row_count columns bytes) 1024

abbrev pub rows_verdict : ℕ → List ℕ → Result (Unit {0}) Refusal
rows_verdict columns bytes =
    cond (rows_counted columns bytes) (cond (rows_right (row_count columns bytes) columns bytes) (Ok tt) (Err BadRow)) (Err BadRowCount)

-- a table's payload: its number, its columns, then the rows
abbrev pub table_verdict : List ℕ → Result (Unit {0}) Refusal
table_verdict [] = Err BadTableHead
table_verdict (number ∷ []) = Err BadTableHead
table_verdict (number ∷ (columns ∷ bytes)) = cond (number_and_columns_in_range number columns) (rows_verdict columns bytes) (Err BadTableHead)

-- kind 1 is a table; kind 2 is a remark, which is skipped
abbrev pub payload_verdict : ℕ → List ℕ → Result (Unit {0}) Refusal
payload_verdict kind payload = cond (kind == 1) (table_verdict payload) (cond (kind == 2) (Ok tt) (Err UnknownKind))

abbrev pub record_verdict : CardRecord → Result (Unit {0}) Refusal
record_verdict r = cond (nat_lt (length r.payload) r.size) (Err RecordPastEnd) (payload_verdict r.kind r.payload)

-- the first record that is refused decides
abbrev pub records_verdict : List CardRecord → Result (Unit {0}) Fault
records_verdict [] = Ok tt
records_verdict (r ∷ rs) = refused_at (record_verdict r) r.place (records_verdict rs)

abbrev pub card_verdict : List ℕ → Result (Unit {0}) Fault
card_verdict image = cond (nat_lt 65536 (length image)) (Err (at_place ImageTooLong 0)) (records_verdict (records image))

abbrev pub card_takes : List ℕ → Bool
card_takes image = is_ok (card_verdict image)
