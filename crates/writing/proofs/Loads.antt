-- The image of one written table.
use Rattle.std.proofs.Common.{◌≡◌, ℕ, ◌*◌, ◌/◌, ◌%◌, ◌≤◌, true, false, eqb, leb, ltb, List, [], ◌∷◌, map, length, is_ok, Some, Ok, sym, refl, ap, ◌∙◌, mul-div_cancel, arith}
use native.Mathlib.Nat.{mul-mod_left}
use Rattle.std.proofs.lemmas.Nat.{mul-le}
use Rattle.std.proofs.lemmas.List.{take_all, drop_all}
use Rattle.std.proofs.lemmas.Bool.{eq-eqb, le-leb, le-ltb}
use Rattle.std.specs.List.{flat_map, AllByRecursion}
use Rattle.std.specs.Option.{option_map}
use Rattle.terms.specs.Cells.{Row}
use Rattle.terms.specs.Faults.{refused_at}
use Rattle.terms.specs.Tables.{Filled}
use Rattle.cards.specs.Format.{records, row_width, rows_right}
use Rattle.cards.specs.Verdicts.{row_count, rows_verdict, table_verdict, records_verdict}
use Rattle.cards.specs.CardTables.{RawTable, tables_in, table_for, shown}
use Rattle.cards.specs.Heads.{size_at}
use Rattle.cards.proofs.RecordSteps.{left_next, verdict_is}
use Rattle.writing.specs.Records.{row_bytes, table_record}
use Rattle.writing.specs.Laws.{Shows}
use Rattle.writing.proofs.Back.{length_rows, rows_back}

-- a table that may be written
pub record Writable (number columns : ℕ) (rows : List Row) : Type 0 where
  pub number_low : 1 ≤ number
  pub number_high : number ≤ 16
  pub some_column : 1 ≤ columns
  pub few_columns : columns ≤ 6
  pub few_rows : length rows ≤ 1024
  pub each_row : AllByRecursion (Filled columns) rows

module _ (number columns : ℕ) (rows : List Row) (t : Writable number columns rows) where
  long : length (flat_map row_bytes rows) ≡ length rows * row_width columns
  long = length_rows columns rows t.each_row

  small : length (flat_map row_bytes rows) ≤ 25600
  small = rw long (mul-le (length rows) (row_width columns) 1024 25 t.few_rows (omega (arith, t.few_columns)))

  count : length (flat_map row_bytes rows) / row_width columns ≡ length rows
  count = rw long (mul-div_cancel (length rows) (omega arith))

  rows_taken : rows_verdict columns (flat_map row_bytes rows) ≡ Ok tt
  rows_taken =
      let a : eqb (length (flat_map row_bytes rows) % row_width columns) 0 ≡ true = eq-eqb _ _ (rw long (mul-mod_left (length rows) (row_width columns))) in
      let b : leb (row_count columns (flat_map row_bytes rows)) 1024 ≡ true = le-leb _ _ (rw count t.few_rows) in
      let r : rows_right (row_count columns (flat_map row_bytes rows)) columns (flat_map row_bytes rows) ≡ true = rw count (rows_back columns rows t.few_columns t.each_row).1 in
      rw (a, b, r)

  table_taken : table_verdict (number ∷ (columns ∷ flat_map row_bytes rows)) ≡ Ok tt
  table_taken =
      let a : leb 1 number ≡ true = le-leb _ _ t.number_low in
      let b : leb number 16 ≡ true = le-leb _ _ t.number_high in
      let c : leb 1 columns ≡ true = le-leb _ _ t.some_column in
      let d : leb columns 6 ≡ true = le-leb _ _ t.few_columns in
      rw (a, b, c, d) rows_taken

  abbrev payload : List ℕ
  payload = number ∷ (columns ∷ flat_map row_bytes rows)

  -- the image has that one record
  the_record : records (table_record number columns rows) ≡ record { place = 0; bytes = table_record number columns rows; size = length payload; kind = 1; payload = payload } ∷ []
  the_record =
      let size : size_at (table_record number columns rows) ≡ length payload = omega (arith, small) in
      left_next 0 (table_record number columns rows) (omega arith)
      ∙ rw (size, take_all (length payload) payload (omega arith), drop_all (length payload) payload (omega arith)) refl

  records_taken : records_verdict (records (table_record number columns rows)) ≡ Ok tt
  records_taken =
      let whole : ltb (length payload) (length payload) ≡ false = le-ltb _ _ (omega arith) in
      ap records_verdict the_record ∙ rw whole (ap (λ v. refused_at v 0 (Ok tt)) table_taken)

  -- the record of a table, loaded, shows that table
  pub loads_back : Shows (table_record number columns rows) number (record { columns = columns; rows = map Some rows })
  loads_back =
      let found : RawTable = record { whole = table_record number columns rows; number = number; columns = columns; bytes = flat_map row_bytes rows } in
      let e : eqb number number ≡ true = eq-eqb number number refl in
      let is : table_for (tables_in (records (table_record number columns rows))) number ≡ Some found = ap (λ rs. table_for (tables_in rs) number) the_record ∙ rw e in
      let same : shown found ≡ record { columns = columns; rows = map Some rows } =
      ap (λ rs. record { columns = columns; rows = rs }) (rw count (rows_back columns rows t.few_columns t.each_row).0) in
      record {
        taken = ap is_ok (sym (verdict_is (table_record number columns rows) (omega (arith, small))) ∙ records_taken);
        shown = ap (option_map shown) is ∙ ap Some same;
      }
