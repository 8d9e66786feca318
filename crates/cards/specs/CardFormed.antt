-- A proof, for the card's promise as a source: the tables of an image that passed the load are well formed.
use Rattle.std.specs.Prelude.{◌≡◌, ℕ, zero, suc, ◌-◌, ◌/◌, ◌%◌, ◌≤◌, Bool, true, false, cond, ltb, List, [], ◌∷◌, length, take, drop, is_ok, Some, None, Ok, Option, Result, ◌==◌, nat_le, nat_lt, refl}
use Rattle.std.proofs.Common.{sym, ap, subst, ◌∙◌, ⊎_elim, arith}
use Rattle.std.specs.Int.{w32}
use mir.Val.{to_z}
use Rattle.std.proofs.lemmas.Bool.{and_parts, and_from, leb-true, eqb-true, true≢false, cond_both, cases_lt, lt-ltb, le-ltb, le-leb}
use Rattle.std.specs.List.{AllByRecursion}
use Rattle.terms.specs.declared.refusals.Refusal.{Refusal}
use Rattle.terms.specs.Cells.{cell_in_range, in_range, every}
use Rattle.terms.specs.Numbered.{within}
use Rattle.terms.specs.Tables.{RowFormed, Formed, WellFormed}
use Rattle.sources.specs.Formed.{found_formed}
use Rattle.sources.specs.Heads.{number_and_columns_in_range}
use Rattle.terms.proofs.Loops.{numbered_in_front, numbered_behind}
use Rattle.terms.proofs.Taken.{taken_at, taken_then, taken_else, between}
use Rattle.cards.specs.Format.{CardRecord, records, row_width, word, cells_of, readable, rows_from, rows_right}
use Rattle.cards.specs.Verdicts.{row_count, rows_counted, rows_verdict, table_verdict, payload_verdict, record_verdict, records_verdict, card_takes}
use Rattle.cards.specs.CardTables.{RawTable, table_in_payload, table_in, tables_in, table_for, raw_table, shown, card_tables}

-- what holds of each table that counts on a card
pub record Sound (n : ℕ) (t : RawTable) : Type 0 where
  pub number_low : 1 ≤ n
  pub number_high : n ≤ 16
  pub some_column : 1 ≤ t.columns
  pub few_columns : t.columns ≤ 6
  pub whole : length t.bytes % row_width t.columns ≡ 0
  pub few_rows : row_count t.columns t.bytes ≤ 1024
  pub right : rows_right (row_count t.columns t.bytes) t.columns t.bytes ≡ true

sound_payload : (n : ℕ) (whole p : List ℕ) (t : RawTable) → is_ok (table_verdict p) ≡ true → table_for (table_in_payload whole p) n ≡ Some t → Sound n t
sound_payload n whole [] t w e = absurd (true≢false (sym w))
sound_payload n whole (a ∷ []) t w e = absurd (true≢false (sym w))
sound_payload n whole (a ∷ (b ∷ bs)) t w e =
    let head = taken_then (number_and_columns_in_range a b) (rows_verdict b bs) _ w in
    let ranges = and_parts (within 1 a 16) (within 1 b 6) head.0 in
    let number = between 1 a 16 ranges.0 in
    let columns = between 1 b 6 ranges.1 in
    let rows = taken_then (rows_counted b bs) _ _ head.1 in
    let counted = and_parts (length bs % row_width b == 0) (nat_le (row_count b bs) 1024) rows.0 in
    let found : RawTable = record { whole = whole; number = a; columns = b; bytes = bs } in
    let sound : a ≡ n → Sound n found =
    λ q. record { number_low = rw q at number.0; number_high = rw q at number.1; some_column = columns.0; few_columns = columns.1; whole = eqb-true _ _ counted.0; few_rows = leb-true _ _ counted.1; right = (taken_then (rows_right (row_count b bs) b bs) (Ok tt) _ rows.1).0 } in
    same (a == n) refl found e sound
  where
    same : (q : Bool) → (a == n) ≡ q → (f : RawTable) → cond q (Some f) None ≡ Some t → (a ≡ n → Sound n f) → Sound n t
    same true q f e s = let eq : f ≡ t = cc in subst (Sound n) eq (s (eqb-true a n q))
    same false q f e s = let z : ◌≡◌ {A = ℕ} 0 1 = cc in absurd (omega arith)

sound_kind : (n kind : ℕ) (whole p : List ℕ) (t : RawTable) → is_ok (payload_verdict kind p) ≡ true → table_for (table_in whole kind p) n ≡ Some t → Sound n t
sound_kind n kind whole p t w e = go (kind == 1) _ w e
  where
    go : (q : Bool) (other : Result (Unit {0}) Refusal) → is_ok (cond q (table_verdict p) other) ≡ true → table_for (cond q (table_in_payload whole p) []) n ≡ Some t → Sound n t
    go true other w e = sound_payload n whole p t w e
    go false other w e = let z : ◌≡◌ {A = ℕ} 0 1 = cc in absurd (omega arith)

sound_records : (n : ℕ) (rs : List CardRecord) (t : RawTable) → is_ok (records_verdict rs) ≡ true → table_for (tables_in rs) n ≡ Some t → Sound n t
sound_records n [] t w e = let z : ◌≡◌ {A = ℕ} 0 1 = cc in absurd (omega arith)
sound_records n (r ∷ rs) t w e =
    let taken = taken_at (record_verdict r) r.place (records_verdict rs) w in
    let whole = taken_else (nat_lt (length r.payload) r.size) (payload_verdict r.kind r.payload) _ taken.0 in
    go (table_for (table_in r.bytes r.kind r.payload) n) refl whole.1 (sound_records n rs t taken.1)
  where
    go : (o : Option RawTable) → table_for (table_in r.bytes r.kind r.payload) n ≡ o → is_ok (payload_verdict r.kind r.payload) ≡ true → (table_for (tables_in rs) n ≡ Some t → Sound n t) → Sound n t
    go None q ok later = later (sym (numbered_behind (λ x. x.number) n (table_in r.bytes r.kind r.payload) (tables_in rs) q) ∙ e)
    go (Some f) q ok later =
        let same : Some f ≡ Some t = sym (numbered_in_front (λ x. x.number) n (table_in r.bytes r.kind r.payload) (tables_in rs) f q) ∙ e in
        sound_kind n r.kind r.bytes r.payload t ok (q ∙ same)

pub records_taken : (image : List ℕ) → card_takes image ≡ true → is_ok (records_verdict (records image)) ≡ true
records_taken image e = (taken_else (nat_lt 65536 (length image)) (records_verdict (records image)) _ e).1

-- each table that counts is sound
pub sound_table : (image : List ℕ) (n : ℕ) (t : RawTable) → card_takes image ≡ true → raw_table image n ≡ Some t → Sound n t
sound_table image n t p e = sound_records n (records image) t (records_taken image p) e

-- four bytes in two's complement are in a cell's range
word_in_range : (m : ℕ) → in_range (to_z w32 m) ≡ true
word_in_range m =
    ⊎_elim
    (λ l. let t : ltb m 2147483648 ≡ true = lt-ltb _ _ l in rw t (le-leb m 2147483647 (omega arith)))
    (λ l. let t : ltb m 2147483648 ≡ false = le-ltb _ _ l in rw t (and_from _ _ (le-leb (4294967296 - suc m) 2147483647 (omega arith)) refl))
    (cases_lt m 2147483648)

cells_in_range : (n mark : ℕ) (bs : List ℕ) → every cell_in_range (cells_of n mark bs) ≡ true
cells_in_range zero mark bs = refl
cells_in_range (suc n) mark bs =
    and_from _ _
    (cond_both (mark % 2 == 0) (Some (to_z w32 (word bs))) None (λ c. cell_in_range c ≡ true) (λ _. word_in_range (word bs)) (λ _. refl))
    (cells_in_range n (mark / 2) (drop 4 bs))

pub length_cells : (n mark : ℕ) (bs : List ℕ) → length (cells_of n mark bs) ≡ n
length_cells zero mark bs = refl
length_cells (suc n) mark bs = ap suc (length_cells n (mark / 2) (drop 4 bs))

rows_formed : (n columns : ℕ) (bs : List ℕ) → AllByRecursion (RowFormed columns) (rows_from n columns bs)
rows_formed zero columns bs = tt
rows_formed (suc n) columns bs =
    let row = take (row_width columns) bs in (
      cond_both (readable row) _ None (RowFormed columns) (λ _. record { wide = length_cells columns _ (drop 1 row); ranged = cells_in_range columns _ (drop 1 row) }) (λ _. tt),
      rows_formed n columns (drop (row_width columns) bs),
    )

pub length_rows : (n columns : ℕ) (bs : List ℕ) → length (rows_from n columns bs) ≡ n
length_rows zero columns bs = refl
length_rows (suc n) columns bs = ap suc (length_rows n columns (drop (row_width columns) bs))

table_formed : (n : ℕ) (t : RawTable) → Sound n t → Formed (shown t)
table_formed n t s = record {
  some_column = s.some_column;
  few_columns = s.few_columns;
  few_rows = rw length_rows s.few_rows;
  each_row = rows_formed (row_count t.columns t.bytes) t.columns t.bytes;
}

pub card_formed : (image : List ℕ) → card_takes image ≡ true → WellFormed (card_tables image)
card_formed image taken =
    found_formed shown (raw_table image)
    (λ n t q. let s = sound_table image n t taken q in record { number_low = s.number_low; number_high = s.number_high; formed = table_formed n t s })
