-- The record that a head is written as.
use Rattle.std.proofs.Common.{◌≡◌, ℕ, zero, suc, ◌+◌, ◌-◌, ◌*◌, ◌/◌, ◌%◌, ◌≤◌, true, leb, List, ◌++◌, length, take, drop, is_ok, Ok, sym, refl, ap, ◌∙◌, subst, suc-mul, zero-mul, mul-div_cancel, arith, length-drop, length-take}
use native.Mathlib.Nat.{mul-mod_left}
use Rattle.std.proofs.lemmas.List.{length-append, take_at, take-take, drop-take, drop-drop}
use borrow.Rule.Slice.PartMut.{put_mid}
use Rattle.std.proofs.lemmas.Bool.{leb-true}
use Rattle.std.specs.List.{flat_map, AllByRecursion}
use Rattle.terms.specs.Cells.{Cell, cell_in_range, every}
use Rattle.terms.specs.Tables.{Filled}
use Rattle.terms.specs.declared.refusals.Refusal.TheVariants.{BufferShort}
use Rattle.terms.specs.Faults.{at_place}
use Rattle.terms.proofs.Taken.{taken_at, taken_then}
use Rattle.sources.specs.declared.head.TableHead.{TableHead}
use Rattle.sources.specs.Heads.{head_verdict, rows_in, head_rows, head_table}
use Rattle.sources.specs.BenchFormed.{Sound, sound_head, rows_filled, length_rows as length-rows-in}
use Rattle.cards.specs.Format.{row_width}
use Rattle.writing.specs.Records.{head_bytes, row_bytes, head_record, record_length, write_verdict}
use Rattle.writing.specs.Laws.{Shows}
use Rattle.writing.proofs.Loads.{Writable, loads_back}
use Rattle.writing.proofs.Puts.{length_row}

-- what a head that is not refused shows
pub record Taken (h : TableHead) (len room : ℕ) : Type 0 where
  pub sound : Sound len h.number h
  pub fits : record_length h ≤ room

pub taken : (h : TableHead) (len room : ℕ) (u : Unit {0}) → Ok u ≡ write_verdict h len room → Taken h len room
taken h len room u e =
    let both = taken_at (head_verdict len h) 0 _ (ap is_ok (sym e)) in
    record {
      sound = sound_head len h.number h both.0 refl;
      fits = leb-true _ _ (taken_then (leb (record_length h) room) (Ok tt) (at_place BufferShort 0) both.1).0;
    }

-- the record's length
pub length_rows : (n columns : ℕ) (cs : List Cell) → n * columns ≤ length cs → length (flat_map row_bytes (rows_in n columns cs)) ≡ n * row_width columns
length_rows zero columns cs h = sym (zero-mul (row_width columns))
length_rows (suc n) columns cs h =
    let here : length (take columns cs) ≡ columns = rw length-take (omega (arith, h, suc-mul n columns)) in
    length-append (row_bytes (take columns cs)) _ ∙ omega (arith, length_row (take columns cs), ap row_width here, length_rows n columns (drop columns cs) (rw length-drop (omega (arith, h, suc-mul n columns))), suc-mul n (row_width columns))

-- the rows of a part that has just the rows' cells
pub rows_part : (n columns : ℕ) (cs : List Cell) → rows_in n columns (take (n * columns) cs) ≡ rows_in n columns cs
rows_part zero columns cs = refl
rows_part (suc n) columns cs =
    let more : suc n * columns ≡ columns + n * columns = omega (arith, suc-mul n columns) in
    let first : take columns (take (columns + n * columns) cs) ≡ take columns cs = take-take columns (columns + n * columns) cs (omega arith) in
    let rest : drop columns (take (columns + n * columns) cs) ≡ take (n * columns) (drop columns cs) = drop-take columns (n * columns) cs in
    rw (more, first, rest, rows_part n columns (drop columns cs))

-- the cells that the code hands on
pub cells_part : {X : Type 0} (first count : ℕ) (cs : List X) → first + count ≤ length cs → (length (take ((first + count) - first) (drop first cs)) ≡ count) × (take ((first + count) - first) (drop first cs) ≡ take count (drop first cs))
cells_part first count cs h =
    let size : (first + count) - first ≡ count = omega arith in
    rw size (rw (length-take, length-drop) (omega arith), refl)

abbrev pub handed : TableHead → List Cell → List Cell
handed h cs = take ((h.first + h.rows * h.columns) - h.first) (drop h.first cs)

module _ (h : TableHead) (cs : List Cell) (room : ℕ) (t : Taken h (length cs) room) where
  pub handed_count : length (handed h cs) ≡ h.rows * h.columns
  handed_count = (cells_part h.first (h.rows * h.columns) cs t.sound.inside).0

  pub handed_whole : length (handed h cs) % h.columns ≡ 0
  handed_whole = rw handed_count (mul-mod_left h.rows h.columns)

  pub handed_rows : length (handed h cs) / h.columns ≡ h.rows
  handed_rows = rw handed_count (mul-div_cancel h.rows t.sound.some_column)

  pub handed_is : rows_in (length (handed h cs) / h.columns) h.columns (handed h cs) ≡ head_rows cs h
  handed_is = rw (handed_rows, (cells_part h.first (h.rows * h.columns) cs t.sound.inside).1, rows_part h.rows h.columns (drop h.first cs))

  pub rows_size : length (flat_map row_bytes (head_rows cs h)) ≡ h.rows * row_width h.columns
  rows_size = length_rows h.rows h.columns (drop h.first cs) (rw length-drop (omega (arith, t.sound.inside)))

  pub record_size : length (head_record cs h) ≡ record_length h
  record_size = omega (arith, rows_size)

  -- the room for the rows, behind a head of six bytes
  pub rows_room : (out head : List ℕ) (end : ℕ) → length head ≡ 6 → room ≡ length out → end ≡ record_length h → length (take (end - 6) (drop 6 (head ++ drop 6 out))) ≡ h.rows * row_width h.columns
  rows_room out head end six er ee = simp (length-take, length-append, length-drop) (omega (arith, t.fits, er))

  -- the record in the buffer: its head in front, then its rows, then what was there
  pub record_written : (out head rows : List ℕ) (k : ℕ) → head ≡ head_bytes (2 + h.rows * row_width h.columns) h.number h.columns → rows ≡ flat_map row_bytes (head_rows cs h) → k ≡ h.rows * row_width h.columns → put_mid 6 k (head ++ drop 6 out) rows ≡ head_record cs h ++ drop (length (head_record cs h)) out
  record_written out head rows k eh er ek =
      let size : h.rows * row_width h.columns ≡ length (flat_map row_bytes (head_rows cs h)) = sym rows_size in
      let whole : 6 + k ≡ length (head_record cs h) = omega (arith, record_size, ek) in
      let rest : drop k (drop 6 out) ≡ drop (length (head_record cs h)) out = drop-drop k 6 out ∙ ap (λ m. drop m out) whole in
      rw (eh, er, rest, size) refl

  -- the table may be written
  pub writable : every cell_in_range (handed h cs) ≡ true → Writable h.number h.columns (head_rows cs h)
  writable ranged =
      let same : rows_in h.rows h.columns (handed h cs) ≡ head_rows cs h = ap (λ n. rows_in n h.columns (handed h cs)) (sym handed_rows) ∙ handed_is in
      record {
        number_low = t.sound.number_low;
        number_high = t.sound.number_high;
        some_column = t.sound.some_column;
        few_columns = t.sound.few_columns;
        few_rows = rw length-rows-in t.sound.few_rows;
        each_row = subst (AllByRecursion (Filled h.columns)) same (rows_filled h.rows h.columns (handed h cs) (omega (arith, handed_count)) ranged);
      }

  -- the bytes written, loaded, show the table
  pub written_shows : every cell_in_range (handed h cs) ≡ true → (out done : List ℕ) (n : ℕ) → n ≡ length (head_record cs h) → done ≡ head_record cs h ++ drop (length (head_record cs h)) out → Shows (take n done) h.number (head_table cs h)
  written_shows ranged out done n en ed =
      let image : take n done ≡ head_record cs h = ap (take n) ed ∙ take_at (head_record cs h) _ n (sym en) in
      subst (λ i. Shows i h.number (head_table cs h)) (sym image) (loads_back h.number h.columns (head_rows cs h) (writable ranged))
