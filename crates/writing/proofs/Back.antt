-- What is written is read back.
use Rattle.std.proofs.Common.{◌≡◌, ℕ, ◌+◌, ◌*◌, ◌/◌, ◌%◌, ◌^◌, ◌<◌, ◌≤◌, true, false, ◌||◌, eqb, ltb, List, [], ◌∷◌, ◌++◌, map, length, take, drop, ℤ, pos, negsuc, Some, None, sym, refl, ap, ◌∙◌, mod-eq_of_lt, suc-mul, div-add-mod', zero-mul, arith, w32, SFits, to_z, of_z}
use native.Mathlib.Nat.{div-div-eq-div-mul}
use lib.Signed.{le_z}
use Rattle.std.proofs.lemmas.List.{length-append, take_at, drop_at}
use Rattle.std.proofs.lemmas.Int.{to_z-of_z}
use Rattle.std.proofs.lemmas.Bool.{and_parts, eq-eqb, ne_eqb, leb-true, lt-ltb}
use Rattle.std.proofs.lemmas.Nat.{div_below}
use Rattle.std.specs.List.{flat_map, AllByRecursion}
use Rattle.terms.specs.Cells.{Cell, Row, in_range, cell_in_range, every}
use Rattle.terms.specs.Tables.{Filled}
use Rattle.cards.specs.Format.{row_width, word, first_cell, cells_of, cells_right, row_of, row_right, rows_from, rows_right}
use Rattle.writing.specs.Records.{four_bytes, cell_bytes, mark_bit, mark_of, row_bytes}
use Rattle.writing.proofs.Marks.{mark_below}
use Rattle.writing.proofs.Puts.{length_row}

-- a number in a cell's range has 32 bits
range_fits : (z : ℤ) → in_range z ≡ true → SFits w32 z
range_fits (pos n) e = record { sfits = omega (arith, leb-true n 2147483647 (and_parts (le_z (negsuc 2147483647) (pos n)) (le_z (pos n) (pos 2147483647)) e).1) }
range_fits (negsuc n) e = record { sfits = omega (arith, leb-true n 2147483647 (and_parts (le_z (negsuc 2147483647) (negsuc n)) (le_z (negsuc n) (pos 2147483647)) e).0) }

-- a number in its four bytes
pub word_back : (n : ℕ) (bs : List ℕ) → n < 2 ^ 32 → word (four_bytes n ++ bs) ≡ n
word_back n bs h =
    let top : n / 16777216 < 256 = div_below n 16777216 256 (omega arith) h in
    omega (arith, div-add-mod' n 256, div-add-mod' (n / 256) 256, div-add-mod' (n / 65536) 256, div-div-eq-div-mul n 256 256, div-div-eq-div-mul n 65536 256, mod-eq_of_lt top)

ofZ_small : (z : ℤ) → SFits w32 z → of_z w32 z < 2 ^ 32
ofZ_small (pos n) h = omega (arith, h.sfits)
ofZ_small (negsuc n) h = omega (arith, h.sfits)

-- a cell and the rest of the mark
pub cell_back : (c : Cell) (mark : ℕ) (bs : List ℕ) → cell_in_range c ≡ true → first_cell (mark_bit c + 2 * mark) (cell_bytes c ++ bs) ≡ c
cell_back None mark bs h = let e : eqb ((1 + 2 * mark) % 2) 0 ≡ false = ne_eqb _ _ (λ z. omega (arith, z)) in rw e
cell_back (Some z) mark bs h =
    let e : eqb ((0 + 2 * mark) % 2) 0 ≡ true = eq-eqb _ _ (omega arith) in
    rw e (ap (λ n. Some (to_z w32 n)) (word_back (of_z w32 z) bs (ofZ_small z (range_fits z h))) ∙ ap Some (to_z-of_z w32 z (range_fits z h)))

half_mark : (c : Cell) (mark : ℕ) → (mark_bit c + 2 * mark) / 2 ≡ mark
half_mark None mark = omega arith
half_mark (Some z) mark = omega arith

drop-cell : (c : Cell) (bs : List ℕ) → drop 4 (cell_bytes c ++ bs) ≡ bs
drop-cell None bs = refl
drop-cell (Some z) bs = refl

pub cells_back : (cs : Row) → every cell_in_range cs ≡ true → cells_of (length cs) (mark_of cs) (flat_map cell_bytes cs) ≡ cs
cells_back [] h = refl
cells_back (c ∷ cs) h =
    let both = and_parts (cell_in_range c) (every cell_in_range cs) h in
    let e = cell_back c (mark_of cs) (flat_map cell_bytes cs) both.0 in
    let f : cells_of (length cs) ((mark_bit c + 2 * mark_of cs) / 2) (drop 4 (cell_bytes c ++ flat_map cell_bytes cs)) ≡ cs = rw (half_mark c (mark_of cs), drop-cell c (flat_map cell_bytes cs)) (cells_back cs both.1) in
    rw (e, f)

cell_right : (c : Cell) (mark : ℕ) (bs : List ℕ) → (eqb ((mark_bit c + 2 * mark) % 2) 0 || eqb (word (cell_bytes c ++ bs)) 0) ≡ true
cell_right None mark bs = let e : eqb ((1 + 2 * mark) % 2) 0 ≡ false = ne_eqb _ _ (λ z. omega (arith, z)) in rw e
cell_right (Some z) mark bs = let e : eqb ((0 + 2 * mark) % 2) 0 ≡ true = eq-eqb _ _ (omega arith) in rw e

pub right_back : (cs : Row) → cells_right (length cs) (mark_of cs) (flat_map cell_bytes cs) ≡ true
right_back [] = refl
right_back (c ∷ cs) =
    let e = cell_right c (mark_of cs) (flat_map cell_bytes cs) in
    let f : cells_right (length cs) ((mark_bit c + 2 * mark_of cs) / 2) (drop 4 (cell_bytes c ++ flat_map cell_bytes cs)) ≡ true = rw (half_mark c (mark_of cs), drop-cell c (flat_map cell_bytes cs)) (right_back cs) in
    rw (e, f)

pub row_back : (columns : ℕ) (cs : Row) → columns ≤ 6 → Filled columns cs → (row_of columns (row_bytes cs) ≡ Some cs) × (row_right columns (row_bytes cs) ≡ true)
row_back columns cs h f =
    let small : ltb (mark_of cs) 128 ≡ true = lt-ltb _ _ (omega (arith, mark_below cs 6 (omega (arith, f.wide)))) in
    let a : cells_of columns (mark_of cs) (flat_map cell_bytes cs) ≡ cs = rw (sym f.wide) (cells_back cs f.ranged) in
    let b : cells_right columns (mark_of cs) (flat_map cell_bytes cs) ≡ true = rw (sym f.wide) (right_back cs) in
    rw small (rw a refl, rw b refl)

-- Rows.

pub length_rows : (columns : ℕ) (rows : List Row) → AllByRecursion (Filled columns) rows → length (flat_map row_bytes rows) ≡ length rows * row_width columns
length_rows columns [] h = sym (zero-mul (row_width columns))
length_rows columns (r ∷ rows) h =
    length-append (row_bytes r) (flat_map row_bytes rows) ∙ omega (arith, length_row r, ap row_width h.0.wide, length_rows columns rows h.1, suc-mul (length rows) (row_width columns))

-- the first of the rows that follow one another
row_long : (columns : ℕ) (r : Row) → length r ≡ columns → length (row_bytes r) ≡ row_width columns
row_long columns r e = length_row r ∙ ap row_width e

pub rows_back : (columns : ℕ) (rows : List Row) → columns ≤ 6 → AllByRecursion (Filled columns) rows → (rows_from (length rows) columns (flat_map row_bytes rows) ≡ map Some rows) × (rows_right (length rows) columns (flat_map row_bytes rows) ≡ true)
rows_back columns [] h f = (refl, refl)
rows_back columns (r ∷ rows) h f =
    let here = row_back columns r h f.0 in
    let later = rows_back columns rows h f.1 in
    let first : take (row_width columns) (row_bytes r ++ flat_map row_bytes rows) ≡ row_bytes r = take_at (row_bytes r) (flat_map row_bytes rows) (row_width columns) (row_long columns r f.0.wide) in
    let rest : drop (row_width columns) (row_bytes r ++ flat_map row_bytes rows) ≡ flat_map row_bytes rows = drop_at (row_bytes r) (flat_map row_bytes rows) (row_width columns) (row_long columns r f.0.wide) in
    let a : row_of columns (take (row_width columns) (row_bytes r ++ flat_map row_bytes rows)) ≡ Some r = ap (row_of columns) first ∙ here.0 in
    let b : rows_from (length rows) columns (drop (row_width columns) (row_bytes r ++ flat_map row_bytes rows)) ≡ map Some rows = ap (rows_from (length rows) columns) rest ∙ later.0 in
    let c : row_right columns (take (row_width columns) (row_bytes r ++ flat_map row_bytes rows)) ≡ true = ap (row_right columns) first ∙ here.1 in
    let d : rows_right (length rows) columns (drop (row_width columns) (row_bytes r ++ flat_map row_bytes rows)) ≡ true = ap (rows_right (length rows) columns) rest ∙ later.1 in
    (rw (a, b), rw (c, d))
