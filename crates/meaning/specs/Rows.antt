-- Rows by their columns, and lists of rows.
use Rattle.std.specs.Prelude.{ℕ, ◌-◌, Bool, true, false, ◌&&◌, ◌||◌, List, [], ◌∷◌, map, None, slice_index_or}
use Rattle.terms.specs.Cells.{Cell, Row, same}

-- columns count from 1; past a row's end a cell is absent
abbrev pub cell : ℕ → Row → Cell
cell column row = slice_index_or row (column - 1) None

abbrev pub cells : List ℕ → Row → Row
cells columns row = map (λ column. cell column row) columns

-- the rows of each table, by its number
abbrev pub Contents : Type 0
Contents = ℕ → List Row

abbrev pub some : {X : Type 0} → (X → Bool) → List X → Bool
some p [] = false
some p (x ∷ xs) = p x || some p xs

-- whether all cells of two tuples are the same
abbrev pub alike : List Cell → List Cell → Bool
alike [] [] = true
alike [] (y ∷ ys) = false
alike (x ∷ xs) [] = false
alike (x ∷ xs) (y ∷ ys) = same x y && alike xs ys
