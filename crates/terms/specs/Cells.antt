-- Cells and rows.
use Rattle.std.specs.Prelude.{Bool, true, false, ◌&&◌, List, [], ◌∷◌, ℤ, pos, negsuc, Some, None, Option, ◌==◌, int_le}

-- absent, or a number: a table's cell, a work cell's value and an aggregate's answer alike
abbrev pub Cell : Type 0
Cell = Option ℤ

abbrev pub Row : Type 0
Row = List Cell

-- the range of a number in a table: -2,147,483,648 to 2,147,483,647
abbrev pub in_range : ℤ → Bool
in_range z = int_le (negsuc 2147483647) z && int_le z (pos 2147483647)

abbrev pub cell_in_range : Cell → Bool
cell_in_range None = true
cell_in_range (Some z) = in_range z

abbrev pub every : {X : Type 0} → (X → Bool) → List X → Bool
every p [] = true
every p (x ∷ xs) = p x && every p xs

abbrev pub same_number : ℤ → ℤ → Bool
same_number (pos a) (pos b) = a == b
same_number (pos a) (negsuc b) = false
same_number (negsuc a) (pos b) = false
same_number (negsuc a) (negsuc b) = a == b

-- both absent, or both one number
abbrev pub same : Cell → Cell → Bool
same None None = true
same None (Some y) = false
same (Some x) None = false
same (Some x) (Some y) = same_number x y
