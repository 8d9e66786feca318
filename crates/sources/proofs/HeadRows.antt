-- The rows of a head, one by one.
use Rattle.std.proofs.Common.{◌≡◌, ℕ, zero, suc, ◌+◌, ◌-◌, ◌*◌, ◌<◌, ◌≤◌, List, ◌∷◌, map, length, take, drop, Some, None, sym, refl, ap, ◌∙◌, suc-mul, zero-mul, arith}
use Rattle.std.proofs.lemmas.List.{drop-drop, length-map}
use Rattle.std.proofs.lemmas.Option.{slice_get_past}
use Rattle.std.specs.List.{slice_get}
use Rattle.std.specs.Option.{option_map}
use Rattle.terms.specs.Cells.{Cell}
use Rattle.terms.specs.Tables.{row_at}
use Rattle.sources.specs.declared.head.TableHead.{TableHead}
use Rattle.sources.specs.Heads.{rows_in, head_table}
use Rattle.sources.specs.Benches.{head_for, bench_tables}
use Rattle.sources.specs.BenchFormed.{length_rows}

-- a part of a list that is cut into parts of one size, by its index
pub nth_part : {X Y : Type 0} (parts : ℕ → List X → List Y) (read : List X → Y) (w : ℕ) → ((n : ℕ) (xs : List X) → parts (suc n) xs ≡ read (take w xs) ∷ parts n (drop w xs)) → (n : ℕ) (xs : List X) (k : ℕ) → k < n → slice_get (parts n xs) k ≡ Some (read (take w (drop (k * w) xs)))
nth_part parts read w next zero xs k h = absurd (omega arith)
nth_part parts read w next (suc n) xs zero h = ap (λ ys. slice_get ys 0) (next n xs) ∙ ap (λ m. Some (read (take w (drop m xs)))) (sym (zero-mul w))
nth_part parts read w next (suc n) xs (suc k) h =
    ap (λ ys. slice_get ys (suc k)) (next n xs)
    ∙ nth_part parts read w next n (drop w xs) k (omega arith)
    ∙ ap (λ l. Some (read (take w l))) (drop-drop (k * w) w xs ∙ ap (λ m. drop m xs) (omega (arith, suc-mul k w)))

-- a row below the count, and one past it
pub row_here : (cells : List Cell) (h : TableHead) (k : ℕ) → k < h.rows → slice_get (head_table cells h).rows k ≡ Some (Some (take h.columns (drop (h.first + k * h.columns) cells)))
row_here cells h k p =
    nth_part (λ n cs. map Some (rows_in n h.columns cs)) Some h.columns (λ _ _. refl) h.rows (drop h.first cells) k p
    ∙ ap (λ l. Some (Some (take h.columns l))) (drop-drop (k * h.columns) h.first cells)

pub length_table : (cells : List Cell) (h : TableHead) → length (head_table cells h).rows ≡ h.rows
length_table cells h = length-map _ _ ∙ length_rows h.rows h.columns (drop h.first cells)

pub row_past : (cells : List Cell) (h : TableHead) (k : ℕ) → h.rows ≤ k → slice_get (head_table cells h).rows k ≡ None
row_past cells h k p = slice_get_past _ k (rw length_table p)

-- the row as the code cuts it out
pub row_found : (heads : List TableHead) (cells : List Cell) (n : ℕ) (h : TableHead) (k : ℕ) → Some h ≡ head_for heads n → k < h.rows → Some (Some (take (((h.first + k * h.columns) + h.columns) - (h.first + k * h.columns)) (drop (h.first + k * h.columns) cells))) ≡ row_at (bench_tables heads cells n) k
row_found heads cells n h k found p =
    let size : ((h.first + k * h.columns) + h.columns) - (h.first + k * h.columns) ≡ h.columns = omega arith in
    ap (λ m. Some (Some (take m (drop (h.first + k * h.columns) cells)))) size
    ∙ sym (row_here cells h k p)
    ∙ ap (λ o. row_at (option_map (head_table cells) o) k) found

pub row_not_found : (heads : List TableHead) (cells : List Cell) (n : ℕ) (h : TableHead) (k : ℕ) → Some h ≡ head_for heads n → h.rows ≤ k → None ≡ row_at (bench_tables heads cells n) k
row_not_found heads cells n h k found p = sym (row_past cells h k p) ∙ ap (λ o. row_at (option_map (head_table cells) o) k) found
