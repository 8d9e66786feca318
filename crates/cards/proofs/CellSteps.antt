-- The cells of a row, four bytes each, one after another.
use Rattle.std.specs.Prelude.{if◌then◌else◌}
use Rattle.std.proofs.Common.{cond, not, true, false, Option, ◌≡◌, ℕ, zero, suc, ◌+◌, ◌-◌, ◌*◌, ◌/◌, ◌%◌, ◌^◌, ◌<◌, ◌≤◌, ◌&&◌, ◌||◌, eqb, Bool, List, [], ◌∷◌, ◌++◌, length, get_or, take, drop, set, replicate, None, sym, refl, ap, ◌∙◌, pow-suc, add-one, zero-add, arith}
use native.Mathlib.Nat.{div-div-eq-div-mul}
use Rattle.std.proofs.Math.Bool.{and_assoc}
use Rattle.std.proofs.lemmas.List.{append_assoc, take_more, length-take-le, drop-drop, set_at}
use Rattle.std.specs.List.{list_all, enumerate_from}
use Rattle.std.specs.Simd.{first_chunks}
use Rattle.terms.specs.Cells.{Row}
use Rattle.sources.specs.Answers.{six_cells}
use Rattle.cards.specs.Format.{word, first_cell, cells_of, cells_right}

-- the four bytes at hand
word_in : (n : ℕ) (bs : List ℕ) (i : ℕ) (d : List ℕ) → i < n → get_or (first_chunks 4 n bs) i d ≡ take 4 (drop (4 * i) bs)
word_in zero bs i d h = absurd (omega arith)
word_in (suc n) bs zero d h = refl
word_in (suc n) bs (suc i) d h =
    word_in n (drop 4 bs) i d (omega arith)
    ∙ ap (take 4) (drop-drop (4 * i) 4 bs ∙ ap (λ m. drop m bs) (omega arith))

word_is : (bs : List ℕ) → word (take 4 bs) ≡ word bs
word_is [] = refl
word_is (a ∷ []) = refl
word_is (a ∷ (b ∷ [])) = refl
word_is (a ∷ (b ∷ (c ∷ []))) = refl
word_is (a ∷ (b ∷ (c ∷ (d ∷ bs)))) = refl

pub word_at : (n : ℕ) (words : List (List ℕ)) (bs : List ℕ) (i : ℕ) → words ≡ first_chunks 4 n bs → i < n → word (get_or words i []) ≡ word (drop (4 * i) bs)
word_at n words bs i e h = ap (λ ws. word (get_or ws i [])) e ∙ ap word (word_in n bs i [] h) ∙ word_is (drop (4 * i) bs)

-- a cell's four bytes and what is left of the mark
pub nth_cell : (n mark : ℕ) (bs : List ℕ) (i : ℕ) → i < n → get_or (cells_of n mark bs) i None ≡ first_cell (mark / 2 ^ i) (drop (4 * i) bs)
nth_cell zero mark bs i h = absurd (omega arith)
nth_cell (suc n) mark bs zero h = ap (λ m. first_cell m bs) (omega arith)
nth_cell (suc n) mark bs (suc i) h =
    nth_cell n (mark / 2) (drop 4 bs) i (omega arith)
    ∙ ap (λ m. first_cell m (drop (4 * i) (drop 4 bs))) (div-div-eq-div-mul mark 2 (2 ^ i) ∙ ap (λ p. mark / p) (omega (arith, pow-suc 2 i)))
    ∙ ap (first_cell (mark / 2 ^ suc i)) (drop-drop (4 * i) 4 bs ∙ ap (λ m. drop m bs) (omega arith))

-- one cell more in a place whose other cells are absent
pub six_more : (row : Row) (i : ℕ) → i < length row → length row ≤ 6 → set (six_cells (take i row)) i (get_or row i None) ≡ six_cells (take (i + 1) row)
six_more row i h few =
    let here : length (take i row) ≡ i = length-take-le i row (omega arith) in
    let next : length (take (i + 1) row) ≡ i + 1 = length-take-le (i + 1) row (omega arith) in
    let rest : 6 - i ≡ suc (6 - (i + 1)) = omega arith in
    rw here
    (ap (λ m. set (take i row ++ replicate m None) i (get_or row i None)) rest
    ∙ set_at (take i row) None (replicate (6 - (i + 1)) None) (get_or row i None) i here
    ∙ sym (append_assoc (take i row) (get_or row i None ∷ []) (replicate (6 - (i + 1)) None))
    ∙ ap (λ l. l ++ replicate (6 - (i + 1)) None) (sym (take_more row i None h))
    ∙ ap (λ m. take (i + 1) row ++ replicate (6 - m) None) (sym next))

-- the check of each cell by its column's bit, from the column k on
abbrev pub cell_passes : ℕ → ℕ × List ℕ → Bool
cell_passes mark cell = eqb (mark / 2 ^ cell.0 % 2) 0 || eqb (word cell.1) 0

cells_pass : (n k mark : ℕ) (bs : List ℕ) → (list_all (cell_passes mark) (enumerate_from k (first_chunks 4 n bs)) && eqb (mark / 2 ^ (k + n)) 0) ≡ cells_right n (mark / 2 ^ k) bs
cells_pass zero k mark bs = ap (λ m. eqb (mark / 2 ^ m) 0) (omega arith)
cells_pass (suc n) k mark bs =
    let half : mark / 2 ^ (k + 1) ≡ mark / 2 ^ k / 2 = ap (λ m. mark / 2 ^ m) (add-one k) ∙ ap (λ p. mark / p) (omega (arith, pow-suc 2 k)) ∙ sym (div-div-eq-div-mul mark (2 ^ k) 2) in
    let later : Bool = list_all (cell_passes mark) (enumerate_from (k + 1) (first_chunks 4 n (drop 4 bs))) in
    let place : k + suc n ≡ (k + 1) + n = omega arith in
    and_assoc (cell_passes mark (k, take 4 bs)) later (eqb (mark / 2 ^ (k + suc n)) 0)
    ∙ ap (λ w. (eqb (mark / 2 ^ k % 2) 0 || eqb w 0) && (later && eqb (mark / 2 ^ (k + suc n)) 0)) (word_is bs)
    ∙ ap (λ b. (eqb (mark / 2 ^ k % 2) 0 || eqb (word bs) 0) && b)
    (ap (λ m. later && eqb (mark / 2 ^ m) 0) place ∙ cells_pass n (k + 1) mark (drop 4 bs) ∙ ap (λ m. cells_right n m (drop 4 bs)) half)

pub all_pass : (n mark : ℕ) (bs : List ℕ) → (list_all (cell_passes mark) (enumerate_from 0 (first_chunks 4 n bs)) && eqb (mark / 2 ^ n) 0) ≡ cells_right n mark bs
all_pass n mark bs =
    ap (λ m. list_all (cell_passes mark) (enumerate_from 0 (first_chunks 4 n bs)) && eqb (mark / 2 ^ m) 0) (sym (zero-add n))
    ∙ cells_pass n 0 mark bs
    ∙ ap (λ m. cells_right n m bs) (omega arith)

-- a cell by its bit of the mark, as the code tests the bit
pub by_bit : {X : Type 0} (clear absent : Bool) (x : Option X) → absent ≡ not clear → (if absent then None else x) ≡ cond clear x None
by_bit true absent x e = rw e
by_bit false absent x e = rw e
