-- Rows that lie one behind the other: reading them one by one, one more at the end, and what leaves them unchanged.
use Rattle.std.proofs.Common.{◌≡◌, ℕ, zero, suc, ◌+◌, ◌-◌, ◌*◌, ◌<◌, ◌≤◌, Bool, cond, List, [], ◌∷◌, ◌++◌, length, take, drop, set, filter, sym, refl, ap, ◌∙◌, ap₂, suc-mul, zero-mul, add-one, arith, length-drop, length-take}
use lib.Seq.{take-set-lt, drop-set-add, paste}
use Rattle.std.proofs.lemmas.List.{drop-drop, take-take, drop-take, length-take-le, append_assoc, take_at, drop_at}
use Rattle.std.proofs.lemmas.List.Edits.{drop-paste}
use Rattle.std.proofs.lemmas.Nat.{mul-le}
use Rattle.std.proofs.lemmas.List.Elements.{filter-append}
use Rattle.terms.specs.Cells.{Cell, Row}
use Rattle.sources.specs.Heads.{rows_in}
use Rattle.engine.specs.Rows.{row_in}

-- row i + 1 starts a row further on
pub next_row : (i w : ℕ) → (i + 1) * w ≡ i * w + w
next_row i w = omega arith

pub row_within : (i n w len : ℕ) → i < n → n * w ≤ len → i * w + w ≤ len
row_within i n w len h fits = omega (arith, mul-le (i + 1) w n w (omega arith) (omega arith), next_row i w)

-- row i of the cells behind the first row
row_behind : (w i : ℕ) (cells : List Cell) → row_in w (drop w cells) i ≡ row_in w cells (suc i)
row_behind w i cells = ap (take w) (drop-drop (i * w) w cells ∙ ap (λ m. drop m cells) (omega (arith, suc-mul i w)))

row_first : (w : ℕ) (cells : List Cell) → row_in w cells 0 ≡ take w cells
row_first w cells = ap (λ m. take w (drop m cells)) (zero-mul w)

pub length_rows : (n w : ℕ) (cells : List Cell) → length (rows_in n w cells) ≡ n
length_rows zero w cells = refl
length_rows (suc n) w cells = ap suc (length_rows n w (drop w cells))

more : (n w : ℕ) (cells : List Cell) → rows_in (suc n) w cells ≡ rows_in n w cells ++ (row_in w cells n ∷ [])
more zero w cells = ap (λ r. r ∷ []) (sym (row_first w cells))
more (suc n) w cells =
    ap (λ rs. take w cells ∷ rs) (more n w (drop w cells) ∙ ap (λ r. rows_in n w (drop w cells) ++ (r ∷ [])) (row_behind w n cells))

-- one more row at the end
pub rows_more : (n w : ℕ) (cells : List Cell) → rows_in (n + 1) w cells ≡ rows_in n w cells ++ (row_in w cells n ∷ [])
rows_more n w cells = ap (λ m. rows_in m w cells) (add-one n) ∙ more n w cells

pub kept_rows_more : (p : Row → Bool) (n w : ℕ) (cells : List Cell) → filter p (rows_in (n + 1) w cells) ≡ filter p (rows_in n w cells) ++ cond (p (row_in w cells n)) (row_in w cells n ∷ []) []
kept_rows_more p n w cells = ap (filter p) (rows_more n w cells) ∙ rw filter-append

-- what is the same of each row is the same of all
pub same_rows : (n w : ℕ) (xs ys : List Cell) → ((k : ℕ) → k < n → row_in w xs k ≡ row_in w ys k) → rows_in n w xs ≡ rows_in n w ys
same_rows zero w xs ys h = refl
same_rows (suc n) w xs ys h =
    ap₂ (λ r rs. r ∷ rs)
    (sym (row_first w xs) ∙ h 0 (omega arith) ∙ row_first w ys)
    (same_rows n w (drop w xs) (drop w ys) (λ k kh. row_behind w k xs ∙ h (suc k) (omega arith) ∙ sym (row_behind w k ys)))

pub length_row : (w i : ℕ) (cells : List Cell) → i * w + w ≤ length cells → length (row_in w cells i) ≡ w
length_row w i cells h = simp (length-take, length-drop) (omega arith)

module _ (w n : ℕ) where
  row_front : (xs : List Cell) (k : ℕ) → k < n → row_in w xs k ≡ take w (drop (k * w) (take (n * w) xs))
  row_front xs k h =
      let fits : k * w + w ≤ n * w = row_within k n w (n * w) h (omega arith) in
      let split : n * w ≡ k * w + (n * w - k * w) = omega arith in
      let long : w ≤ n * w - k * w = omega arith in
      rw (split, drop-take (k * w) (n * w - k * w) xs, take-take w (n * w - k * w) (drop (k * w) xs) long)

  -- the first n rows are a matter of the first n * w cells
  pub rows_front : (xs ys : List Cell) → take (n * w) xs ≡ take (n * w) ys → rows_in n w xs ≡ rows_in n w ys
  rows_front xs ys e = same_rows n w xs ys (λ k h. row_front xs k h ∙ ap (λ f. take w (drop (k * w) f)) e ∙ sym (row_front ys k h))

  -- one more row, written behind n rows
  pub rows_paste : (cells s : List Cell) → n * w + w ≤ length cells → w ≤ length s → rows_in (n + 1) w (paste cells (n * w) s w) ≡ rows_in n w cells ++ (take w s ∷ [])
  rows_paste cells s fits long =
      let new = paste cells (n * w) s w in
      let front_long = length-take-le (n * w) cells (omega arith) in
      let split : new ≡ take (n * w) cells ++ (take w s ++ drop (n * w + w) cells) = append_assoc (take (n * w) cells) (take w s) (drop (n * w + w) cells) in
      let front : rows_in n w new ≡ rows_in n w cells = rows_front new cells (ap (take (n * w)) split ∙ take_at (take (n * w) cells) _ (n * w) front_long) in
      let last : row_in w new n ≡ take w s = ap (λ xs. take w (drop (n * w) xs)) split ∙ ap (take w) (drop_at (take (n * w) cells) _ (n * w) front_long) ∙ take_at (take w s) _ w (length-take-le w s long) in
      rows_more n w new ∙ ap₂ (λ rs r. rs ++ (r ∷ [])) front last

  pub rest_paste : (old new s : List Cell) → drop (n * w) new ≡ drop (n * w) old → n * w + w ≤ length new → w ≤ length s → drop ((n + 1) * w) (paste new (n * w) s w) ≡ drop ((n + 1) * w) old
  rest_paste old new s back fits long =
      let next : (n + 1) * w ≡ n * w + w = omega arith in
      let room : n * w ≤ length new = omega arith in
      rw (next, drop-paste new (n * w) s w room long, ← drop-drop w (n * w) new, ← drop-drop w (n * w) old, back)

-- a cell of a row is written
pub row_set : (w i c : ℕ) (v : Cell) (cells : List Cell) → c < w → row_in w (set cells (i * w + c) v) i ≡ set (row_in w cells i) c v
row_set w i c v cells h = rw (drop-set-add, take-set-lt)
