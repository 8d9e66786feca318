-- The rows of a table's bytes, cut off by `chunks_exact`.
use Rattle.std.proofs.Common.{◌≡◌, ℕ, zero, suc, ◌+◌, ◌-◌, ◌/◌, ◌%◌, ◌<◌, ◌≤◌, ◌&&◌, Bool, true, cond, eqb, leb, List, ◌∷◌, ◌++◌, length, take, drop, Ok, Err, refl, sym, ap, ◌∙◌, add-one, arith}
use native.Mathlib.Nat.{div-eq_of_lt, div-eq-sub-div}
use Rattle.std.proofs.lemmas.List.{length-append, take_at, drop_at}
use Rattle.std.proofs.lemmas.Bool.{eq-eqb, le-leb}
use Rattle.std.proofs.lemmas.Iterator.{YieldsList}
use Rattle.std.proofs.lemmas.Iterator.Splits.{YieldsList-from_shown_while}
use Rattle.std.specs.List.{list_all}
use Rattle.std.specs.Simd.{first_chunks}
use Rattle.std.specs.Slice.Iter.{chunks_exact_rest, chunks_exact_size, chunks_exact_steps}
use Rattle.std.specs.declared.slice.ChunksExact.{ChunksExact}
use Rattle.terms.specs.declared.refusals.Refusal.TheVariants.{BadRow}
use Rattle.cards.specs.Format.{row_width, row_right, rows_right}
use Rattle.cards.specs.Verdicts.{row_count, rows_verdict}

-- the chunks that are left
abbrev pub chunks_left : {X : Type 0} → ChunksExact X → List (List X)
chunks_left s = first_chunks (chunks_exact_size s) (length (chunks_exact_rest s) / chunks_exact_size s) (chunks_exact_rest s)

-- the first chunk, cut off
chunk_next : {X : Type 0} (w : ℕ) (xs x ys : List X) → 0 < w → xs ≡ x ++ ys → length x ≡ w → first_chunks w (length xs / w) xs ≡ x ∷ first_chunks w (length ys / w) ys
chunk_next w xs x ys p e l =
    let long : length xs ≡ w + length ys = ap length e ∙ length-append x ys ∙ ap (λ m. m + length ys) l in
    let front : take w xs ≡ x = ap (take w) e ∙ take_at x ys w l in
    let back : drop w xs ≡ ys = ap (drop w) e ∙ drop_at x ys w l in
    let fewer : length xs - w ≡ length ys = omega arith in
    ap (λ m. first_chunks w m xs) (div-eq-sub-div p (omega arith) ∙ add-one _) ∙ rw (front, back, fewer) refl

pub yields_chunks : {X : Type 0} (s : ChunksExact X) → 0 < chunks_exact_size s → YieldsList chunks_exact_steps (λ x. x.now) s (chunks_left s)
yields_chunks s p =
    YieldsList-from_shown_while chunks_exact_steps (λ x. x.now) chunks_left (λ s. 0 < chunks_exact_size s)
    (λ s t p h. let none : length (chunks_exact_rest s) / chunks_exact_size s ≡ 0 = div-eq_of_lt h.1.0 in rw none refl)
    (λ s x t p h. (rw h.0 p, chunk_next (chunks_exact_size s) (chunks_exact_rest s) x.now (chunks_exact_rest t) p h.1.0 h.1.1 ∙ ap (λ w. x.now ∷ first_chunks w (length (chunks_exact_rest t) / w) (chunks_exact_rest t)) (sym h.0)))
    s p

-- the rows as chunks
all_right : (n columns : ℕ) (bs : List ℕ) → list_all (row_right columns) (first_chunks (row_width columns) n bs) ≡ rows_right n columns bs
all_right zero columns bs = refl
all_right (suc n) columns bs = ap (λ b. row_right columns (take (row_width columns) bs) && b) (all_right n columns (drop (row_width columns) bs))

-- the verdict on counted rows
pub rows_verdict_is : (columns w : ℕ) (bs : List ℕ) (r : Bool) → w ≡ row_width columns → length bs % w ≡ 0 → length bs / w ≤ 1024 → r ≡ list_all (row_right columns) (first_chunks w (length bs / w) bs) → cond r (Ok tt) (Err BadRow) ≡ rows_verdict columns bs
rows_verdict_is columns w bs r e whole few is =
    let p : eqb (length bs % row_width columns) 0 ≡ true = eq-eqb _ _ (rw e at whole) in
    let q : leb (row_count columns bs) 1024 ≡ true = le-leb _ _ (rw e at few) in
    rw (p, q) (ap (λ b. cond b (Ok tt) (Err BadRow)) ((rw e at is) ∙ all_right (row_count columns bs) columns bs))
