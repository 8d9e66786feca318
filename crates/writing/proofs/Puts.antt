-- Bytes that are written one part after another.
use Rattle.std.proofs.Common.{◌≡◌, ℕ, zero, suc, ◌+◌, ◌-◌, ◌*◌, ◌/◌, ◌<◌, ◌≤◌, List, [], ◌∷◌, ◌++◌, length, get_or, take, drop, Some, None, sym, refl, ap, ◌∙◌, suc-mul, arith}
use Rattle.std.proofs.lemmas.List.{length-append, take_more, flat_map_more, get_or_default}
use Rattle.std.proofs.lemmas.List.FromFn.{get_or-enumerate_from, length-enumerate_from}
use Rattle.std.proofs.lemmas.Slice.{take-put_mid}
use Rattle.std.specs.List.{flat_map, enumerate_from}
use Rattle.std.specs.Simd.{first_chunks}
use Rattle.std.proofs.lemmas.Iterator.{YieldsList}
use Rattle.std.proofs.lemmas.Iterator.Consumers.{YieldsList-at, YieldsList-from_enumerate}
use Rattle.std.specs.Iterator.Adapters.{enumerate_source, enumerate_count, enumerate_steps}
use Rattle.std.specs.Slice.Iter.{chunks_exact_rest, chunks_exact_size, chunks_exact_steps}
use Rattle.std.specs.declared.slice.ChunksExact.{ChunksExact}
use Rattle.std.specs.declared.iter.Enumerate.{Enumerate}
use Rattle.cards.proofs.Chunks.{chunks_left, yields_chunks}
use borrow.Rule.Slice.PartMut.{put_mid}
use Rattle.terms.specs.Cells.{Cell, Row}
use Rattle.sources.specs.Heads.{rows_in}
use Rattle.cards.specs.Format.{row_width}
use Rattle.writing.specs.Records.{cell_bytes, row_bytes}

pub length-cell : (c : Cell) → length (cell_bytes c) ≡ 4
length-cell None = refl
length-cell (Some z) = refl

pub length_cells : (cs : List Cell) → length (flat_map cell_bytes cs) ≡ 4 * length cs
length_cells [] = refl
length_cells (c ∷ cs) = length-append (cell_bytes c) (flat_map cell_bytes cs) ∙ omega (arith, length-cell c, length_cells cs)

pub length_row : (cs : List Cell) → length (row_bytes cs) ≡ row_width (length cs)
length_row cs = omega (arith, length_cells cs)

-- The loop over the rows of a list of cells.

chunks_rows : (n columns : ℕ) (cells : List Cell) → first_chunks columns n cells ≡ rows_in n columns cells
chunks_rows zero columns cells = refl
chunks_rows (suc n) columns cells = ap (λ rows. take columns cells ∷ rows) (chunks_rows n columns (drop columns cells))

-- the rows come one by one, each with its number
pub rows_road : (columns : ℕ) (cells : List Cell) (s : ChunksExact Cell) (e : Enumerate (ChunksExact Cell)) → 1 ≤ columns → chunks_exact_size s ≡ columns → chunks_exact_rest s ≡ cells → enumerate_source e ≡ s → enumerate_count e ≡ 0 → YieldsList (enumerate_steps chunks_exact_steps) (λ p. (p.0, p.1.now)) e (enumerate_from 0 (rows_in (length cells / columns) columns cells))
rows_road columns cells s e h size rest source count =
    let same : chunks_left s ≡ rows_in (length cells / columns) columns cells = rw (size, rest) (chunks_rows (length cells / columns) columns cells) in
    rw (sym same) (YieldsList-from_enumerate (YieldsList-at source (yields_chunks s (rw size h))) count)

-- the row at hand, by its number
pub row_at_hand : (rows : List Row) (k i : ℕ) (row : Row) → k < length (enumerate_from 0 rows) → ◌≡◌ {A = ℕ × Row} (i, row) (get_or (enumerate_from 0 rows) k (i, row)) → (k < length rows) × (i ≡ k) × (row ≡ get_or rows k [])
row_at_hand rows k i row h e =
    let below : k < length rows = rw length-enumerate_from at h in
    let pair = e ∙ get_or-enumerate_from 0 rows k (i, row) below in
    (below, ap (λ (p : ℕ × Row). p.0) pair ∙ omega arith, ap (λ (p : ℕ × Row). p.1) pair ∙ get_or_default rows k row [] below)

-- one row more
pub rows_put : (rows : List Row) (out new : List ℕ) (k i w m : ℕ) → k < length rows → i ≡ k → i * w ≤ length out → length new ≡ w → new ≡ row_bytes (get_or rows k []) → m ≡ k + 1 → take (k * w) out ≡ flat_map row_bytes (take k rows) → take (m * w) (put_mid (i * w) ((i + 1) * w - i * w) out new) ≡ flat_map row_bytes (take m rows)
rows_put rows out new k i w m h ei room long en em done =
    rw (em, ei)
    (take-put_mid (k * w) ((k + 1) * w - k * w) out new ((k + 1) * w) (omega (arith, suc-mul k w)) (rw (sym ei) room)
    ∙ ap (λ l. l ++ new) done
    ∙ ap (λ l. flat_map row_bytes (take k rows) ++ l) en
    ∙ flat_map_more row_bytes [] (take k rows) (get_or rows k [])
    ∙ ap (flat_map row_bytes) (sym (take_more rows k [] h)))
