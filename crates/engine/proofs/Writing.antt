-- The turns of the loop that writes rows out.
use Rattle.std.proofs.Common.{◌≡◌, ℕ, ◌+◌, ◌*◌, ◌≤◌, List, [], ◌∷◌, ◌++◌, map, length, drop, refl, sym, ap, ◌∙◌, append_assoc, arith}
use lib.Seq.{paste}
use Rattle.std.proofs.lemmas.List.{take_all}
use Rattle.terms.specs.Cells.{Cell, Row}
use Rattle.sources.specs.Heads.{rows_in}
use Rattle.engine.proofs.RowsIn.{row_within, rows_paste, rest_paste}

-- so many rows were written out, and these of all the rows are left
pub record Written (f : Row → Row) (v : ℕ) (rows : List Row) (all : ℕ) (old new : List Cell) (count : ℕ) (left : List Row) : Type 0 where
  pub few : count + length left ≡ all
  pub front : rows_in count v new ++ map f left ≡ map f rows
  pub back : drop (count * v) new ≡ drop (count * v) old

module _ (f : Row → Row) (v : ℕ) (rows : List Row) (all : ℕ) (old : List Cell) where
  pub written_none : length rows ≡ all → Written f v rows all old old 0 rows
  written_none long = record { few = omega arith; front = refl; back = refl }

  module _ {new : List Cell} {count : ℕ} {left : List Row} (so : Written f v rows all old new count left) where
    module _ (row : Row) (later : List Row) (is : left ≡ row ∷ later) where
      pub room_more : (long : ℕ) → all * v ≤ long → count * v + v ≤ long
      room_more long fits = row_within count all v long (omega (arith, so.few, ap length is)) fits

      pub written_more : {after : List Cell} → after ≡ paste new (count * v) (f row) v → length (f row) ≡ v → count * v + v ≤ length new → Written f v rows all old after (count + 1) later
      written_more {after} pasted long fits =
          let enough : v ≤ length (f row) = omega arith in
          let one : rows_in (count + 1) v after ≡ rows_in count v new ++ f row ∷ [] = ap (rows_in (count + 1) v) pasted ∙ rows_paste v count new (f row) fits enough ∙ rw (take_all v (f row) (omega (arith, long))) in
          record {
            few = omega (arith, so.few, ap length is);
            front = ap (λ rs. rs ++ map f later) one ∙ append_assoc (rows_in count v new) (f row ∷ []) (map f later) ∙ ap (λ rs. rows_in count v new ++ map f rs) (sym is) ∙ so.front;
            back = ap (drop ((count + 1) * v)) pasted ∙ rest_paste v count old new (f row) so.back fits enough;
          }
