-- The turns of the loop that filters.
use Rattle.std.proofs.Common.{◌≡◌, ℕ, ◌+◌, ◌-◌, ◌*◌, ◌≤◌, Bool, true, false, cond, List, [], ◌∷◌, ◌++◌, length, take, drop, filter, sym, refl, ap, ◌∙◌, ap₂, arith, length-drop}
use lib.Seq.{paste}
use Rattle.std.proofs.lemmas.List.{drop-drop, append-nil}
use Rattle.std.proofs.lemmas.List.Edits.{drop-paste}
use Rattle.std.proofs.lemmas.Nat.{mul-le}
use Rattle.terms.specs.declared.comparisons.Comparison.{Comparison}
use Rattle.terms.specs.Comparisons.{holds}
use Rattle.terms.specs.Cells.{Cell, Row}
use Rattle.sources.specs.Heads.{rows_in}
use Rattle.queries.specs.declared.parts.Link.{Link}
use Rattle.queries.specs.declared.steps.Operand.{Operand}
use Rattle.meaning.specs.Running.{Group, answer_for, operand_of, passes, tuple_of}
use Rattle.engine.specs.Rows.{row_in}
use Rattle.engine.proofs.RowsIn.{rows_paste, next_row, kept_rows_more}

-- after i rows, of which left stay
pub record Filtered (test : List Cell → Bool) (w : ℕ) (old new : List Cell) (left i : ℕ) : Type 0 where
  pub front : rows_in left w new ≡ filter test (rows_in i w old)
  pub back : drop (i * w) new ≡ drop (i * w) old
  pub behind : left ≤ i

module _ (test : List Cell → Bool) (w : ℕ) (old : List Cell) where
  pub filtered_none : Filtered test w old old 0 0
  filtered_none = record { front = refl; back = refl; behind = omega arith }

  module _ (new : List Cell) (left i : ℕ) (row : List Cell) (so : Filtered test w old new left i) (is : row ≡ row_in w new i) where
    row_old : row ≡ row_in w old i
    row_old = is ∙ ap (take w) so.back

    kept_more : filter test (rows_in (i + 1) w old) ≡ filter test (rows_in i w old) ++ cond (test row) (row ∷ []) []
    kept_more = kept_rows_more test i w old ∙ rw (← row_old)

    back_more : drop ((i + 1) * w) new ≡ drop ((i + 1) * w) old
    back_more = rw (next_row i w, ← drop-drop w (i * w) new, ← drop-drop w (i * w) old, so.back)

    pub filtered_no : false ≡ test row → Filtered test w old new left (i + 1)
    filtered_no no' = record {
      front = so.front ∙ sym (kept_more ∙ rw (← no', append-nil));
      back = back_more;
      behind = omega (arith, so.behind);
    }

    pub filtered_yes : {after : List Cell} → after ≡ paste new (left * w) (drop (i * w) new) w → true ≡ test row → i * w + w ≤ length new → Filtered test w old after (left + 1) (i + 1)
    filtered_yes {after} is_pasted yes' fits =
        let s = drop (i * w) new in
        let below : left * w ≤ i * w = mul-le left w i w so.behind (omega arith) in
        let room : left * w + w ≤ length new = omega arith in
        let long : w ≤ length s = rw length-drop (omega arith) in
        let far : (i + 1) * w ≡ left * w + w + (i * w - left * w) = omega (arith, next_row i w) in
        record {
          front = ap (rows_in (left + 1) w) is_pasted ∙ rows_paste w left new s room long ∙ sym (kept_more ∙ rw (← so.front, ← yes', ← is));
          back = ap (drop ((i + 1) * w)) is_pasted ∙ ap (λ m. drop m (paste new (left * w) s w)) far ∙ sym (drop-drop (i * w - left * w) (left * w + w) (paste new (left * w) s w)) ∙ ap (drop (i * w - left * w)) (drop-paste new (left * w) s w (omega arith) long) ∙ drop-drop (i * w - left * w) (left * w + w) new ∙ ap (λ m. drop m new) (sym far) ∙ back_more;
          behind = omega (arith, so.behind);
        }

-- a row's test, as the code makes it
pub row_passes : (groups : List Group) (joins : List Link) (operand : Operand) (comparison : Comparison) (row : Row) {b : Bool} {x y : Cell} → b ≡ holds comparison x y → x ≡ operand_of operand row → y ≡ answer_for groups (tuple_of joins row)
    → b ≡ passes groups joins operand comparison row
row_passes groups joins operand comparison row e p q = e ∙ ap₂ (holds comparison) p q
