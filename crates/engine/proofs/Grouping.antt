-- The turns of the loops that group.
use Rattle.std.proofs.Common.{◌≡◌, ℕ, ◌++◌, drop-set-lt, ◌+◌, ◌-◌, ◌*◌, ◌<◌, ◌≤◌, List, [], ◌∷◌, map, length, take, drop, set, fold, filter, sym, refl, ap, ◌∙◌, ap₂, arith, get_or-set_same}
use lib.Seq.{take-set-le}
use Rattle.std.proofs.lemmas.List.{map_push, take-take, drop-drop}
use Rattle.std.proofs.lemmas.List.Folds.{fold-map}
use Rattle.terms.specs.Cells.{Cell, Row}
use Rattle.sources.specs.Heads.{rows_in}
use Rattle.queries.specs.declared.aggregates.Aggregate.{Aggregate}
use Rattle.queries.specs.declared.parts.Link.{Link}
use Rattle.meaning.specs.Aggregates.{Meaning, Answer}
use Rattle.meaning.specs.Running.{Group, joins_true, brought, joined_cells, with_answer}
use Rattle.engine.specs.Rows.{row_in, group_in, groups_in}
use Rattle.engine.proofs.RowsIn.{next_row, length_row, rows_more, rows_front, row_set}

module _ {Total : Type 0} (m : Meaning Total) (joins : List Link) (aggregate : Aggregate) (tuple : List Cell) (rows : List Row) where
  -- an absent cell where there is no row changes nothing
  or_absent : (rs : List Row) → fold m.step m.start (map (brought aggregate) rs) ≡ fold m.step m.start (joined_cells aggregate rs)
  or_absent [] = sym (m.absent m.start)
  or_absent (r ∷ rs) = refl

  -- stepping through the rows that the tuple is joined with
  pub stepped : {start : Total} → start ≡ m.start → fold (λ total row. m.step total (brought aggregate row)) start (filter (joins_true joins tuple) rows) ≡ fold m.step m.start (joined_cells aggregate (filter (joins_true joins tuple) rows))
  stepped is =
      let kept = filter (joins_true joins tuple) rows in
      ap (λ s. fold (λ total row. m.step total (brought aggregate row)) s kept) is ∙ sym (fold-map m.step (brought aggregate) m.start kept) ∙ or_absent kept

-- one more group
groups_more : (n t : ℕ) (keys : List Cell) → groups_in (t + 1) (n + 1) keys ≡ groups_in t (n + 1) keys ++ group_in n (row_in (n + 1) keys t) ∷ []
groups_more n t keys =
    let one : n + 1 - 1 ≡ n = omega arith in
    ap (map (group_in (n + 1 - 1))) (rows_more t (n + 1) keys) ∙ map_push (group_in (n + 1 - 1)) (rows_in t (n + 1) keys) (row_in (n + 1) keys t)
    ∙ ap (λ m. groups_in t (n + 1) keys ++ group_in m (row_in (n + 1) keys t) ∷ []) one

-- t tuples have their answers
pub record Answered (answer : List Cell → Answer) (n : ℕ) (old new : List Cell) (t : ℕ) : Type 0 where
  pub front : groups_in t (n + 1) new ≡ map (with_answer answer) (groups_in t (n + 1) old)
  pub back : drop (t * (n + 1)) new ≡ drop (t * (n + 1)) old

module _ (answer : List Cell → Answer) (n : ℕ) (old : List Cell) where
  pub answered_none : Answered answer n old old 0
  answered_none = record { front = refl; back = refl }

  -- one more answer, written behind its tuple
  pub answered_more : (new : List Cell) (t : ℕ) {after tuple : List Cell} {a : Answer} → Answered answer n old new t → t * (n + 1) + (n + 1) ≤ length new → tuple ≡ take n (drop (t * (n + 1)) new) → a ≡ answer tuple
      → after ≡ set new (t * (n + 1) + n) a → Answered answer n old after (t + 1)
  answered_more new t {after} {tuple} {a} so fits is said written =
      let w = n + 1 in
      let row = row_in w new t in
      let inside : n < length row = omega (arith, length_row w t new fits) in
      let own : tuple ≡ take n (row_in w old t) = is ∙ sym (take-take n w (drop (t * w) new) (omega arith)) ∙ ap (λ r. take n (take w r)) so.back in
      let here : row_in w after t ≡ set row n a = ap (λ v. row_in w v t) written ∙ row_set w t n a new (omega arith) in
      let group : group_in n (row_in w after t) ≡ with_answer answer (group_in n (row_in w old t)) =
      ap (group_in n) here ∙ ap₂ (λ t a. record { tuple = t; answer = a }) (let e : n ≤ n = omega arith in take-set-le _ _ _ _ e) (get_or-set_same _ _ _ _ inside)
      ∙ ap₂ (λ t a. record { tuple = t; answer = a }) (ap (λ r. take n (take w r)) so.back) (said ∙ ap answer own) in
      let before : rows_in t w after ≡ rows_in t w new = rows_front w t after new (ap (take (t * w)) written ∙ (let e : t * w ≤ t * w + n = omega arith in take-set-le _ _ _ _ e)) in
      record {
        front = groups_more n t after
            ∙ ap₂ (λ (gs : List Group) g. gs ++ g ∷ []) (ap (map (group_in (n + 1 - 1))) before ∙ so.front) group
            ∙ sym (ap (map (with_answer answer)) (groups_more n t old) ∙ map_push (with_answer answer) (groups_in t w old) (group_in n (row_in w old t)));
        back = ap (drop ((t + 1) * w)) written ∙ (let past : t * w + n < (t + 1) * w = omega arith in let next = next_row t w in rw (drop-set-lt, next, ← drop-drop w (t * w) new, ← drop-drop w (t * w) old, so.back));
      }
