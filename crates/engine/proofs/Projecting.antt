-- The turns of the two loops that project.
use Rattle.std.proofs.Common.{◌≡◌, ℕ, ◌+◌, ◌-◌, ◌*◌, ◌≤◌, Bool, false, cond, fold, List, [], ◌∷◌, ◌++◌, map, length, get_or, take, drop, set, None, sym, refl, ap, ◌∙◌, ap₂, arith}
use lib.Seq.{paste}
use Rattle.std.proofs.lemmas.List.{map_push, length-map, length-append, take_at, take_all, get_or-append_right}
use Rattle.std.proofs.lemmas.List.Edits.{paste_more}
use Rattle.terms.specs.Cells.{Cell, Row}
use Rattle.sources.specs.Heads.{rows_in}
use Rattle.queries.specs.declared.parts.Link.{Link}
use Rattle.meaning.specs.Rows.{cell, alike, some}
use Rattle.meaning.specs.Running.{Group, tuple_of, noted, distinct, unanswered}
use Rattle.engine.specs.Rows.{group_in, groups_in}
use Rattle.engine.proofs.RowsIn.{row_within, rows_paste}

abbrev pub tuple_in : Group → List Cell
tuple_in g = g.tuple

-- whether one of the groups has a tuple
abbrev pub known : List Cell → List Group → Bool
known p gs = some (alike p) (map tuple_in gs)

-- so many tuples were written, and these of all the rows are left
pub record Projected (joins : List Link) (rows : List Row) (all : ℕ) (new : List Cell) (count : ℕ) (left : List Row) : Type 0 where
  pub few : count + length left ≤ all
  pub blank : groups_in count (length joins + 1) new ≡ map unanswered (map tuple_in (groups_in count (length joins + 1) new))
  pub onward : fold noted (map tuple_in (groups_in count (length joins + 1) new)) (map (tuple_of joins) left) ≡ distinct (map (tuple_of joins) rows)

module _ (joins : List Link) (rows : List Row) (all : ℕ) where
  abbrev n : ℕ
  n = length joins

  pub projected_none : (new : List Cell) → length rows ≡ all → Projected joins rows all new 0 rows
  projected_none new long = record { few = omega arith; blank = refl; onward = refl }

  module _ (new : List Cell) (count : ℕ) {left : List Row} (so : Projected joins rows all new count left) where
    abbrev gs : List Group
    gs = groups_in count (n + 1) new

    module _ (row : Row) (later : List Row) (is : left ≡ row ∷ later) where
      abbrev p : List Cell
      p = tuple_of joins row

      fewer : count + 1 + length later ≤ all
      fewer = omega (arith, so.few, ap length is)

      next : fold noted (noted (map tuple_in gs) p) (map (tuple_of joins) later) ≡ distinct (map (tuple_of joins) rows)
      next = sym (ap (λ rs. fold noted (map tuple_in gs) (map (tuple_of joins) rs)) is) ∙ so.onward

      -- there is room for one more key
      pub room_more : (long : ℕ) → all * (n + 1) ≤ long → count * (n + 1) + (n + 1) ≤ long
      room_more long fits = row_within count all (n + 1) long (omega (arith, fewer)) fits

      -- the tuple is written, and an absent answer behind it
      module _ {after : List Cell} (fits : count * (n + 1) + (n + 1) ≤ length new) (pasted : after ≡ set (paste new (count * (n + 1)) p n) (count * (n + 1) + n) None) where
        abbrev key : List Cell
        key = p ++ None ∷ []

        long : length p ≡ n
        long = length-map joins (λ (l : Link). cell l.parent row)

        key_long : length key ≡ n + 1
        key_long = length-append p (None ∷ []) ∙ ap (λ k. k + 1) long

        front : take n key ≡ p
        front = take_at p (None ∷ []) n long

        last : get_or key n None ≡ None
        last = get_or-append_right p (None ∷ []) n n None long (omega arith) ∙ (let z : n - n ≡ 0 = omega arith in ap (λ k. get_or {A = Cell} (None ∷ []) k None) z)

        is_key : after ≡ paste new (count * (n + 1)) key (n + 1)
        is_key =
            let same : paste new (count * (n + 1)) p n ≡ paste new (count * (n + 1)) key n = ap (λ s. take (count * (n + 1)) new ++ s ++ drop (count * (n + 1) + n) new) (take_all n p (omega (arith, long)) ∙ sym front) in
            pasted ∙ ap₂ (λ v x. set v (count * (n + 1) + n) x) same (sym last) ∙ paste_more new (count * (n + 1)) key n None (omega arith) (omega (arith, key_long))

        keys_more : rows_in (count + 1) (n + 1) after ≡ rows_in count (n + 1) new ++ key ∷ []
        keys_more = ap (rows_in (count + 1) (n + 1)) is_key ∙ rows_paste (n + 1) count new key fits (omega (arith, key_long)) ∙ rw (take_all (n + 1) key (omega (arith, key_long)))

        groups_more : groups_in (count + 1) (n + 1) after ≡ groups_in count (n + 1) new ++ unanswered p ∷ []
        groups_more =
            let one : n + 1 - 1 ≡ n = omega arith in
            ap (map (group_in (n + 1 - 1))) keys_more ∙ map_push (group_in (n + 1 - 1)) (rows_in count (n + 1) new) key
            ∙ ap (λ g. groups_in count (n + 1) new ++ g ∷ []) (ap (λ m. group_in m key) one ∙ ap₂ (λ t a. record { tuple = t; answer = a }) front last)

        pub projected_new : known p gs ≡ false → Projected joins rows all after (count + 1) later
        projected_new no' =
            let tuples : map tuple_in (groups_in (count + 1) (n + 1) after) ≡ map tuple_in gs ++ p ∷ [] = ap (map tuple_in) groups_more ∙ map_push tuple_in gs (unanswered p) in
            record {
              few = fewer;
              blank = groups_more ∙ ap (λ xs. xs ++ unanswered p ∷ []) so.blank ∙ sym (ap (map unanswered) tuples ∙ map_push unanswered (map tuple_in gs) p);
              onward = ap (λ ts. fold noted ts (map (tuple_of joins) later)) (tuples ∙ ap (λ b. cond b (map tuple_in gs) (map tuple_in gs ++ p ∷ [])) (sym no')) ∙ next;
            }
