-- The turns of the loop that restricts.
use Rattle.std.proofs.Common.{◌≡◌, ℕ, zero, suc, ◌+◌, ◌-◌, ◌*◌, ◌%◌, ◌^◌, ◌<◌, ◌≤◌, true, false, cond, List, [], ◌∷◌, ◌++◌, length, get_or, take, drop, replicate, Some, None, Ok, Err, filter, Option, Result, sym, refl, ap, ◌∙◌, subst, zero-add, arith, length-append}
use Rattle.std.specs.Option.{option_map}
use lib.Seq.{paste}
use Rattle.std.specs.List.{AllByRecursion}
use Rattle.std.proofs.lemmas.List.{take_more, append-nil, take_at, take_all, drop_more, drop_all}
use Rattle.std.proofs.lemmas.Nat.{mul-le}
use Rattle.std.proofs.lemmas.List.Elements.{filter-append}
use Rattle.std.proofs.ByRecursion.{All-get_or}
use Rattle.std.proofs.lemmas.Option.{slice_get-get_or}
use Rattle.terms.specs.declared.faults.Fault.{Fault}
use Rattle.terms.specs.Cells.{Cell}
use Rattle.sources.specs.Heads.{rows_in}
use Rattle.terms.specs.Tables.{Table, Tables, Stored, RowFormed, TableFormed, rows_of, row_at, columns_of}
use Rattle.terms.specs.Faults.{in_block}
use Rattle.queries.specs.declared.parts.Test.{Test}
use Rattle.meaning.specs.Queries.{tests_true}
use Rattle.meaning.specs.Reading.{readable, first_unreadable}
use Rattle.sources.specs.Answers.{metered, fetch_answer, fetched_cells}
use Rattle.meaning.specs.Endings.{unreadable}
use Rattle.engine.proofs.RowsIn.{length_rows, rows_paste}

-- what is formed of a table, and of none
pub record Shaped (o : Option Table) : Type 0 where
  pub six : columns_of o ≤ 6
  pub few : length (rows_of o) ≤ 1024
  pub fit : AllByRecursion (RowFormed (columns_of o)) (rows_of o)

pub shaped : (o : Option Table) → TableFormed o → Shaped o
shaped None f = record { six = omega arith; few = omega arith; fit = tt }
shaped (Some t) f = record { six = f.few_columns; few = f.few_rows; fit = f.each_row }

pub get_or_replicated : {X : Type 0} (n i : ℕ) (d : X) → get_or (replicate n d) i d ≡ d
get_or_replicated zero i d = refl
get_or_replicated (suc n) zero d = refl
get_or_replicated (suc n) (suc i) d = get_or_replicated n i d

get_or_absent : (cells : List Cell) (n i : ℕ) → get_or (cells ++ replicate n None) i None ≡ get_or cells i None
get_or_absent [] n i = get_or_replicated n i None
get_or_absent (x ∷ xs) n zero = refl
get_or_absent (x ∷ xs) n (suc i) = get_or_absent xs n i

-- absent cells after a row change no test
tests_true_six : (ts : List Test) (cells : List Cell) (n : ℕ) → tests_true ts (cells ++ replicate n None) ≡ tests_true ts cells
tests_true_six [] cells n = refl
tests_true_six (t ∷ ts) cells n = rw (get_or_absent cells n (t.column - 1), tests_true_six ts cells n)

readable-append : (xs ys : List Stored) → readable (xs ++ ys) ≡ readable xs ++ readable ys
readable-append [] ys = refl
readable-append (None ∷ xs) ys = readable-append xs ys
readable-append (Some c ∷ xs) ys = ap (λ r. c ∷ r) (readable-append xs ys)

answer_ok : (block table i : ℕ) (o : Option Stored) {u : Unit {0}} → in_block block (fetch_answer table i o) ≡ Ok u → (cs : List Cell) × (o ≡ Some (Some cs))
answer_ok block table i None e = absurd (let z : ◌≡◌ {A = ℕ} 0 1 = cc in omega arith)
answer_ok block table i (Some None) e = absurd (let z : ◌≡◌ {A = ℕ} 0 1 = cc in omega arith)
answer_ok block table i (Some (Some cs)) e = (cs, refl)

answer_err : (block table i : ℕ) (r : Stored) {f : Fault} → in_block block (fetch_answer table i (Some r)) ≡ Err f → (r ≡ None) × (f ≡ unreadable block table i)
answer_err block table i None {f} e = (refl, cc)
answer_err block table i (Some cs) {f} e = absurd (let z : ◌≡◌ {A = ℕ} 0 1 = cc in omega arith)

-- the first unreadable row, past i readable ones
abbrev pub past : ℕ → Option ℕ → Option ℕ
past i o = option_map (λ k. i + k) o

past_none : (o : Option ℕ) → o ≡ past 0 o
past_none None = refl
past_none (Some k) = ap Some (sym (zero-add k))

past_more : (i : ℕ) (o : Option ℕ) → past i (option_map suc o) ≡ past (i + 1) o
past_more i None = refl
past_more i (Some k) = ap Some (omega arith)

-- after i rows, all readable, of which so many were kept
pub record Restricted (width : ℕ) (tests : List Test) (rows : List Stored) (new : List Cell) (kept i : ℕ) : Type 0 where
  pub laid : rows_in kept width new ≡ filter (tests_true tests) (readable (take i rows))
  pub behind : kept ≤ i
  pub good : first_unreadable rows ≡ past i (first_unreadable (drop i rows))

module _ (width : ℕ) (tests : List Test) (rows : List Stored) where
  pub restricted_none : (new : List Cell) → Restricted width tests rows new 0 0
  restricted_none new = record { laid = refl; behind = omega arith; good = past_none (first_unreadable rows) }

  module _ (new : List Cell) (kept i : ℕ) (so : Restricted width tests rows new kept i) where
    module _ (cs : List Cell) (h : i < length rows) (here : get_or rows i None ≡ Some cs) where
      read_more : filter (tests_true tests) (readable (take (i + 1) rows)) ≡ filter (tests_true tests) (readable (take i rows)) ++ cond (tests_true tests cs) (cs ∷ []) []
      read_more = rw (take_more rows i None h, readable-append, here, filter-append)

      good_more : first_unreadable rows ≡ past (i + 1) (first_unreadable (drop (i + 1) rows))
      good_more =
          so.good ∙ ap (λ rs. past i (first_unreadable rs)) (drop_more rows i None h)
          ∙ ap (λ r. past i (first_unreadable (r ∷ drop (i + 1) rows))) here ∙ past_more i (first_unreadable (drop (i + 1) rows))

      passing : (place : List Cell) → place ≡ fetched_cells (Some (Some cs)) → tests_true tests place ≡ tests_true tests cs
      passing place p = ap (tests_true tests) p ∙ tests_true_six tests cs (6 - length cs)

      pub restricted_no : (place : List Cell) → place ≡ fetched_cells (Some (Some cs)) → false ≡ tests_true tests place → Restricted width tests rows new kept (i + 1)
      restricted_no place p no' =
          let out : false ≡ tests_true tests cs = no' ∙ passing place p in
          record { laid = so.laid ∙ sym (read_more ∙ rw (← out, append-nil)); behind = omega (arith, so.behind); good = good_more }

      pub restricted_yes : (place : List Cell) {after : List Cell} → place ≡ fetched_cells (Some (Some cs)) → true ≡ tests_true tests place → length cs ≡ width → length rows * width ≤ length new → after ≡ paste new (kept * width) place width
          → Restricted width tests rows after (kept + 1) (i + 1)
      restricted_yes place p yes' wide room pasted =
          let in' : true ≡ tests_true tests cs = yes' ∙ passing place p in
          let fits : kept * width + width ≤ length new = omega (arith, mul-le (kept + 1) width (length rows) width (omega (arith, so.behind)) (omega arith)) in
          let long : width ≤ length place = rw (p, length-append) (omega arith) in
          let first : take width place ≡ cs = ap (take width) p ∙ take_at cs (replicate (6 - length cs) None) width wide in
          record {
            laid = ap (rows_in (kept + 1) width) pasted ∙ rows_paste width kept new place fits long ∙ rw (so.laid, first, read_more, ← in');
            behind = omega (arith, so.behind);
            good = good_more;
          }

    pub restricted_stops : i < length rows → get_or rows i None ≡ None → first_unreadable rows ≡ Some i
    restricted_stops h none =
        let z : i + 0 ≡ i = omega arith in
        so.good ∙ ap (λ rs. past i (first_unreadable rs)) (drop_more rows i None h) ∙ ap (λ r. past i (first_unreadable (r ∷ drop (i + 1) rows))) none ∙ ap Some z

    pub restricted_ends : i ≡ length rows → (first_unreadable rows ≡ None) × (rows_in kept width new ≡ filter (tests_true tests) (readable rows))
    restricted_ends all = (
      so.good ∙ ap (λ rs. past i (first_unreadable rs)) (drop_all i rows (omega arith)),
      so.laid ∙ ap (λ rs. filter (tests_true tests) (readable rs)) (take_all i rows (omega arith)),
    )

    pub restricted_count : kept ≡ length (rows_in kept width new)
    restricted_count = sym (length_rows kept width new)

-- one fetch
module _ (ts ts0 : Tables) (block table i m m0 : ℕ) (same : ts ≡ ts0) (h : i < length (rows_of (ts0 table))) (so_far : m ≡ (m0 + i) % 2 ^ 64) where
  row_is : row_at (ts table) i ≡ Some (get_or (rows_of (ts0 table)) i None)
  row_is = ap (λ (t : Tables). row_at (t table) i) same ∙ slice_get-get_or (rows_of (ts0 table)) i None h

  meter_more : {m' : ℕ} → m' ≡ metered (row_at (ts table) i) m → m' ≡ (m0 + (i + 1)) % 2 ^ 64
  meter_more e = e ∙ ap (λ o. metered o m) row_is ∙ omega arith

  pub turn_ok : {res blocked : Result (Unit {0}) Fault} {u : Unit {0}} {place : List Cell} {m' : ℕ} → res ≡ fetch_answer table i (row_at (ts table) i) → blocked ≡ in_block block res → blocked ≡ Ok u → place ≡ fetched_cells (row_at (ts table) i) → m' ≡ metered (row_at (ts table) i) m → (cs : List Cell) × ((get_or (rows_of (ts0 table)) i None ≡ Some cs) × (place ≡ fetched_cells (Some (Some cs))) × (m' ≡ (m0 + (i + 1)) % 2 ^ 64))
  turn_ok r b ok p me =
      let row = get_or (rows_of (ts0 table)) i None in
      let got = answer_ok block table i (Some row) (ap (λ (o : Option Stored). in_block block (fetch_answer table i o)) (sym row_is) ∙ ap (in_block block) (sym r) ∙ sym b ∙ ok) in
      let here : row ≡ Some got.0 = let e = got.1 in cc in
      (got.0, (here, p ∙ ap fetched_cells (row_is ∙ got.1), meter_more me))

  pub turn_err : {res blocked : Result (Unit {0}) Fault} {f : Fault} {m' : ℕ} → res ≡ fetch_answer table i (row_at (ts table) i) → blocked ≡ in_block block res → blocked ≡ Err f → m' ≡ metered (row_at (ts table) i) m → (get_or (rows_of (ts0 table)) i None ≡ None) × (f ≡ unreadable block table i) × (m' ≡ (m0 + (i + 1)) % 2 ^ 64)
  turn_err r b bad me =
      let row = get_or (rows_of (ts0 table)) i None in
      let got = answer_err block table i row (ap (λ (o : Option Stored). in_block block (fetch_answer table i o)) (sym row_is) ∙ ap (in_block block) (sym r) ∙ sym b ∙ bad) in
      (got.0, got.1, meter_more me)

pub row_wide : (rows : List Stored) (n i : ℕ) (cs : List Cell) → AllByRecursion (RowFormed n) rows → i < length rows → get_or rows i None ≡ Some cs → length cs ≡ n
row_wide rows n i cs fit h here = (subst (RowFormed n) here (All-get_or (RowFormed n) rows i None h fit)).wide
