-- What the steps leave, block by block: RESTRICT loads every block, and PROJECT, GROUP and FILTER leave a parent the rows
-- whose nested tests are true.
use Rattle.std.proofs.Common.{◌≡◌, ℕ, suc, ◌<◌, Bool, true, eqb, List, [], ◌∷◌, map, filter as kept_by, sym, refl, ap, ◌∙◌, arith}
use mathlib.Core.Path.{fun_ext}
use Rattle.std.proofs.Math.Bool.{and_assoc, and_comm}
use Rattle.std.proofs.lemmas.Bool.{eq-eqb, ne_eqb, cond-true, cond-false}
use Rattle.std.proofs.lemmas.List.Elements.{All-weaker}
use Rattle.terms.specs.Cells.{Cell, Row}
use Rattle.terms.specs.Comparisons.{holds}
use Rattle.meaning.specs.Rows.{Contents, alike, some}
use Rattle.meaning.specs.Aggregates.{Meaning, Answer, aggregated}
use Rattle.meaning.specs.Queries.{Query, tests_true, nested}
use Rattle.meaning.specs.Plans.{Flat, translated}
use Rattle.meaning.specs.Running.{Group, State, nothing, put, restrict, tuple_of, distinct, unanswered, project, joins_true, group_answer, with_answer, group, operand_of, passes, filter, output}
use Rattle.meaning.proofs.Lists.{kept_all, kept_both, kept_same}
use Rattle.meaning.proofs.Laws.{group_is_aggregate}
use Rattle.meaning.proofs.Tuples.{own_tuple, answer_found}
use Rattle.meaning.proofs.Translating.{joined, joins_of_tuple, joining, flat_true, flat_judged, same_judgement}

put_own : {X : Type 0} (f : ℕ → X) (n : ℕ) (x : X) → put f n x n ≡ x
put_own f n x = cond-true (eqb n n) x (f n) (eq-eqb n n refl)

put_other : {X : Type 0} (f : ℕ → X) (n : ℕ) (x : X) (m : ℕ) → (m ≡ n → ⊥) → put f n x m ≡ f m
put_other f n x m h = cond-false (eqb m n) x (f m) (ne_eqb m n h)

module _ {Total : Type 0} (db : Contents) (house : Meaning Total) where
  -- after RESTRICT for the inner blocks, which are numbered from b
  abbrev pub restricted : ℕ → List Flat → State → State
  restricted b [] s = s
  restricted b (f ∷ fs) s = restrict (restricted (suc b) fs s) b f.tests (db f.table)

  -- after PROJECT, GROUP and FILTER for the block inside block p
  abbrev pub unnested_one : ℕ → Flat → State → State
  unnested_one p f s = filter (group house (project s p (suc p) f.joins) (suc p) (suc p) f.joins f.aggregate) p (suc p) f.joins f.operand f.comparison

  -- after the same for all blocks inside block p
  abbrev pub unnested : ℕ → List Flat → State → State
  unnested p [] s = s
  unnested p (f ∷ fs) s = unnested_one p f (unnested (suc p) fs s)

  -- each of these blocks, numbered from b, keeps the rows that RESTRICT leaves it
  abbrev Loaded : ℕ → List Flat → (ℕ → List Row) → Type 0
  Loaded b [] kept = Unit {0}
  Loaded b (f ∷ fs) kept = (kept b ≡ kept_by (tests_true f.tests) (db f.table)) × Loaded (suc b) fs kept

  loaded_put : (fs : List Flat) (c : ℕ) (kept : ℕ → List Row) (b : ℕ) (rows : List Row) → b < c → Loaded c fs kept → Loaded c fs (put kept b rows)
  loaded_put [] c kept b rows h loaded = tt
  loaded_put (f ∷ fs) c kept b rows h loaded =
      (put_other kept b rows c (λ e. omega arith) ∙ loaded.0, loaded_put fs (suc c) kept b rows (omega arith) loaded.1)

  restricted_loads : (fs : List Flat) (b : ℕ) (s : State) → Loaded b fs (restricted b fs s).kept
  restricted_loads [] b s = tt
  restricted_loads (f ∷ fs) b s =
      let before : State = restricted (suc b) fs s in
      let rows : List Row = kept_by (tests_true f.tests) (db f.table) in
      (put_own before.kept b rows, loaded_put fs (suc b) before.kept b rows (omega arith) (restricted_loads fs (suc b) s))

  -- the rows that a row's own tuple is joined with
  joined_rows : (f : Flat) (inside : Row → Bool) (row : Row) → kept_by (joins_true f.joins (tuple_of f.joins row)) (kept_by inside (kept_by (tests_true f.tests) (db f.table))) ≡ joining (db f.table) f.tests f.joins inside row
  joined_rows f inside row = simp (kept_both, joins_of_tuple f.joins row, and_assoc, λ (r : Row). and_comm (inside r) (joined f.joins row r))

  -- the answer of a row's own tuple is the aggregate over the inner rows that pass for it
  own_answer : (f : Flat) (inside : Row → Bool) (inner : List Row) → inner ≡ kept_by inside (kept_by (tests_true f.tests) (db f.table)) → (row : Row) → group_answer house f.joins f.aggregate inner (tuple_of f.joins row) ≡ aggregated house f.aggregate (joining (db f.table) f.tests f.joins inside row)
  own_answer f inside inner e row = simp (e, joined_rows f inside row, group_is_aggregate)

  -- PROJECT, GROUP and FILTER leave the parent the rows whose nested test is true
  filtered : (f : Flat) (inside : Row → Bool) (parents inner : List Row) → inner ≡ kept_by inside (kept_by (tests_true f.tests) (db f.table)) → kept_by (passes (map (with_answer (group_answer house f.joins f.aggregate inner)) (map unanswered (distinct (map (tuple_of f.joins) parents)))) f.joins f.operand f.comparison) parents ≡ kept_by (flat_true db house f inside) parents
  filtered f inside parents inner e =
      let tuples : List (List Cell) = distinct (map (tuple_of f.joins) parents) in
      let answer : List Cell → Answer = group_answer house f.joins f.aggregate inner in
      let found : Row → Bool = passes (map (with_answer answer) (map unanswered tuples)) f.joins f.operand f.comparison in
      kept_same found (flat_true db house f inside) parents
      (All-weaker (λ row. some (alike (tuple_of f.joins row)) tuples ≡ true) (λ row. found row ≡ flat_true db house f inside row)
      (λ row h. ap (holds f.comparison (operand_of f.operand row)) (answer_found answer tuples (tuple_of f.joins row) h ∙ own_answer f inside inner e row))
      parents (own_tuple (tuple_of f.joins) parents []))

  -- block p keeps the rows whose nested tests are true, and the blocks outside it are as they were
  abbrev Kept : List Flat → ℕ → State → State → Type 0
  Kept fs p s t = (t.kept p ≡ kept_by (flat_judged db house fs) (s.kept p)) × ((q : ℕ) → q < p → t.kept q ≡ s.kept q)

  unnested_keeps : (fs : List Flat) (p : ℕ) (s : State) → Loaded (suc p) fs s.kept → Kept fs p s (unnested p fs s)
  unnested_keeps [] p s loaded = (sym (kept_all (s.kept p)), λ q h. refl)
  unnested_keeps (f ∷ fs) p s loaded =
      let inside : Row → Bool = flat_judged db house fs in
      let before : State = unnested (suc p) fs s in
      let ih : Kept fs (suc p) s before = unnested_keeps fs (suc p) s loaded.1 in
      let tuples : List Group = map unanswered (distinct (map (tuple_of f.joins) (before.kept p))) in
      let answers : Group → Group = with_answer (group_answer house f.joins f.aggregate (before.kept (suc p))) in
      let projected : ℕ → List Group = put before.groups (suc p) tuples in
      let grouped : put projected (suc p) (map answers (projected (suc p))) (suc p) ≡ map answers tuples =
      put_own projected (suc p) _ ∙ ap (map answers) (put_own before.groups (suc p) tuples) in (
        put_own before.kept p _
            ∙ ap (λ gs. kept_by (passes gs f.joins f.operand f.comparison) (before.kept p)) grouped
            ∙ filtered f inside (before.kept p) (before.kept (suc p)) (ih.0 ∙ ap (kept_by inside) loaded.0)
            ∙ ap (kept_by (flat_true db house f inside)) (ih.1 p (omega arith)),
        λ q h. put_other before.kept p _ q (λ e. omega arith) ∙ ih.1 q (omega arith),
      )

  -- what all the steps of a query's plan leave
  abbrev pub all_restricted : Query → State
  all_restricted q = restrict (restricted 1 (map translated q.inner) nothing) 0 q.tests (db q.table)

  abbrev pub all_unnested : Query → State
  all_unnested q = output (unnested 0 (map translated q.inner) (all_restricted q)) 0 q.outputs

  pub writes_nested : (q : Query) → (all_unnested q).written ≡ nested db house q
  writes_nested q =
      let flats : List Flat = map translated q.inner in
      let first : State = restricted 1 flats nothing in
      let loaded : Loaded 1 flats (all_restricted q).kept = loaded_put flats 1 first.kept 0 _ (omega arith) (restricted_loads flats 1 nothing) in
      simp ((unnested_keeps flats 0 (all_restricted q) loaded).0, fun_ext (same_judgement db house q.inner), kept_both)

  -- no step but RESTRICT reads
  pub unnested_reads : (fs : List Flat) (p : ℕ) (s : State) → (unnested p fs s).reads ≡ s.reads
  unnested_reads [] p s = refl
  unnested_reads (f ∷ fs) p s = unnested_reads fs (suc p) s
