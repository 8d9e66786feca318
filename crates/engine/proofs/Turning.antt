-- The loop over a plan's steps.
use Rattle.std.proofs.Common.{◌≡◌, ℕ, zero, suc, ◌+◌, ◌*◌, ◌%◌, ◌^◌, ◌<◌, ◌≤◌, true, false, not, ◌⊎◌, List, [], ◌∷◌, ◌++◌, length, get_or, take, drop, replicate, Ok, Err, fold, Result, sym, refl, ap, ◌∙◌, ap₂, inl, inr, suc-mul, arith, take-append-drop, length-take, take_all}
use mathlib.Core.Path.{fun_ext}
use Rattle.std.specs.List.{flat_map}
use Rattle.std.proofs.Math.Seq.{take-add}
use Rattle.std.proofs.lemmas.List.{drop_all}
use Rattle.std.proofs.lemmas.List.Sums.{fold_more}
use Rattle.std.proofs.lemmas.Bool.{and_parts, cases_lt, not-true}
use Rattle.terms.specs.declared.cells.WorkCell.{WorkCell}
use Rattle.terms.specs.declared.faults.Fault.{Fault}
use Rattle.terms.specs.Cells.{Cell}
use Rattle.sources.specs.Heads.{rows_in}
use Rattle.terms.specs.Tables.{Tables}
use Rattle.queries.specs.declared.steps.Step.{Step}
use Rattle.meaning.specs.Aggregates.{Meaning}
use Rattle.meaning.specs.Queries.{Query}
use Rattle.meaning.specs.Plans.{Plan, plan}
use Rattle.meaning.specs.Running.{State, nothing}
use Rattle.meaning.specs.Reading.{Stop, Going, on, stopped, go, outcome, ran, answers}
use Rattle.meaning.specs.Endings.{unreadable, over_start, read_to, ending_answer, reads_after, result_after}
use Rattle.std.proofs.lemmas.List.Sums.{fold-append}
use Rattle.meaning.proofs.Stopping.{stays, flat_is_nested}
use Rattle.engine.specs.declared.layout.Region.{Region}
use Rattle.engine.specs.declared.layout.Layout.{Layout}
use Rattle.engine.specs.declared.layout.Counts.{Counts}
use Rattle.engine.specs.Rows.{groups_in, values}
use Rattle.engine.specs.Regions.{Within}
use Rattle.engine.specs.Views.{held, view, fetches, left, stop_at, is_output, output_last, Counted, Ran}
use Rattle.engine.proofs.Regions.{seen_none}
use Rattle.engine.proofs.Restricting.{get_or_replicated}
use Rattle.engine.proofs.RowsIn.{length_rows}

-- Rows from the buffer's start.

joined_rows : (k w : ℕ) (cells : List Cell) → flat_map (λ row. row) (rows_in k w cells) ≡ take (k * w) cells
joined_rows zero w cells = let e : 0 ≡ 0 * w = omega arith in ap (λ n. take n cells) e
joined_rows (suc k) w cells =
    let e : w + k * w ≡ suc k * w = omega (arith, suc-mul k w) in
    ap (λ ys. take w cells ++ ys) (joined_rows k w (drop w cells)) ∙ sym (take-add w (k * w) cells) ∙ ap (λ n. take n cells) e

-- the first k rows were written, and what is behind them is as it was
written_over : (k w : ℕ) (old new : List Cell) → length new ≡ length old → drop (k * w) new ≡ drop (k * w) old → new ≡ over_start (rows_in k w new) old
written_over k w old new long rest =
    let front = joined_rows k w new in
    sym (take-append-drop (k * w) new)
    ∙ ap₂ (λ a b. a ++ b) (sym front) (rest ∙ short (cases_lt (length new) (k * w)) ∙ ap (λ (n : ℕ). drop n old) (sym (ap length front)))
  where
    short : (length new < k * w) ⊎ (k * w ≤ length new) → drop (k * w) old ≡ drop (length (take (k * w) new)) old
    short (inl h) = drop_all (k * w) old (omega (arith, long)) ∙ sym (drop_all (length (take (k * w) new)) old (simp length-take (omega (arith, long))))
    short (inr h) = let e : k * w ≡ length (take (k * w) new) = simp length-take (omega arith) in ap (λ (n : ℕ). drop n old) e

-- The start.

-- the rows fetched so far
abbrev pub reads_in : Going → ℕ
reads_in (on s) = s.reads
reads_in (stopped x) = x.reads

within_none : (gs : List Region) (k : ℕ) → length gs ≡ k → Within gs (replicate k 0)
within_none [] zero e = tt
within_none [] (suc k) e = absurd (omega arith)
within_none (g ∷ gs) zero e = absurd (omega arith)
within_none (g ∷ gs) (suc k) e = (omega arith, within_none gs k (omega arith))

abbrev pub no_counts : Counts
no_counts = record { kept = replicate 4 0; tuples = replicate 4 0; written = 0 }

pub counted_none : (layout : Layout) → length layout.kept ≡ 4 → length layout.tuples ≡ 4 → Counted layout no_counts
counted_none layout a b = record { kept = within_none layout.kept 4 a; tuples = within_none layout.tuples 4 b }

pub view_none : (layout : Layout) (rows tuples : List WorkCell) (w : ℕ) (result : List Cell) → view layout w (held no_counts rows tuples result) 0 ≡ nothing
view_none layout rows tuples w result =
    ap₂ (λ k g. record { kept = k; groups = g; written = []; reads = 0 })
    (fun_ext (seen_none rows_in layout.kept (replicate 4 0) (values rows) (λ w xs. refl) (λ i. get_or_replicated 4 i 0)))
    (fun_ext (seen_none groups_in layout.tuples (replicate 4 0) (values tuples) (λ w xs. refl) (λ i. get_or_replicated 4 i 0)))

-- only the last step may be OUTPUT
pub not_output : (steps : List Step) (i : ℕ) (d : Step) → output_last steps ≡ true → suc i < length steps → is_output (get_or steps i d) ≡ false
not_output [] i d e h = absurd (omega arith)
not_output (s ∷ []) i d e h = absurd (omega arith)
not_output (s ∷ (t ∷ ts)) zero d e h = not-true (is_output s) (and_parts (not (is_output s)) (output_last (t ∷ ts)) e).0
not_output (s ∷ (t ∷ ts)) (suc i) d e h = not_output (t ∷ ts) i d (and_parts (not (is_output s)) (output_last (t ∷ ts)) e).1 (omega arith)

-- One step after the other.

module _ {Total : Type 0} (house : Meaning Total) (tables : Tables) (p : Plan) where
  abbrev steps : List Step
  steps = p.steps

  abbrev w : ℕ
  w = length p.outputs

  -- where the first i steps leave a run
  abbrev pub gone : ℕ → Going
  gone i = fold (go p tables house) (on nothing) (take i p.steps)

  -- after i steps
  pub record Turned (s : ℕ → State) (m0 m : ℕ) (written i : ℕ) (old new : List Cell) : Type 0 where
    pub sees : on (s (reads_in (gone i))) ≡ gone i
    pub meter : m ≡ (m0 + reads_in (gone i)) % 2 ^ 64
    pub before : i < length p.steps → (new ≡ old) × (written ≡ 0)
    pub rest : drop (written * length p.outputs) new ≡ drop (written * length p.outputs) old

  module _ (i : ℕ) (h : i < length p.steps) (d : Step) where
    more : gone (i + 1) ≡ go p tables house (gone i) (get_or steps i d)
    more = fold_more (go p tables house) (on nothing) steps i d h

    module _ (s t : ℕ → State) (m0 m m' k k' : ℕ) (old new new' : List Cell) (so : Turned s m0 m k i old new) where
      abbrev f : ℕ
      f = fetches tables p (get_or steps i d)

      abbrev n : ℕ
      n = reads_in (gone i)

      went : (r : Result (Unit {0}) Fault) → left r n (t (n + f)) ≡ go p tables house (on (s n)) (get_or steps i d) → left r n (t (n + f)) ≡ gone (i + 1)
      went r e = e ∙ ap (λ g. go p tables house g (get_or steps i d)) so.sees ∙ sym more

      -- a step that went on
      pub turned_on : ((j : ℕ) → (t j).reads ≡ j) → on (t (n + f)) ≡ go p tables house (on (s n)) (get_or steps i d) → m' ≡ (m + f) % 2 ^ 64
          → (is_output (get_or steps i d) ≡ false → (new' ≡ new) × (k' ≡ k)) → output_last p.steps ≡ true
          → drop (k' * length p.outputs) new' ≡ drop (k' * length p.outputs) new → Turned t m0 m' k' (i + 1) old new'
      turned_on reads e me same last rest =
          let to : on (t (n + f)) ≡ gone (i + 1) = went (Ok tt) e in
          let count : n + f ≡ reads_in (gone (i + 1)) = sym (reads (n + f)) ∙ ap reads_in to in
          record {
            sees = ap (λ j. on (t j)) (sym count) ∙ to;
            meter = me ∙ (let a = so.meter in omega (arith, count));
            before = λ more. let o = same (not_output steps i d last (omega arith)) in let b = so.before h in (o.0 ∙ b.0, o.1 ∙ b.1);
            rest = rest ∙ ap (drop (k' * length p.outputs)) (so.before h).0;
          }

      module _ (q : Query) (is_plan : p ≡ plan q) where
        stopped_is : (x : Stop) → stopped x ≡ gone (i + 1) → Err x ≡ answers tables house q
        stopped_is x e =
            sym (ap outcome (stays tables house p (drop (i + 1) steps) x))
            ∙ ap (λ g. outcome (fold (go p tables house) g (drop (i + 1) steps))) e
            ∙ ap outcome (sym (fold-append (go p tables house) (on nothing) (take (i + 1) steps) (drop (i + 1) steps)))
            ∙ ap (λ ss. outcome (fold (go p tables house) (on nothing) ss)) (take-append-drop (i + 1) steps)
            ∙ ap (λ r. ran r tables house) is_plan
            ∙ flat_is_nested tables house q

        -- a step that was refused
        pub turned_off : {fault : Fault} → stopped (stop_at fault n) ≡ go p tables house (on (s n)) (get_or steps i d) → m' ≡ (m + suc fault.row) % 2 ^ 64
            → fault ≡ unreadable fault.block fault.table fault.row → new' ≡ new → Ran tables house q m0 m' old new' (Err fault)
        turned_off {fault} e me tells same =
            let to : Err (stop_at fault n) ≡ answers tables house q = stopped_is (stop_at fault n) (went (Err fault) e) in
            record {
              told = ap Err tells ∙ ap (λ a. ending_answer (read_to a)) to;
              reads = me ∙ (let a = so.meter in let z : (m + suc fault.row) % 2 ^ 64 ≡ (m0 + (n + suc fault.row)) % 2 ^ 64 = omega arith in z) ∙ ap (λ a. reads_after (read_to a) m0) to;
              result = same ∙ (so.before h).0 ∙ ap (λ a. result_after (read_to a) old) to;
            }

  -- after all steps
  pub turned_all : (q : Query) → p ≡ plan q → (i m0 m : ℕ) (layout : Layout) (counts : Counts) (rows tuples : List WorkCell) (old new : List Cell) → length p.steps ≤ i → length new ≡ length old
      → Turned (view layout (length p.outputs) (held counts rows tuples new)) m0 m counts.written i old new → Ran tables house q m0 m old new (Ok counts.written)
  turned_all q is_plan i m0 m layout counts rows tuples old new h long so =
      let n = reads_in (gone i) in
      let s = view layout w (held counts rows tuples new) n in
      let to : outcome (on s) ≡ answers tables house q =
      ap outcome (so.sees ∙ ap (fold (go p tables house) (on nothing)) (take_all i steps h)) ∙ ap (λ r. ran r tables house) is_plan ∙ flat_is_nested tables house q in
      record {
        told = ap Ok (sym (length_rows counts.written w new)) ∙ ap (λ a. ending_answer (read_to a)) to;
        reads = so.meter ∙ ap (λ a. reads_after (read_to a) m0) to;
        result = written_over counts.written w old new long so.rest ∙ ap (λ a. result_after (read_to a) old) to;
      }
