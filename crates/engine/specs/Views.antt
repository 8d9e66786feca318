-- The state that work memory stands for, and what a step over it comes to.
use Rattle.std.specs.Prelude.{◌≡◌, ℕ, suc, ◌+◌, ◌*◌, ◌%◌, ◌^◌, ◌<◌, Bool, true, false, not, ◌&&◌, List, [], ◌∷◌, length, drop, Ok, Err, Result, ◌==◌, nat_lt, slice_index_or}
use Rattle.terms.specs.declared.cells.WorkCell.{WorkCell}
use Rattle.terms.specs.declared.faults.Fault.{Fault}
use Rattle.terms.specs.Cells.{Cell}
use Rattle.sources.specs.Heads.{rows_in}
use Rattle.terms.specs.Tables.{Tables, columns_of}
use Rattle.queries.specs.declared.steps.Step.{Step}
use Rattle.queries.specs.declared.steps.Step.TheVariants as step
use Rattle.meaning.specs.Aggregates.{Meaning}
use Rattle.meaning.specs.Plans.{Plan, table_of, joins_of}
use Rattle.meaning.specs.Running.{State}
use Rattle.meaning.specs.Reading.{Stop, Going, on, stopped, go, stored, answers}
use Rattle.meaning.specs.Checks.{parent_of}
use Rattle.meaning.specs.Queries.{Query}
use Rattle.meaning.specs.Endings.{unreadable, read_to, ending_answer, reads_after, result_after}
use Rattle.engine.specs.declared.layout.Layout.{Layout}
use Rattle.engine.specs.declared.layout.Counts.{Counts}
use Rattle.engine.specs.Rows.{values, groups_in}
use Rattle.engine.specs.Regions.{seen, region, Laid, Within}

-- what the steps change: how many rows and tuples there are, the two parts of work memory, and the result buffer
pub record Held : Type 0 where
  pub counts : Counts
  pub rows : List WorkCell
  pub tuples : List WorkCell
  pub result : List Cell

abbrev pub held : Counts → (rows tuples : List WorkCell) → List Cell → Held
held counts rows tuples result = record { counts = counts; rows = rows; tuples = tuples; result = result }

-- the state that memory stands for, where a result row has so many cells and n rows were fetched
abbrev pub view : Layout → ℕ → Held → ℕ → State
view layout width h n =
    record {
      kept = λ b. slice_index_or (seen rows_in layout.kept h.counts.kept (values h.rows)) b [];
      groups = λ b. slice_index_or (seen groups_in layout.tuples h.counts.tuples (values h.tuples)) b [];
      written = rows_in h.counts.written width h.result;
      reads = n;
    }

-- the regions of a block have room for its rows, and for a tuple for each row of its parent
pub record Suits (tables : Tables) (p : Plan) (layout : Layout) (b : ℕ) : Type 0 where
  pub width : (region layout.kept b).width ≡ columns_of (tables (table_of p b))
  pub room : (region layout.kept b).room ≡ length (stored tables (table_of p b))
  pub tuple_width : 0 < b → (region layout.tuples b).width ≡ length (joins_of p b) + 1
  pub tuple_room : 0 < b → (region layout.tuples b).room ≡ (region layout.kept (parent_of p b)).room

-- the regions lie apart
pub record Placed (layout : Layout) (rows_len tuples_len : ℕ) : Type 0 where
  pub kept : Laid 0 rows_len layout.kept
  pub tuples : Laid 0 tuples_len layout.tuples
  pub four_kept : length layout.kept ≡ 4
  pub four_tuples : length layout.tuples ≡ 4

pub record Counted (layout : Layout) (counts : Counts) : Type 0 where
  pub kept : Within layout.kept counts.kept
  pub tuples : Within layout.tuples counts.tuples

-- Steps of a plan name temporaries of their own blocks.

-- an inner block and its tuples
abbrev pub inner_fits : Plan → (b tuples : ℕ) → Bool
inner_fits p b tuples = nat_lt 0 b && (nat_lt b (length p.blocks) && tuples == b)

-- the rows of its parent
abbrev pub parent_fits : Plan → (b rows : ℕ) → Bool
parent_fits p b rows = rows == parent_of p b && nat_lt rows (length p.blocks)

abbrev pub step_fits : Plan → Step → Bool
step_fits p (step.Restrict b rows) = rows == b && nat_lt b (length p.blocks)
step_fits p (step.Project b rows tuples) = inner_fits p b tuples && parent_fits p b rows
step_fits p (step.Group b rows tuples aggregate) = inner_fits p b tuples && rows == b
step_fits p (step.Filter b rows tuples operand comparison) = inner_fits p b tuples && parent_fits p b rows
step_fits p (step.Output rows) = rows == 0 && nat_lt 0 (length p.blocks)

abbrev pub is_output : Step → Bool
is_output (step.Restrict b rows) = false
is_output (step.Project b rows tuples) = false
is_output (step.Group b rows tuples aggregate) = false
is_output (step.Filter b rows tuples operand comparison) = false
is_output (step.Output rows) = true

-- nothing comes after OUTPUT
abbrev pub output_last : List Step → Bool
output_last [] = true
output_last (s ∷ []) = true
output_last (s ∷ (t ∷ ts)) = not (is_output s) && output_last (t ∷ ts)

-- What a step comes to.

-- how many rows a step fetches where it goes on
abbrev pub fetches : Tables → Plan → Step → ℕ
fetches tables p (step.Restrict b rows) = length (stored tables (table_of p b))
fetches tables p (step.Project b rows tuples) = 0
fetches tables p (step.Group b rows tuples aggregate) = 0
fetches tables p (step.Filter b rows tuples operand comparison) = 0
fetches tables p (step.Output rows) = 0

abbrev pub stop_at : Fault → ℕ → Stop
stop_at f n = record { block = f.block; table = f.table; row = f.row; reads = n + suc f.row }

-- where a step that answered leaves a run that had fetched n rows
abbrev pub left : Result (Unit {0}) Fault → ℕ → State → Going
left (Ok x) n s = on s
left (Err f) n s = stopped (stop_at f n)

-- the fault of a step is that of an unreadable row
abbrev pub Tells : Result (Unit {0}) Fault → Type 0
Tells (Ok x) = Unit {0}
Tells (Err f) = f ≡ unreadable f.block f.table f.row

-- the reads of a step that fetches k rows where it goes on
abbrev pub read_by : Result (Unit {0}) Fault → ℕ → ℕ
read_by (Ok x) k = k
read_by (Err f) k = suc f.row

abbrev pub IfRefused : Result (Unit {0}) Fault → Type 0 → Type 0
IfRefused (Ok x) P = Unit {0}
IfRefused (Err f) P = P

-- a step was taken over memory: it does what the plan's step does to the state that memory stands for
pub record Taken {Total : Type 0} (tables : Tables) (house : Meaning Total) (p : Plan) (layout : Layout) (s : Step) (before after : Held) (m m' : ℕ) (answer : Result (Unit {0}) Fault) : Type 0 where
  pub goes : (n : ℕ) → left answer n (view layout (length p.outputs) after (n + fetches tables p s)) ≡ go p tables house (on (view layout (length p.outputs) before n)) s
  pub meter : m' ≡ (m + read_by answer (fetches tables p s)) % 2 ^ 64
  pub counted : Counted layout after.counts
  pub tells : Tells answer
  -- only OUTPUT writes
  pub unwritten : is_output s ≡ false → (after.result ≡ before.result) × (after.counts.written ≡ before.counts.written)
  pub refused : IfRefused answer (after.result ≡ before.result)
  pub rest : drop (after.counts.written * length p.outputs) after.result ≡ drop (after.counts.written * length p.outputs) before.result

-- a plan's steps were all taken, or one of them was refused: what reading has answered, and what it leaves of the meter and
-- of the result buffer
pub record Ran {Total : Type 0} (tables : Tables) (house : Meaning Total) (q : Query) (m m' : ℕ) (old new : List Cell) (answer : Result ℕ Fault) : Type 0 where
  pub told : answer ≡ ending_answer (read_to (answers tables house q))
  pub reads : m' ≡ reads_after (read_to (answers tables house q)) m
  pub result : new ≡ result_after (read_to (answers tables house q)) old
