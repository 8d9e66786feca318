-- How a run ends, and what it leaves.
use Rattle.std.specs.Prelude.{◌≡◌, ℕ, ◌+◌, ◌%◌, ◌^◌, List, [], ◌∷◌, ◌++◌, length, drop, replicate, Some, None, Ok, Err, Option, Result}
use Rattle.std.specs.List.{flat_map}
use Rattle.terms.specs.declared.cells.WorkCell.{WorkCell}
use Rattle.terms.specs.declared.faults.Fault.{Fault}
use Rattle.terms.specs.declared.faults.Layer.TheVariants as layer
use Rattle.terms.specs.declared.refusals.Refusal.TheVariants.{SheetUnfinished, PlanEmpty, BufferShort, WorkShort, RowUnreadable}
use Rattle.terms.specs.Cells.{Cell, Row}
use Rattle.terms.specs.Faults.{of_layer, of_row, with_block}
use Rattle.terms.specs.Tables.{Tables}
use Rattle.meaning.specs.Aggregates.{Meaning}
use Rattle.meaning.specs.Queries.{Query}
use Rattle.meaning.specs.Reading.{Stop, answers}
use Rattle.meaning.specs.Checks.{first_of, query_fault, short_of, result_need, work_need}

-- what a run may change: the source's read meter, work memory and the result buffer
pub record Memory : Type 0 where
  pub reads : ℕ
  pub work : List WorkCell
  pub result : List Cell

-- refused by a check, stopped at an unreadable row, or done: these rows, after so many reads
pub data Ending : Type 0 where
  refused : Fault → Ending
  stopped : Stop → Ending
  done : List Row → ℕ → Ending

-- reading has answered
abbrev pub read_to : Result (List Row × ℕ) Stop → Ending
read_to (Ok x) = done x.0 x.1
read_to (Err stop) = stopped stop

abbrev pub checked : Option Fault → Ending → Ending
checked None ending = ending
checked (Some fault) ending = refused fault

-- the checks in order: the tables and columns, then the result buffer, then work memory
abbrev pub run_fault : Tables → Query → Memory → Option Fault
run_fault tables q m =
    first_of (query_fault tables q
    ∷ (short_of BufferShort (length m.result) (result_need tables q)
    ∷ (short_of WorkShort (length m.work) (work_need tables q) ∷ [])))

-- a run of a query: the rows of nested iteration, unless a check refuses or an unreadable row is met
abbrev pub run_ending : {Total : Type 0} → Tables → Meaning Total → Memory → Query → Ending
run_ending tables house m q = checked (run_fault tables q m) (read_to (answers tables house q))

-- a run of the query that a list of entries spells; where no finish was taken there is none to translate
abbrev pub spelled_ending : {Total : Type 0} → Tables → Meaning Total → Memory → Option Query → Ending
spelled_ending tables house m None = refused (of_layer SheetUnfinished layer.Translation)
spelled_ending tables house m (Some q) = run_ending tables house m q

abbrev pub empty_ending : Ending
empty_ending = refused (of_layer PlanEmpty layer.Run)

abbrev pub unreadable : (block table row : ℕ) → Fault
unreadable block table row = with_block block (of_row RowUnreadable table row)

-- the number of rows, or the fault
abbrev pub ending_answer : Ending → Result ℕ Fault
ending_answer (refused fault) = Err fault
ending_answer (stopped stop) = Err (unreadable stop.block stop.table stop.row)
ending_answer (done rows reads) = Ok (length rows)

-- the meter counts modulo 2^64
abbrev pub reads_after : Ending → ℕ → ℕ
reads_after (refused fault) before = before
reads_after (stopped stop) before = (before + stop.reads) % 2 ^ 64
reads_after (done rows reads) before = (before + reads) % 2 ^ 64

-- the rows from the buffer's start on, one behind the other, and what was behind them as it was
abbrev pub over_start : List Row → List Cell → List Cell
over_start rows before = flat_map (λ row. row) rows ++ drop (length (flat_map (λ row. row) rows)) before

abbrev pub result_after : Ending → List Cell → List Cell
result_after (refused fault) before = before
result_after (stopped stop) before = before
result_after (done rows reads) before = over_start rows before

-- every work cell is absent once the checks are passed
abbrev pub all_absent : List WorkCell → List WorkCell
all_absent work = replicate (length work) (record { value = None })

abbrev pub work_after : Ending → List WorkCell → List WorkCell
work_after (refused fault) before = before
work_after (stopped stop) before = all_absent before
work_after (done rows reads) before = all_absent before

-- a call that ended so: what it answered, and what it left
pub record Ended (ending : Ending) (before after : Memory) (answer : Result ℕ Fault) : Type 0 where
  pub told : answer ≡ ending_answer ending
  pub reads : after.reads ≡ reads_after ending before.reads
  pub work : after.work ≡ work_after ending before.work
  pub result : after.result ≡ result_after ending before.result
