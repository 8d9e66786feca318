-- What each step does to the temporaries, whatever stands in the memory that it does not see.
use Rattle.std.specs.Prelude.{◌≡◌, ℕ, ◌+◌, List, length, Result}
use Rattle.terms.specs.declared.cells.WorkCell.{WorkCell}
use Rattle.terms.specs.declared.comparisons.Comparison.{Comparison}
use Rattle.terms.specs.declared.faults.Fault.{Fault}
use Rattle.terms.specs.Cells.{Cell}
use Rattle.terms.specs.Tables.{Tables}
use Rattle.queries.specs.declared.aggregates.Aggregate.{Aggregate}
use Rattle.queries.specs.declared.parts.Test.{Test}
use Rattle.queries.specs.declared.parts.Link.{Link}
use Rattle.queries.specs.declared.steps.Operand.{Operand}
use Rattle.meaning.specs.Aggregates.{Meaning}
use Rattle.meaning.specs.Running.{restrict, project, group, filter, output}
use Rattle.meaning.specs.Reading.{stored, readable, first_unreadable, unless_met}
use Rattle.engine.specs.declared.layout.Layout.{Layout}
use Rattle.engine.specs.declared.layout.Counts.{Counts}
use Rattle.engine.specs.Views.{held, view, left}

abbrev pub Restricts : Tables → Layout → (block table rows : ℕ) → List Test → (before after : Counts) → (old new : List WorkCell) → Result (Unit {0}) Fault → Type 0
Restricts tables layout block table rows tests before after old new answer =
    (tuples : List WorkCell) (width : ℕ) (result : List Cell) (n : ℕ)
    → left answer n (view layout width (held after new tuples result) (n + length (stored tables table)))
    ≡ unless_met (first_unreadable (stored tables table)) block table n (restrict (view layout width (held before old tuples result) n) rows tests (readable (stored tables table)))

abbrev pub Projects : Layout → (rows tuples : ℕ) → List Link → (before after : Counts) → (kept old new : List WorkCell) → Type 0
Projects layout rows tuples joins before after kept old new =
    (width : ℕ) (result : List Cell) (n : ℕ) → view layout width (held after kept new result) n ≡ project (view layout width (held before kept old result) n) rows tuples joins

abbrev pub Groups : {Total : Type 0} → Meaning Total → Layout → (rows tuples : ℕ) → List Link → Aggregate → Counts → (kept old new : List WorkCell) → Type 0
Groups house layout rows tuples joins aggregate counts kept old new =
    (width : ℕ) (result : List Cell) (n : ℕ) → view layout width (held counts kept new result) n ≡ group house (view layout width (held counts kept old result) n) rows tuples joins aggregate

abbrev pub Filters : Layout → (rows tuples : ℕ) → List Link → Operand → Comparison → (before after : Counts) → (old new found : List WorkCell) → Type 0
Filters layout rows tuples joins operand comparison before after old new found =
    (width : ℕ) (result : List Cell) (n : ℕ) → view layout width (held after new found result) n ≡ filter (view layout width (held before old found result) n) rows tuples joins operand comparison

abbrev pub Outputs : Layout → ℕ → List ℕ → (before after : Counts) → List WorkCell → (old new : List Cell) → Type 0
Outputs layout rows columns before after kept old new =
    (tuples : List WorkCell) (n : ℕ) → view layout (length columns) (held after kept tuples new) n ≡ output (view layout (length columns) (held before kept tuples old) n) rows columns
