-- The refusals and layers by their numbers, and the faults that sources give.
use Rattle.std.specs.Prelude.{ℕ, Ok, Err, Option, Result}
use Rattle.std.specs.Option.{ok_or}
use Rattle.terms.specs.declared.refusals.Refusal.{Refusal}
use Rattle.terms.specs.declared.refusals.Refusal.TheVariants.{OutOfRange, OutOfTurn, OverLimit, AllByEquality, NothingSelected, SheetUnfinished, PlanEmpty, BufferShort, WorkShort, ImageTooLong, RecordPastEnd, UnknownKind, BadTableHead, BadRowCount, BadRow, NoSuchTable, NoSuchColumn, RowUnreadable, NoSuchRow}
use Rattle.terms.specs.declared.faults.Layer.{Layer}
use Rattle.terms.specs.declared.faults.Layer.TheVariants.{Sheet, Translation, Run, Source}
use Rattle.terms.specs.declared.faults.Fault.{Fault}

abbrev pub refusal_number : Refusal → ℕ
refusal_number OutOfRange = 1
refusal_number OutOfTurn = 2
refusal_number OverLimit = 3
refusal_number AllByEquality = 4
refusal_number NothingSelected = 5
refusal_number SheetUnfinished = 6
refusal_number PlanEmpty = 7
refusal_number BufferShort = 11
refusal_number WorkShort = 12
refusal_number ImageTooLong = 21
refusal_number RecordPastEnd = 22
refusal_number UnknownKind = 23
refusal_number BadTableHead = 24
refusal_number BadRowCount = 25
refusal_number BadRow = 26
refusal_number NoSuchTable = 31
refusal_number NoSuchColumn = 32
refusal_number RowUnreadable = 33
refusal_number NoSuchRow = 34

abbrev pub layer_number : Layer → ℕ
layer_number Sheet = 1
layer_number Translation = 2
layer_number Run = 3
layer_number Source = 4

-- a number that stands for nothing is refused as out of range
abbrev pub or_out_of_range : {X : Type 0} → Option X → Result X Refusal
or_out_of_range x = ok_or x OutOfRange

-- the number of an answer: 0 of a taken call
abbrev pub told : Result (Unit {0}) Fault → ℕ
told (Ok _) = 0
told (Err fault) = refusal_number fault.refusal

-- what the sheet tells: the current block
abbrev pub on_sheet : Refusal → ℕ → Fault
on_sheet refusal block = record { refusal = refusal; layer = Sheet; block = block; table = 0; row = 0; place = 0 }

-- what loading and writing tell: the place alone
abbrev pub at_place : Refusal → ℕ → Fault
at_place refusal place = record { refusal = refusal; layer = Source; block = 0; table = 0; row = 0; place = place }

-- what a fetch tells: the table and the row as asked for
abbrev pub of_row : Refusal → ℕ → ℕ → Fault
of_row refusal table row = record { refusal = refusal; layer = Source; block = 0; table = table; row = row; place = 0 }

-- what translating and running tell of a call as a whole: their layer alone
abbrev pub of_layer : Refusal → Layer → Fault
of_layer refusal layer = record { refusal = refusal; layer = layer; block = 0; table = 0; row = 0; place = 0 }

-- what a run's checks tell of a block: the block, and the table concerned
abbrev pub of_table : Refusal → (block table : ℕ) → Fault
of_table refusal block table = record { refusal = refusal; layer = Run; block = block; table = table; row = 0; place = 0 }

-- a source's fault with the block added, and nothing else altered
abbrev pub with_block : ℕ → Fault → Fault
with_block block f = record { refusal = f.refusal; layer = f.layer; block = block; table = f.table; row = f.row; place = f.place }

abbrev pub in_block : ℕ → Result (Unit {0}) Fault → Result (Unit {0}) Fault
in_block block (Ok u) = Ok u
in_block block (Err fault) = Err (with_block block fault)

-- a part that is refused is told with its place; where it is taken, what comes later decides
abbrev pub refused_at : Result (Unit {0}) Refusal → ℕ → Result (Unit {0}) Fault → Result (Unit {0}) Fault
refused_at (Ok _) place later = later
refused_at (Err refusal) place later = Err (at_place refusal place)
