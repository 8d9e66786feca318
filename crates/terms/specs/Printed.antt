-- How comparisons and refusals print.
use Rattle.std.specs.Prelude.{ℕ, List, codes}
use Rattle.terms.specs.declared.comparisons.Comparison.{Comparison}
use Rattle.terms.specs.declared.comparisons.Comparison.TheVariants.{Equal, NotEqual, Less, LessOrEqual, Greater, GreaterOrEqual}
use Rattle.terms.specs.declared.refusals.Refusal.{Refusal}
use Rattle.terms.specs.declared.refusals.Refusal.TheVariants.{OutOfRange, OutOfTurn, OverLimit, AllByEquality, NothingSelected, SheetUnfinished, PlanEmpty, BufferShort, WorkShort, ImageTooLong, RecordPastEnd, UnknownKind, BadTableHead, BadRowCount, BadRow, NoSuchTable, NoSuchColumn, RowUnreadable, NoSuchRow}

-- a comparison's sign in SQL
abbrev pub comparison_sign : Comparison → List ℕ
comparison_sign Equal = codes "="
comparison_sign NotEqual = codes "<>"
comparison_sign Less = codes "<"
comparison_sign LessOrEqual = codes "<="
comparison_sign Greater = codes ">"
comparison_sign GreaterOrEqual = codes ">="

-- what a refusal means, in words
abbrev pub refusal_meaning : Refusal → List ℕ
refusal_meaning OutOfRange = codes "a number of the entry is out of range"
refusal_meaning OutOfTurn = codes "the entry may not stand here"
refusal_meaning OverLimit = codes "the entry is one more than the limit allows"
refusal_meaning AllByEquality = codes "ALL compares by = or <>"
refusal_meaning NothingSelected = codes "no output column is selected"
refusal_meaning SheetUnfinished = codes "the query is not finished"
refusal_meaning PlanEmpty = codes "there is no plan to run"
refusal_meaning BufferShort = codes "the buffer is too short"
refusal_meaning WorkShort = codes "there is too little work memory"
refusal_meaning ImageTooLong = codes "the image has more than 65,536 bytes"
refusal_meaning RecordPastEnd = codes "a record goes on past the end of the image"
refusal_meaning UnknownKind = codes "a record is neither a table nor a remark"
refusal_meaning BadTableHead = codes "a table's number or column count is out of range, or missing"
refusal_meaning BadRowCount = codes "a table's last row is broken, or it has more than 1,024 rows"
refusal_meaning BadRow = codes "a row has a wrong mark, or bytes in an absent cell"
refusal_meaning NoSuchTable = codes "the source has no such table"
refusal_meaning NoSuchColumn = codes "the table has no such column"
refusal_meaning RowUnreadable = codes "the row is unreadable"
refusal_meaning NoSuchRow = codes "there is no such row"
