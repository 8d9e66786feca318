-- What a sheet means, and what a call on it does.
use Rattle.std.specs.Prelude.{◌≡◌, false, is_ok, Result}
use Rattle.terms.specs.declared.faults.Fault.{Fault}
use Rattle.queries.specs.declared.entries.Entry.{Entry}
use Rattle.meaning.specs.Spelling.{Spelled, sheet_answer, entered}
use Rattle.sheets.specs.declared.sheet.Sheet.{Sheet}
use Rattle.sheets.specs.Drafts.{draft_of}

abbrev pub sheet_of : Sheet → Spelled
sheet_of s = draft_of s.draft

-- an entry was entered: the answer is the definition's verdict, the sheet then means the definition's query, and a
-- declined entry has changed nothing at all
pub record Entered (before : Sheet) (entry : Entry) (answer : Result (Unit {0}) Fault) (after : Sheet) : Type 0 where
  pub told : answer ≡ sheet_answer (sheet_of before) entry
  pub meant : sheet_of after ≡ entered (sheet_of before) entry
  pub untouched : is_ok answer ≡ false → after.draft ≡ before.draft
