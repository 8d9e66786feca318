use Rattle.std.proofs.Common.{◌≡◌, drop, fold}
use Rattle.meaning.specs.Spelling.{entered, spelled}
use Rattle.sheets.specs.Sheets.{sheet_of}
use Rattle.sheets.proofs.sheet.Sheet.enter_all.Given as goal

abbrev pub invariant-loop-entry : goal.invariant-loop-entry
invariant-loop-entry l = fold entered (sheet_of l.sheet) (drop l.entry-index l.entries) ≡ spelled l.entries
