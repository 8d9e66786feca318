-- What a plan place holds, and what translating a sheet into it does.
use Rattle.std.specs.Prelude.{◌≡◌, false, is_ok, Some, None, Ok, Err, Option, Result}
use Rattle.std.specs.Option.{option_map}
use Rattle.terms.specs.declared.faults.Fault.{Fault}
use Rattle.terms.specs.declared.faults.Layer.TheVariants.{Translation}
use Rattle.terms.specs.declared.refusals.Refusal.TheVariants.{SheetUnfinished}
use Rattle.terms.specs.Faults.{of_layer}
use Rattle.meaning.specs.Queries.{Query}
use Rattle.meaning.specs.Plans as meant
use Rattle.meaning.specs.Spelling.{finished}
use Rattle.sheets.specs.declared.sheet.Sheet.{Sheet}
use Rattle.sheets.specs.Sheets.{sheet_of}
use Rattle.plans.specs.declared.plan.Plan.{Plan}
use Rattle.plans.specs.Translated.{plan_of}

-- no plan, or the plan of a query
abbrev pub held : Plan → Option meant.Plan
held p = option_map plan_of p.translated

-- Refusal 6: the sheet is unfinished.
abbrev pub translate_answer : Option Query → Result (Unit {0}) Fault
translate_answer None = Err (of_layer SheetUnfinished Translation)
translate_answer (Some q) = Ok tt

-- what a place holds after a call: the plan of a finished query, whatever was there; else what it held
abbrev pub translated_onto : Option Query → Option meant.Plan → Option meant.Plan
translated_onto None before = before
translated_onto (Some q) before = Some (meant.plan q)

-- a sheet was translated: the answer is the definition's, the place then holds what the definition says, and a refused
-- call has changed nothing at all
pub record Translates (before : Plan) (sheet : Sheet) (answer : Result (Unit {0}) Fault) (after : Plan) : Type 0 where
  pub told : answer ≡ translate_answer (finished (sheet_of sheet))
  pub holds : held after ≡ translated_onto (finished (sheet_of sheet)) (held before)
  pub untouched : is_ok answer ≡ false → after.translated ≡ before.translated
