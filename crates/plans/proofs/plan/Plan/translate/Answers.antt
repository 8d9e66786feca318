use mathlib.Core.Logic.{∥∥₁_map}
use Rattle.sheets.specs.Held.{query_of}
use Rattle.sheets.specs.Sheets.{sheet_of}
use Rattle.plans.specs.Translated.{plan_of}
use Rattle.plans.proofs.OfSheets.{made_of}
use Rattle.plans.proofs.plan.Plan.translate.Goals as goal

pub invariant_of-self : goal.invariant_of-self
invariant_of-self c =
    let made = made_of (sheet_of c.args.sheet.now) (query_of c.in-Some.query) (plan_of c.translated_query.result) c.in-Some.ensures c.translated_query.ensures in
    record { made = ∥∥₁_map c.args.sheet.now.spelled made }
