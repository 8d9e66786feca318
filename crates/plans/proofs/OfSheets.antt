-- The plan of a finished sheet is one that a plan place may hold.
use Rattle.std.proofs.Common.{◌≡◌, Some, sym, ap, ◌∙◌}
use Rattle.meaning.specs.Queries.{Query}
use Rattle.meaning.specs.Plans.{Plan, plan}
use Rattle.meaning.specs.Spelling.{Spelled, finished}
use Rattle.sheets.specs.Drafts.{SpelledBy}
use Rattle.plans.specs.Made.{Made}

pub made_of : (s : Spelled) (q : Query) (p : Plan) → Some q ≡ finished s → p ≡ plan q → SpelledBy s → Made (Some p)
made_of s q p h e by = record { entries = by.0; query = q; finish = ap finished (sym by.1) ∙ sym h; is = e }
