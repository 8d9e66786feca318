-- What a plan place may hold.
use Rattle.std.specs.Prelude.{◌≡◌, List, Some, None, Option}
use Rattle.queries.specs.declared.entries.Entry.{Entry}
use Rattle.meaning.specs.Queries.{Query}
use Rattle.meaning.specs.Plans.{Plan, plan}
use Rattle.meaning.specs.Spelling.{spelled, finished}

-- the plan of a query that a list of entries spells and finishes
pub record OfSheet (p : Plan) : Type 0 where
  pub entries : List Entry
  pub query : Query
  pub finish : finished (spelled entries) ≡ Some query
  pub is : p ≡ plan query

-- nothing, or the translation of some finished sheet
abbrev pub Made : Option Plan → Type 0
Made None = Unit {0}
Made (Some p) = OfSheet p
