-- What the translation of a nested test means.
use Rattle.std.specs.Prelude.{◌≡◌}
use Rattle.std.specs.Option.{option_to_list}
use Rattle.queries.specs.declared.nests.Nest.{Nest}
use Rattle.meaning.specs.Queries.{Inner}
use Rattle.meaning.specs.Plans.{Flat, flat, translated_as}
use Rattle.plans.specs.declared.unnesting.Unnested.{Unnested}

-- an inner block with a translated nested test
abbrev pub flat_by : Inner → Unnested → Flat
flat_by b u = flat b (option_to_list u.further) u.operand u.comparison u.aggregate

-- the translation of a nested test, in whatever block it stands
abbrev pub Unnests : Nest → Unnested → Type 0
Unnests nest u = (b : Inner) → flat_by b u ≡ translated_as b nest
