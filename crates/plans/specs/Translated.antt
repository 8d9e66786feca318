-- What a translated query means.
use Rattle.std.specs.Prelude.{ℕ, List, map}
use Rattle.bounded.specs.Listed.{listed}
use Rattle.meaning.specs.Plans.{Flat, PlanBlock, Plan, translated}
use Rattle.sheets.specs.declared.blocks.InnerBlock.{InnerBlock}
use Rattle.sheets.specs.Held.{inner_of}
use Rattle.plans.specs.declared.blocks.TranslatedBlock.{TranslatedBlock}
use Rattle.plans.specs.declared.blocks.TranslatedQuery.{TranslatedQuery}

abbrev pub block_of : TranslatedBlock → PlanBlock
block_of b = record { table = b.table; tests = listed b.tests; joins = listed b.joins; parent = b.parent }

abbrev pub plan_of : TranslatedQuery → Plan
plan_of q = record { blocks = map block_of (listed q.blocks); steps = listed q.steps; outputs = listed q.outputs }

-- the inner blocks of a sheet, each translated
abbrev pub flats_of : List InnerBlock → List Flat
flats_of bs = map translated (map inner_of bs)

-- a translated block inside block p
abbrev pub inside : ℕ → Flat → PlanBlock
inside p f = record { table = f.table; tests = f.tests; joins = f.joins; parent = p }
