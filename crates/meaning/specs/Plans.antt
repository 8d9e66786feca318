-- The translation of a query into a flat plan.
use Rattle.std.specs.Prelude.{ℕ, suc, List, [], ◌∷◌, ◌++◌, map, slice_index, slice_index_or}
use Rattle.terms.specs.declared.comparisons.Comparison.{Comparison}
use Rattle.terms.specs.declared.comparisons.Comparison.TheVariants.{Equal, Less}
use Rattle.terms.specs.Comparisons.{mirrored}
use Rattle.queries.specs.declared.aggregates.Aggregate.{Aggregate}
use Rattle.queries.specs.declared.aggregates.Aggregate.TheVariants.{CountRows, Of}
use Rattle.queries.specs.declared.nests.Nest.{Nest}
use Rattle.queries.specs.declared.nests.Nest.TheVariants.{Aggregated, In, Exists, NotExists, Any, All}
use Rattle.queries.specs.declared.parts.Link.{Link}
use Rattle.queries.specs.declared.parts.Test.{Test}
use Rattle.queries.specs.declared.steps.Operand.{Operand}
use Rattle.queries.specs.declared.steps.Operand.TheVariants.{Column, Zero}
use Rattle.queries.specs.declared.steps.Step.{Step}
use Rattle.queries.specs.declared.steps.Step.TheVariants.{Restrict, Project, Group, Filter, Output}
use Rattle.queries.specs.Codes.{extreme}
use Rattle.meaning.specs.Queries.{Inner, Query}

-- an inner block after translation: an operand of its parent's rows is compared with an aggregate of its own
pub record Flat : Type 0 where
  pub table : ℕ
  pub tests : List Test
  pub joins : List Link
  pub operand : Operand
  pub comparison : Comparison
  pub aggregate : Aggregate

abbrev pub flat : Inner → List Link → Operand → Comparison → Aggregate → Flat
flat b more operand comparison aggregate =
    record { table = b.table; tests = b.tests; joins = b.links ++ more; operand = operand; comparison = comparison; aggregate = aggregate }

-- ANY: a further join condition of the inner block, its column against the operand with the comparison mirrored, under
-- 0 < COUNT(*)
abbrev pub flat_any : Inner → ℕ → Comparison → ℕ → Flat
flat_any b operand comparison inner = flat b (record { column = inner; comparison = mirrored comparison; parent = operand } ∷ []) Zero Less CountRows

abbrev pub translated_as : Inner → Nest → Flat
translated_as b (Aggregated operand comparison aggregate) = flat b [] (Column operand) comparison aggregate
translated_as b (In operand inner) = flat_any b operand Equal inner
translated_as b Exists = flat b [] Zero Less CountRows
translated_as b NotExists = flat b [] Zero Equal CountRows
translated_as b (Any operand comparison inner) = flat_any b operand comparison inner
translated_as b (All operand comparison inner) = flat b [] (Column operand) comparison (Of (extreme comparison) inner)

abbrev pub translated : Inner → Flat
translated b = translated_as b b.nest

-- a block as a plan has it; block 0 is its own parent and has no join conditions
pub record PlanBlock : Type 0 where
  pub table : ℕ
  pub tests : List Test
  pub joins : List Link
  pub parent : ℕ

pub record Plan : Type 0 where
  pub blocks : List PlanBlock
  pub steps : List Step
  pub outputs : List ℕ

-- the blocks inside block p, from its child inward
abbrev pub inner_blocks : ℕ → List Flat → List PlanBlock
inner_blocks p [] = []
inner_blocks p (f ∷ fs) = record { table = f.table; tests = f.tests; joins = f.joins; parent = p } ∷ inner_blocks (suc p) fs

-- RESTRICT for the inner blocks, which are numbered from b: the innermost first
abbrev pub restricts : ℕ → List Flat → List Step
restricts b [] = []
restricts b (f ∷ fs) = restricts (suc b) fs ++ (Restrict b b ∷ [])

-- PROJECT, GROUP and FILTER for block b inside block p
abbrev pub unnest : (b p : ℕ) → Flat → List Step
unnest b p f = Project b p b ∷ (Group b b b f.aggregate ∷ (Filter b p b f.operand f.comparison ∷ []))

-- the same for all blocks inside block p: the innermost first
abbrev pub unnests : ℕ → List Flat → List Step
unnests p [] = []
unnests p (f ∷ fs) = unnests (suc p) fs ++ unnest (suc p) p f

abbrev pub plan : Query → Plan
plan q =
    let flats : List Flat = map translated q.inner in
    record {
      blocks = record { table = q.table; tests = q.tests; joins = []; parent = 0 } ∷ inner_blocks 0 flats;
      steps = restricts 1 flats ++ (Restrict 0 0 ∷ (unnests 0 flats ++ (Output 0 ∷ [])));
      outputs = q.outputs;
    }

-- what a step finds of a block
abbrev pub table_of : Plan → ℕ → ℕ
table_of p b = slice_index (map (λ x. x.table) p.blocks) b

abbrev pub tests_of : Plan → ℕ → List Test
tests_of p b = slice_index_or (map (λ x. x.tests) p.blocks) b []

abbrev pub joins_of : Plan → ℕ → List Link
joins_of p b = slice_index_or (map (λ x. x.joins) p.blocks) b []
