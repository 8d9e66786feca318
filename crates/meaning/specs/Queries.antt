-- Queries, and what they mean: nested iteration.
use Rattle.std.specs.Prelude.{ℕ, ◌+◌, Bool, true, cond, not, ◌&&◌, List, [], ◌∷◌, map, Some, sum_by, filter}
use Rattle.terms.specs.declared.comparisons.Comparison.TheVariants.{Equal}
use Rattle.terms.specs.Cells.{Row, every}
use Rattle.terms.specs.Comparisons.{holds}
use Rattle.queries.specs.declared.aggregates.Aggregate.TheVariants.{Of}
use Rattle.queries.specs.declared.nests.Nest.{Nest}
use Rattle.queries.specs.declared.nests.Nest.TheVariants.{Aggregated, In, Exists, NotExists, Any, All}
use Rattle.queries.specs.declared.parts.Link.{Link}
use Rattle.queries.specs.declared.parts.Test.{Test}
use Rattle.queries.specs.Codes.{extreme}
use Rattle.meaning.specs.Rows.{Contents, cell, cells, some}
use Rattle.meaning.specs.Aggregates.{Meaning, aggregated}

-- an inner block, with the nested test of its parent's rows that it serves
pub record Inner : Type 0 where
  pub nest : Nest
  pub table : ℕ
  pub tests : List Test
  pub links : List Link

-- block 0, the inner blocks from its child inward, and the output columns of block 0
pub record Query : Type 0 where
  pub table : ℕ
  pub tests : List Test
  pub inner : List Inner
  pub outputs : List ℕ

abbrev pub test_true : Test → Row → Bool
test_true t row = holds t.comparison (cell t.column row) (Some t.constant)

abbrev pub tests_true : List Test → Row → Bool
tests_true tests row = every (λ t. test_true t row) tests

abbrev pub link_true : Row → Row → Link → Bool
link_true parent row l = holds l.comparison (cell l.column row) (cell l.parent parent)

-- the links of a row, for one row of its parent
abbrev pub links_true : List Link → Row → Row → Bool
links_true links parent row = every (link_true parent row) links

-- the nested test of a row, by the passing rows of the inner block
abbrev pub nest_true : {Total : Type 0} → Meaning Total → Nest → Row → List Row → Bool
nest_true house (Aggregated operand comparison aggregate) row passing = holds comparison (cell operand row) (aggregated house aggregate passing)
nest_true house (In operand inner) row passing = some (λ r. holds Equal (cell operand row) (cell inner r)) passing
nest_true house Exists row passing = some (λ r. true) passing
nest_true house NotExists row passing = not (some (λ r. true) passing)
nest_true house (Any operand comparison inner) row passing = some (λ r. holds comparison (cell operand row) (cell inner r)) passing
nest_true house (All operand comparison inner) row passing = holds comparison (cell operand row) (aggregated house (Of (extreme comparison) inner) passing)

-- whether the nested tests of a row are true, given the blocks inside its own: a row of an inner block passes for the
-- parent's row when its tests, its links and then its own nested test are true
abbrev pub judged : {Total : Type 0} → Contents → Meaning Total → List Inner → Row → Bool
judged db house [] row = true
judged db house (b ∷ bs) row =
    nest_true house b.nest row (filter (λ r. tests_true b.tests r && links_true b.links row r && judged db house bs r) (db b.table))

-- nested iteration: the output columns of block 0's passing rows, one row for each, in table order
abbrev pub nested : {Total : Type 0} → Contents → Meaning Total → Query → List Row
nested db house q = map (cells q.outputs) (filter (λ r. tests_true q.tests r && judged db house q.inner r) (db q.table))

-- the rows gone through to judge one row: every row of the inner block, and more for each whose tests and links are true
abbrev pub reads_within : Contents → List Inner → Row → ℕ
reads_within db [] row = 0
reads_within db (b ∷ bs) row = sum_by (λ r. 1 + cond (tests_true b.tests r && links_true b.links row r) (reads_within db bs r) 0) (db b.table)

-- the reads of nested iteration: each row gone through is one
abbrev pub nested_reads : Contents → Query → ℕ
nested_reads db q = sum_by (λ r. 1 + cond (tests_true q.tests r) (reads_within db q.inner r) 0) (db q.table)
