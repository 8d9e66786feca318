-- What a run checks before it reads: the tables and columns that a query names, and the memory that it needs.
use Rattle.std.specs.Prelude.{ℕ, suc, ◌+◌, ◌*◌, Bool, false, cond, ◌&&◌, ◌||◌, List, [], ◌∷◌, ◌++◌, map, length, Some, None, Option, ◌==◌, nat_lt, slice_index}
use Rattle.std.specs.List.{range_with_len}
use Rattle.terms.specs.declared.faults.Fault.{Fault}
use Rattle.terms.specs.declared.faults.Layer.TheVariants.{Run}
use Rattle.terms.specs.declared.refusals.Refusal.{Refusal}
use Rattle.terms.specs.declared.refusals.Refusal.TheVariants.{NoSuchTable, NoSuchColumn}
use Rattle.terms.specs.Faults.{of_table, of_layer}
use Rattle.terms.specs.Tables.{Table, Tables, rows_of, columns_of}
use Rattle.queries.specs.declared.aggregates.Aggregate.{Aggregate}
use Rattle.queries.specs.declared.aggregates.Aggregate.TheVariants.{CountRows, Of}
use Rattle.queries.specs.declared.nests.Nest.{Nest}
use Rattle.queries.specs.declared.nests.Nest.TheVariants.{Aggregated, In, Exists, NotExists, Any, All}
use Rattle.queries.specs.declared.steps.Operand.{Operand}
use Rattle.queries.specs.declared.steps.Operand.TheVariants.{Column, Zero}
use Rattle.queries.specs.declared.steps.Step.{Step}
use Rattle.queries.specs.declared.steps.Step.TheVariants as step
use Rattle.meaning.specs.Rows.{some}
use Rattle.meaning.specs.Queries.{Inner, Query}
use Rattle.meaning.specs.Plans.{Plan, table_of, tests_of, joins_of}

-- the first fault of several checks, made in order
abbrev pub first_of : List (Option Fault) → Option Fault
first_of [] = None
first_of (None ∷ later) = first_of later
first_of (Some fault ∷ later) = Some fault

-- The columns that a block's entries name.

abbrev pub aggregate_columns : Aggregate → List ℕ
aggregate_columns CountRows = []
aggregate_columns (Of function column) = column ∷ []

-- in the inner block's table, by the nested test that made the block
abbrev pub nest_columns : Nest → List ℕ
nest_columns (Aggregated operand comparison aggregate) = aggregate_columns aggregate
nest_columns (In operand inner) = inner ∷ []
nest_columns Exists = []
nest_columns NotExists = []
nest_columns (Any operand comparison inner) = inner ∷ []
nest_columns (All operand comparison inner) = inner ∷ []

-- and in its parent's
abbrev pub nest_operands : Nest → List ℕ
nest_operands (Aggregated operand comparison aggregate) = operand ∷ []
nest_operands (In operand inner) = operand ∷ []
nest_operands Exists = []
nest_operands NotExists = []
nest_operands (Any operand comparison inner) = operand ∷ []
nest_operands (All operand comparison inner) = operand ∷ []

abbrev pub own_columns : Inner → List ℕ
own_columns b = map (λ t. t.column) b.tests ++ (map (λ l. l.column) b.links ++ nest_columns b.nest)

abbrev pub parent_columns : Inner → List ℕ
parent_columns b = map (λ l. l.parent) b.links ++ nest_operands b.nest

-- block 0 names the columns of its tests and the output columns
abbrev pub outer_columns : Query → List ℕ
outer_columns q = map (λ t. t.column) q.tests ++ q.outputs

-- Refusals 31 and 32.

-- whether a table of so many columns lacks a column
abbrev pub lacks : ℕ → ℕ → Bool
lacks columns column = nat_lt columns column

abbrev pub some_lacking : Option Table → List ℕ → Bool
some_lacking table columns = some (lacks (columns_of table)) columns

-- one block over a table: the table is there, it has the block's own columns, and the parent's table has those that the
-- block names in it
abbrev pub block_fault : Tables → (block table : ℕ) → Bool → (parent : ℕ) → Bool → Option Table → Option Fault
block_fault tables block table own parent outer None = Some (of_table NoSuchTable block table)
block_fault tables block table own parent outer (Some t) =
    cond own (Some (of_table NoSuchColumn block table)) (cond outer (Some (of_table NoSuchColumn block parent)) None)

-- the checks of the inner blocks, which are numbered from b, the first of them inside a block over the table `parent`
abbrev pub inner_faults : Tables → (b parent : ℕ) → List Inner → List (Option Fault)
inner_faults tables b parent [] = []
inner_faults tables b parent (i ∷ is) =
    block_fault tables b i.table (some_lacking (tables i.table) (own_columns i)) parent (some_lacking (tables parent) (parent_columns i)) (tables i.table)
    ∷ inner_faults tables (suc b) i.table is

-- block 0 first, then block 1, and so on
abbrev pub query_fault : Tables → Query → Option Fault
query_fault tables q =
    first_of (
    block_fault tables 0 q.table (some_lacking (tables q.table) (outer_columns q)) 0 false (tables q.table)
    ∷ inner_faults tables 1 q.table q.inner)

-- Refusals 11 and 12.

abbrev pub row_count : Tables → ℕ → ℕ
row_count tables table = length (rows_of (tables table))

-- the cells of all rows of a table
abbrev pub table_cells : Tables → ℕ → ℕ
table_cells tables table = row_count tables table * columns_of (tables table)

-- IN and ANY become one more join condition
abbrev pub further_joins : Nest → ℕ
further_joins (Aggregated operand comparison aggregate) = 0
further_joins (In operand inner) = 1
further_joins Exists = 0
further_joins NotExists = 0
further_joins (Any operand comparison inner) = 1
further_joins (All operand comparison inner) = 0

-- a tuple has a cell for each join condition, and its answer one more
abbrev pub tuple_cells : Inner → ℕ
tuple_cells b = length b.links + further_joins b.nest + 1

-- for each inner block its table's cells, and a tuple for each row of its parent
abbrev pub inner_need : Tables → (parent : ℕ) → List Inner → ℕ
inner_need tables parent [] = 0
inner_need tables parent (i ∷ is) = table_cells tables i.table + row_count tables parent * tuple_cells i + inner_need tables i.table is

abbrev pub work_need : Tables → Query → ℕ
work_need tables q = table_cells tables q.table + inner_need tables q.table q.inner

abbrev pub result_need : Tables → Query → ℕ
result_need tables q = row_count tables q.table * length q.outputs

abbrev pub short_of : Refusal → (have need : ℕ) → Option Fault
short_of refusal have need = cond (nat_lt have need) (Some (of_layer refusal Run)) None

-- What a run finds of it in a plan.

abbrev pub parent_of : Plan → ℕ → ℕ
parent_of p b = slice_index (map (λ x. x.parent) p.blocks) b

abbrev pub aggregate_lacking : ℕ → Aggregate → Bool
aggregate_lacking columns CountRows = false
aggregate_lacking columns (Of function column) = lacks columns column

abbrev pub operand_lacking : ℕ → Operand → Bool
operand_lacking columns (Column column) = lacks columns column
operand_lacking columns Zero = false

-- GROUP takes a column of block b
abbrev pub group_lacking : (b columns : ℕ) → Step → Bool
group_lacking b columns (step.Restrict block rows) = false
group_lacking b columns (step.Project block rows tuples) = false
group_lacking b columns (step.Group block rows tuples aggregate) = block == b && aggregate_lacking columns aggregate
group_lacking b columns (step.Filter block rows tuples operand comparison) = false
group_lacking b columns (step.Output rows) = false

-- FILTER an operand in the parent's rows
abbrev pub filter_lacking : (b columns : ℕ) → Step → Bool
filter_lacking b columns (step.Restrict block rows) = false
filter_lacking b columns (step.Project block rows tuples) = false
filter_lacking b columns (step.Group block rows tuples aggregate) = false
filter_lacking b columns (step.Filter block rows tuples operand comparison) = block == b && operand_lacking columns operand
filter_lacking b columns (step.Output rows) = false

-- the output columns are block 0's
abbrev pub output_lacking : Plan → (b columns : ℕ) → Bool
output_lacking p b columns = b == 0 && some (lacks columns) p.outputs

abbrev pub own_lacking : Plan → (b columns : ℕ) → Bool
own_lacking p b columns =
    some (λ t. lacks columns t.column) (tests_of p b)
    || (some (λ j. lacks columns j.column) (joins_of p b)
    || (some (group_lacking b columns) p.steps || output_lacking p b columns))

abbrev pub parent_lacking : Plan → (b columns : ℕ) → Bool
parent_lacking p b columns = some (λ j. lacks columns j.parent) (joins_of p b) || some (filter_lacking b columns) p.steps

abbrev pub plan_block_fault : Tables → Plan → ℕ → Option Fault
plan_block_fault tables p b =
    let table : ℕ = table_of p b in
    let parent : ℕ = table_of p (parent_of p b) in
    block_fault tables b table (own_lacking p b (columns_of (tables table))) parent (parent_lacking p b (columns_of (tables parent))) (tables table)

abbrev pub plan_fault : Tables → Plan → Option Fault
plan_fault tables p = first_of (map (plan_block_fault tables p) (range_with_len 0 (length p.blocks)))
