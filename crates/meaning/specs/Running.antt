-- What each step of a plan does, over tables whose rows are all readable.
use Rattle.std.specs.Prelude.{ℕ, ◌+◌, Bool, true, false, cond, ◌&&◌, List, [], ◌∷◌, ◌++◌, map, length, pos, Some, None, fold, filter as kept_by, ◌==◌}
use Rattle.terms.specs.declared.comparisons.Comparison.{Comparison}
use Rattle.terms.specs.Cells.{Cell, Row}
use Rattle.terms.specs.Comparisons.{holds}
use Rattle.queries.specs.declared.aggregates.Aggregate.{Aggregate}
use Rattle.queries.specs.declared.aggregates.Aggregate.TheVariants.{CountRows, Of}
use Rattle.queries.specs.declared.aggregates.Function.TheVariants.{Count}
use Rattle.queries.specs.declared.parts.Test.{Test}
use Rattle.queries.specs.declared.parts.Link.{Link}
use Rattle.queries.specs.declared.steps.Operand.{Operand}
use Rattle.queries.specs.declared.steps.Operand.TheVariants.{Column, Zero}
use Rattle.queries.specs.declared.steps.Step.{Step}
use Rattle.queries.specs.declared.steps.Step.TheVariants as step
use Rattle.meaning.specs.Rows.{Contents, cell, cells, some, alike}
use Rattle.meaning.specs.Aggregates.{Meaning, Answer, answered}
use Rattle.meaning.specs.Queries.{tests_true}
use Rattle.meaning.specs.Plans.{Plan, table_of, tests_of, joins_of}

-- a tuple of parent cells with the answer worked out for it
pub record Group : Type 0 where
  pub tuple : List Cell
  pub answer : Answer

-- what the steps so far have left: the temporaries by their numbers, the rows written, and how many rows were fetched
pub record State : Type 0 where
  pub kept : ℕ → List Row
  pub groups : ℕ → List Group
  pub written : List Row
  pub reads : ℕ

abbrev pub nothing : State
nothing = record { kept = λ b. []; groups = λ b. []; written = []; reads = 0 }

-- temporary number n put in the place of what it was
abbrev pub put : {X : Type 0} → (ℕ → X) → ℕ → X → ℕ → X
put f n x m = cond (m == n) x (f m)

abbrev pub with_kept : State → ℕ → List Row → State
with_kept s n rows = record { kept = put s.kept n rows; groups = s.groups; written = s.written; reads = s.reads }

abbrev pub with_groups : State → ℕ → List Group → State
with_groups s n groups = record { kept = s.kept; groups = put s.groups n groups; written = s.written; reads = s.reads }

-- RESTRICT

-- fetches each row once and keeps those whose tests are true
abbrev pub restrict : State → ℕ → List Test → List Row → State
restrict s n tests rows =
    record { kept = put s.kept n (kept_by (tests_true tests) rows); groups = s.groups; written = s.written; reads = s.reads + length rows }

-- PROJECT

-- the parent cells that the join conditions name
abbrev pub tuple_of : List Link → Row → List Cell
tuple_of joins parent = map (λ j. cell j.parent parent) joins

-- one more tuple, unless it stands there already
abbrev pub noted : List (List Cell) → List Cell → List (List Cell)
noted seen tuple = cond (some (alike tuple) seen) seen (seen ++ (tuple ∷ []))

-- the distinct tuples, each at its first appearance
abbrev pub distinct : List (List Cell) → List (List Cell)
distinct tuples = fold noted [] tuples

abbrev pub unanswered : List Cell → Group
unanswered tuple = record { tuple = tuple; answer = None }

abbrev pub project : State → (rows tuples : ℕ) → List Link → State
project s rows tuples joins = with_groups s tuples (map unanswered (distinct (map (tuple_of joins) (s.kept rows))))

-- GROUP

abbrev pub join_true : Row → Link → Cell → Bool
join_true row j c = holds j.comparison (cell j.column row) c

-- whether the join conditions of a row are true of a tuple
abbrev pub joins_true : List Link → List Cell → Row → Bool
joins_true [] tuple row = true
joins_true (j ∷ js) [] row = false
joins_true (j ∷ js) (c ∷ cs) row = join_true row j c && joins_true js cs row

-- what a real row brings to the aggregate: for COUNT(*) a present marker, else the cell of its column
abbrev pub brought : Aggregate → Row → Cell
brought CountRows row = Some (pos 1)
brought (Of function column) row = cell column row

-- a tuple is joined with these rows, or with one row of absent cells if there are none: it brings an absent cell
abbrev pub joined_cells : Aggregate → List Row → List Cell
joined_cells aggregate [] = None ∷ []
joined_cells aggregate (r ∷ rs) = map (brought aggregate) (r ∷ rs)

-- COUNT(*) counts the present markers
abbrev pub answer_over : {Total : Type 0} → Meaning Total → Aggregate → List Cell → Answer
answer_over house CountRows cells = answered house Count cells
answer_over house (Of function column) cells = answered house function cells

-- the aggregate over the rows that a tuple is joined with, in table order
abbrev pub group_answer : {Total : Type 0} → Meaning Total → List Link → Aggregate → List Row → List Cell → Answer
group_answer house joins aggregate rows tuple = answer_over house aggregate (joined_cells aggregate (kept_by (joins_true joins tuple) rows))

abbrev pub with_answer : (List Cell → Answer) → Group → Group
with_answer f g = record { tuple = g.tuple; answer = f g.tuple }

abbrev pub group : {Total : Type 0} → Meaning Total → State → (rows tuples : ℕ) → List Link → Aggregate → State
group house s rows tuples joins aggregate = with_groups s tuples (map (with_answer (group_answer house joins aggregate (s.kept rows))) (s.groups tuples))

-- FILTER

abbrev pub operand_of : Operand → Row → Cell
operand_of (Column column) row = cell column row
operand_of Zero row = Some (pos 0)

-- the answer beside the tuple that is the same
abbrev pub answer_for : List Group → List Cell → Answer
answer_for [] tuple = None
answer_for (g ∷ gs) tuple = cond (alike tuple g.tuple) g.answer (answer_for gs tuple)

-- whether a parent row's operand compares true with the answer of its own tuple
abbrev pub passes : List Group → List Link → Operand → Comparison → Row → Bool
passes groups joins operand comparison row = holds comparison (operand_of operand row) (answer_for groups (tuple_of joins row))

abbrev pub filter : State → (rows tuples : ℕ) → List Link → Operand → Comparison → State
filter s rows tuples joins operand comparison = with_kept s rows (kept_by (passes (s.groups tuples) joins operand comparison) (s.kept rows))

-- OUTPUT

abbrev pub output : State → ℕ → List ℕ → State
output s rows columns = record { kept = s.kept; groups = s.groups; written = map (cells columns) (s.kept rows); reads = s.reads }

-- A plan's steps in order, each on what the steps before it left.

abbrev pub take_step : {Total : Type 0} → Plan → Contents → Meaning Total → State → Step → State
take_step p db house s (step.Restrict block rows) = restrict s rows (tests_of p block) (db (table_of p block))
take_step p db house s (step.Project block rows tuples) = project s rows tuples (joins_of p block)
take_step p db house s (step.Group block rows tuples aggregate) = group house s rows tuples (joins_of p block) aggregate
take_step p db house s (step.Filter block rows tuples operand comparison) = filter s rows tuples (joins_of p block) operand comparison
take_step p db house s (step.Output rows) = output s rows p.outputs

abbrev pub take_steps : {Total : Type 0} → Plan → Contents → Meaning Total → State → List Step → State
take_steps p db house s steps = fold (take_step p db house) s steps
