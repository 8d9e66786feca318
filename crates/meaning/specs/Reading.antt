-- Running a plan over stored tables, whose rows may be unreadable, and what it has to answer.
use Rattle.std.specs.Prelude.{ℕ, suc, ◌+◌, List, [], ◌∷◌, ◌++◌, length, Some, None, Ok, Err, fold, sum_by, Option, Result}
use Rattle.std.specs.Option.{option_map}
use Rattle.terms.specs.Cells.{Row}
use Rattle.terms.specs.Tables.{Stored, Tables, rows_of}
use Rattle.queries.specs.declared.steps.Step.{Step}
use Rattle.queries.specs.declared.steps.Step.TheVariants as step
use Rattle.meaning.specs.Rows.{Contents}
use Rattle.meaning.specs.Aggregates.{Meaning}
use Rattle.meaning.specs.Queries.{Inner, Query, nested}
use Rattle.meaning.specs.Plans.{Plan, table_of}
use Rattle.meaning.specs.Running.{State, nothing, take_step}

-- the stored rows of a table
abbrev pub stored : Tables → ℕ → List Stored
stored tables n = rows_of (tables n)

abbrev pub readable : List Stored → List Row
readable [] = []
readable (None ∷ rs) = readable rs
readable (Some r ∷ rs) = r ∷ readable rs

abbrev pub contents : Tables → Contents
contents tables n = readable (stored tables n)

-- the index of the first unreadable row
abbrev pub first_unreadable : List Stored → Option ℕ
first_unreadable [] = None
first_unreadable (None ∷ rs) = Some 0
first_unreadable (Some r ∷ rs) = option_map suc (first_unreadable rs)

-- where reading stopped: the unreadable row, and the reads so far, its own among them
pub record Stop : Type 0 where
  pub block : ℕ
  pub table : ℕ
  pub row : ℕ
  pub reads : ℕ

-- What has to be answered.

-- a block and its table
pub record Visit : Type 0 where
  pub block : ℕ
  pub table : ℕ

-- the blocks from the innermost outward, the inner ones numbered from b
abbrev pub inner_visits : ℕ → List Inner → List Visit
inner_visits b [] = []
inner_visits b (i ∷ is) = inner_visits (suc b) is ++ (record { block = b; table = i.table } ∷ [])

abbrev pub visits : Query → List Visit
visits q = inner_visits 1 q.inner ++ (record { block = 0; table = q.table } ∷ [])

abbrev pub met : Visit → ℕ → Option ℕ → Option Stop → Option Stop
met v n None later = later
met v n (Some i) later = Some (record { block = v.block; table = v.table; row = i; reads = n + suc i })

-- the first unreadable row met when the blocks' tables are read one after the other, n rows having been read before
abbrev pub first_met : Tables → List Visit → ℕ → Option Stop
first_met tables [] n = None
first_met tables (v ∷ vs) n = met v n (first_unreadable (stored tables v.table)) (first_met tables vs (n + length (stored tables v.table)))

-- the sum of the blocks' row counts
abbrev pub row_counts : Tables → Query → ℕ
row_counts tables q = sum_by (λ v. length (stored tables v.table)) (visits q)

abbrev pub unless : {X : Type 0} → Option Stop → X → Result X Stop
unless None x = Ok x
unless (Some stop) x = Err stop

-- the rows of nested iteration and the sum of the blocks' row counts; or the first unreadable row, innermost block first
abbrev pub answers : {Total : Type 0} → Tables → Meaning Total → Query → Result (List Row × ℕ) Stop
answers tables house q = unless (first_met tables (visits q) 0) (nested (contents tables) house q, row_counts tables q)

-- What running does.

-- a run that goes on, or one that stopped
pub data Going : Type 0 where
  on : State → Going
  stopped : Stop → Going

-- RESTRICT stops at an unreadable row
abbrev pub unless_met : Option ℕ → (block table reads : ℕ) → State → Going
unless_met None block table reads next = on next
unless_met (Some i) block table reads next = stopped (record { block = block; table = table; row = i; reads = reads + suc i })

-- no other step fetches
abbrev pub proceed : Plan → Tables → State → Step → State → Going
proceed p tables s (step.Restrict block rows) next = unless_met (first_unreadable (stored tables (table_of p block))) block (table_of p block) s.reads next
proceed p tables s (step.Project block rows tuples) next = on next
proceed p tables s (step.Group block rows tuples aggregate) next = on next
proceed p tables s (step.Filter block rows tuples operand comparison) next = on next
proceed p tables s (step.Output rows) next = on next

abbrev pub go : {Total : Type 0} → Plan → Tables → Meaning Total → Going → Step → Going
go p tables house (stopped x) st = stopped x
go p tables house (on s) st = proceed p tables s st (take_step p (contents tables) house s st)

abbrev pub outcome : Going → Result (List Row × ℕ) Stop
outcome (on s) = Ok (s.written, s.reads)
outcome (stopped x) = Err x

-- the rows written and the rows fetched by a plan's steps in order, or where they stopped
abbrev pub ran : {Total : Type 0} → Plan → Tables → Meaning Total → Result (List Row × ℕ) Stop
ran p tables house = outcome (fold (go p tables house) (on nothing) p.steps)
