-- The query that a list of entries spells.
use Rattle.std.specs.Prelude.{ℕ, ◌+◌, Bool, true, false, cond, not, ◌&&◌, ◌||◌, List, [], ◌∷◌, ◌++◌, length, Some, None, Ok, Err, fold, Option, Result, ◌==◌, nat_le}
use Rattle.bounded.specs.Listed.{latest, revised}
use Rattle.terms.specs.declared.comparisons.Comparison.{Comparison}
use Rattle.terms.specs.declared.comparisons.Comparison.TheVariants.{Equal, NotEqual, Less, LessOrEqual, Greater, GreaterOrEqual}
use Rattle.terms.specs.declared.faults.Fault.{Fault}
use Rattle.terms.specs.declared.refusals.Refusal.{Refusal}
use Rattle.terms.specs.declared.refusals.Refusal.TheVariants.{OutOfTurn, OutOfRange, AllByEquality, OverLimit, NothingSelected}
use Rattle.terms.specs.Faults.{on_sheet}
use Rattle.queries.specs.declared.entries.Entry.{Entry}
use Rattle.queries.specs.declared.entries.Entry.TheVariants as entry
use Rattle.queries.specs.declared.entries.Part.{Part}
use Rattle.queries.specs.declared.entries.Part.TheVariants.{Outermost, Tested, Linked, Nested, Selected, Finished}
use Rattle.queries.specs.declared.nests.Nest.{Nest}
use Rattle.queries.specs.declared.nests.Nest.TheVariants.{Aggregated, In, Exists, NotExists, Any, All}
use Rattle.queries.specs.declared.parts.Link.{Link}
use Rattle.queries.specs.declared.parts.Test.{Test}
use Rattle.queries.specs.Entries.{read}
use Rattle.meaning.specs.Queries.{Inner, Query}

-- what the entries so far spell: no query before block 0 is open; the newest block is the current one
pub record Spelled : Type 0 where
  pub query : Option Query
  pub ended : Bool

abbrev pub fresh : Spelled
fresh = record { query = None; ended = false }

-- the number of the current block, 0 on a fresh sheet
abbrev pub current_in : Option Query → ℕ
current_in None = 0
current_in (Some q) = length q.inner

abbrev pub current : Spelled → ℕ
current s = current_in s.query

-- Refusal 2: out of turn.

-- a fresh sheet takes open alone, any other all but open; block 0 has no parent to link with
abbrev pub in_place : Option Query → Entry → Bool
in_place None (entry.Open table) = true
in_place None (entry.Test column comparison constant) = false
in_place None (entry.Link column comparison parent) = false
in_place None (entry.Nest form table operand comparison code inner) = false
in_place None (entry.Select column) = false
in_place None entry.Finish = false
in_place (Some q) (entry.Open table) = false
in_place (Some q) (entry.Test column comparison constant) = true
in_place (Some q) (entry.Link column comparison parent) = nat_le 1 (length q.inner)
in_place (Some q) (entry.Nest form table operand comparison code inner) = true
in_place (Some q) (entry.Select column) = true
in_place (Some q) entry.Finish = true

-- and nothing is in turn after finish
abbrev pub in_turn : Spelled → Entry → Bool
in_turn s e = not s.ended && in_place s.query e

-- Refusal 4: ALL with = or <>.

abbrev pub is_equality : Comparison → Bool
is_equality Equal = true
is_equality NotEqual = true
is_equality Less = false
is_equality LessOrEqual = false
is_equality Greater = false
is_equality GreaterOrEqual = false

abbrev pub nest_by_equality : Nest → Bool
nest_by_equality (Aggregated operand comparison aggregate) = false
nest_by_equality (In operand inner) = false
nest_by_equality Exists = false
nest_by_equality NotExists = false
nest_by_equality (Any operand comparison inner) = false
nest_by_equality (All operand comparison inner) = is_equality comparison

abbrev pub all_by_equality : Part → Bool
all_by_equality (Outermost table) = false
all_by_equality (Tested test) = false
all_by_equality (Linked link) = false
all_by_equality (Nested nest table) = nest_by_equality nest
all_by_equality (Selected column) = false
all_by_equality Finished = false

-- Refusal 3: one more than a limit.

-- the tests and links of the current block, and its links
abbrev pub conditions : Query → Option Inner → ℕ
conditions q None = length q.tests
conditions q (Some b) = length b.tests + length b.links

abbrev pub links : Option Inner → ℕ
links None = 0
links (Some b) = length b.links

-- a sheet has at most 4 blocks and 6 output columns, a block 6 tests and links, of which 3 links
abbrev pub over_limit : Option Query → Part → Bool
over_limit None part = false
over_limit (Some q) (Outermost table) = false
over_limit (Some q) (Tested test) = nat_le 6 (conditions q (latest q.inner))
over_limit (Some q) (Linked link) = nat_le 6 (conditions q (latest q.inner)) || nat_le 3 (links (latest q.inner))
over_limit (Some q) (Nested nest table) = nat_le 4 (1 + length q.inner)
over_limit (Some q) (Selected column) = nat_le 6 (length q.outputs)
over_limit (Some q) Finished = false

-- Refusal 5: finish without a select.

abbrev pub nothing_selected : Option Query → Part → Bool
nothing_selected None part = false
nothing_selected (Some q) (Outermost table) = false
nothing_selected (Some q) (Tested test) = false
nothing_selected (Some q) (Linked link) = false
nothing_selected (Some q) (Nested nest table) = false
nothing_selected (Some q) (Selected column) = false
nothing_selected (Some q) Finished = length q.outputs == 0

-- The verdict: what an entry brings, or why it is declined. It decides the answer and the effect alike.

abbrev pub verdict_on : Option Query → Option Part → Result Part Refusal
verdict_on q None = Err OutOfRange
verdict_on q (Some part) =
    cond (all_by_equality part) (Err AllByEquality)
    (cond (over_limit q part) (Err OverLimit)
    (cond (nothing_selected q part) (Err NothingSelected) (Ok part)))

abbrev pub verdict : Spelled → Entry → Result Part Refusal
verdict s e = cond (in_turn s e) (verdict_on s.query (read e)) (Err OutOfTurn)

abbrev pub answer_by : Spelled → Result Part Refusal → Result (Unit {0}) Fault
answer_by s (Ok part) = Ok tt
answer_by s (Err refusal) = Err (on_sheet refusal (current s))

-- what a sheet answers to an entry
abbrev pub sheet_answer : Spelled → Entry → Result (Unit {0}) Fault
sheet_answer s e = answer_by s (verdict s e)

-- What a taken entry does to the query.

abbrev pub fresh_query : ℕ → Query
fresh_query table = record { table = table; tests = []; inner = []; outputs = [] }

abbrev pub fresh_inner : Nest → ℕ → Inner
fresh_inner nest table = record { nest = nest; table = table; tests = []; links = [] }

abbrev pub with_test : Test → Inner → Inner
with_test t b = record { nest = b.nest; table = b.table; tests = b.tests ++ (t ∷ []); links = b.links }

abbrev pub with_link : Link → Inner → Inner
with_link l b = record { nest = b.nest; table = b.table; tests = b.tests; links = b.links ++ (l ∷ []) }

-- a test of block 0 where it is current, else of the newest inner block
abbrev pub add_test : Test → Query → List Inner → Query
add_test t q [] = record { table = q.table; tests = q.tests ++ (t ∷ []); inner = []; outputs = q.outputs }
add_test t q (b ∷ bs) = record { table = q.table; tests = q.tests; inner = revised (with_test t) (b ∷ bs); outputs = q.outputs }

abbrev pub with_inner : Query → List Inner → Query
with_inner q inner = record { table = q.table; tests = q.tests; inner = inner; outputs = q.outputs }

abbrev pub with_part : Query → Part → Query
with_part q (Outermost table) = q
with_part q (Tested test) = add_test test q q.inner
with_part q (Linked link) = with_inner q (revised (with_link link) q.inner)
with_part q (Nested nest table) = with_inner q (q.inner ++ (fresh_inner nest table ∷ []))
with_part q (Selected column) = record { table = q.table; tests = q.tests; inner = q.inner; outputs = q.outputs ++ (column ∷ []) }
with_part q Finished = q

abbrev pub opened : Part → Option Query
opened (Outermost table) = Some (fresh_query table)
opened (Tested test) = None
opened (Linked link) = None
opened (Nested nest table) = None
opened (Selected column) = None
opened Finished = None

abbrev pub query_with : Option Query → Part → Option Query
query_with None part = opened part
query_with (Some q) part = Some (with_part q part)

abbrev pub ends : Part → Bool
ends (Outermost table) = false
ends (Tested test) = false
ends (Linked link) = false
ends (Nested nest table) = false
ends (Selected column) = false
ends Finished = true

abbrev pub entered_by : Spelled → Result Part Refusal → Spelled
entered_by s (Ok part) = record { query = query_with s.query part; ended = ends part }
entered_by s (Err refusal) = s

-- the spelled query after one more entry: a declined one changes nothing
abbrev pub entered : Spelled → Entry → Spelled
entered s e = entered_by s (verdict s e)

abbrev pub spelled : List Entry → Spelled
spelled entries = fold entered fresh entries

-- the query of a sheet on which a finish was taken
abbrev pub finished : Spelled → Option Query
finished s = cond s.ended s.query None
