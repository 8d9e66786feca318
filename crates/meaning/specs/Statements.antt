-- The theorems.
use Rattle.std.specs.Prelude.{◌≡◌, ℕ, ◌≤◌, List, length, Some}
use Rattle.terms.specs.Tables.{Tables}
use Rattle.queries.specs.declared.entries.Entry.{Entry}
use Rattle.meaning.specs.Aggregates.{Meaning}
use Rattle.meaning.specs.Queries.{Query}
use Rattle.meaning.specs.Spelling.{spelled, finished}
use Rattle.meaning.specs.Plans.{plan}
use Rattle.meaning.specs.Reading.{ran, answers}

-- The plan of a query gives the rows of nested iteration, in their order, with repeats and absent cells, and reads every
-- row of every block once; or it stops at the first unreadable row, innermost block first. For all tables, for every house
-- aggregate with the law, and for every list of entries in which a finish was taken.
abbrev pub FlatIsNested : Type 0 → Type 0
FlatIsNested Total =
    (tables : Tables) (house : Meaning Total) (entries : List Entry) (q : Query) → finished (spelled entries) ≡ Some q
    → ran (plan q) tables house ≡ answers tables house q

-- such a plan has at most so many steps
abbrev pub FewSteps : ℕ → Type 0
FewSteps most = (entries : List Entry) (q : Query) → finished (spelled entries) ≡ Some q → length (plan q).steps ≤ most
