-- What GROUP works out for a tuple.
use Rattle.std.specs.Prelude.{List, filter}
use Rattle.terms.specs.Cells.{Cell, Row}
use Rattle.queries.specs.declared.aggregates.Aggregate.{Aggregate}
use Rattle.queries.specs.declared.parts.Link.{Link}
use Rattle.meaning.specs.Aggregates.{Meaning, Answer, over}
use Rattle.meaning.specs.Running.{joins_true, joined_cells}

-- one function's answer over what an aggregate takes of the rows that a tuple is joined with
abbrev pub group_over : {Total : Type 0} → Meaning Total → List Link → Aggregate → List Row → List Cell → Answer
group_over m joins aggregate rows tuple = over m (joined_cells aggregate (filter (joins_true joins tuple) rows))
