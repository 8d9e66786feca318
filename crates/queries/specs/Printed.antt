-- How entries, conditions and aggregates print: Cn is a column of the block, Pn one of its parent.
use Rattle.std.specs.Prelude.{ℕ, List, ◌++◌, codes, decimal}
use Rattle.std.specs.Fmt.{signed_decimal}
use Rattle.terms.specs.Printed.{comparison_sign}
use Rattle.queries.specs.declared.aggregates.Aggregate.{Aggregate}
use Rattle.queries.specs.declared.aggregates.Aggregate.TheVariants.{CountRows, Of}
use Rattle.queries.specs.declared.aggregates.Function.{Function}
use Rattle.queries.specs.declared.aggregates.Function.TheVariants.{Count, Sum, Min, Max, House}
use Rattle.queries.specs.declared.entries.Entry.{Entry}
use Rattle.queries.specs.declared.entries.Entry.TheVariants as entry
use Rattle.queries.specs.declared.parts.Link.{Link}
use Rattle.queries.specs.declared.parts.Test.{Test}

-- a function's name in SQL
abbrev pub function_name : Function → List ℕ
function_name Count = codes "COUNT"
function_name Sum = codes "SUM"
function_name Min = codes "MIN"
function_name Max = codes "MAX"
function_name House = codes "HOUSE"

abbrev pub aggregate_text : Aggregate → List ℕ
aggregate_text CountRows = codes "COUNT(*)"
aggregate_text (Of function column) = function_name function ++ (codes "(C" ++ (decimal column ++ codes ")"))

abbrev pub test_text : Test → List ℕ
test_text t =
    codes "C" ++ (decimal t.column ++ (codes " " ++ (comparison_sign t.comparison ++ (codes " " ++ signed_decimal t.constant))))

abbrev pub link_text : Link → List ℕ
link_text l =
    codes "C" ++ (decimal l.column ++ (codes " " ++ (comparison_sign l.comparison ++ (codes " P" ++ decimal l.parent))))

-- a number of an entry, with a blank before it
abbrev pub spaced : ℕ → List ℕ
spaced n = codes " " ++ decimal n

-- an entry's name, and its numbers as they were given
abbrev pub entry_text : Entry → List ℕ
entry_text (entry.Open table) = codes "open" ++ spaced table
entry_text (entry.Test column comparison constant) =
    codes "test" ++ (spaced column ++ (spaced comparison ++ (codes " " ++ signed_decimal constant)))
entry_text (entry.Link column comparison parent) = codes "link" ++ (spaced column ++ (spaced comparison ++ spaced parent))
entry_text (entry.Nest form table operand comparison code inner) =
    codes "nest" ++ (spaced form ++ (spaced table ++ (spaced operand ++ (spaced comparison ++ (spaced code ++ spaced inner)))))
entry_text (entry.Select column) = codes "select" ++ spaced column
entry_text entry.Finish = codes "finish"
