-- What RESTRICT answers, by the first unreadable row of its table.
use Rattle.std.specs.Prelude.{ℕ, suc, List, length, Some, None, Ok, Err, Option, Result}
use Rattle.terms.specs.declared.faults.Fault.{Fault}
use Rattle.terms.specs.Cells.{Row}
use Rattle.meaning.specs.Endings.{unreadable}

-- the number of rows that are kept, or the first unreadable row
abbrev pub restrict_answer : (block table : ℕ) → List Row → Option ℕ → Result ℕ Fault
restrict_answer block table kept None = Ok (length kept)
restrict_answer block table kept (Some i) = Err (unreadable block table i)

-- how many of n rows are fetched: up to the first unreadable row, its own fetch among them
abbrev pub fetched_until : Option ℕ → ℕ → ℕ
fetched_until None n = n
fetched_until (Some i) n = suc i
