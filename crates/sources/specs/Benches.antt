-- A bench: when its heads are taken, and the tables that it shows.
use Rattle.std.specs.Prelude.{ℕ, ◌+◌, Bool, List, [], ◌∷◌, length, is_ok, Ok, Option, Result}
use Rattle.std.specs.Option.{option_map}
use Rattle.terms.specs.declared.faults.Fault.{Fault}
use Rattle.terms.specs.Cells.{Cell}
use Rattle.terms.specs.Faults.{refused_at}
use Rattle.terms.specs.Tables.{Tables, counting}
use Rattle.sources.specs.declared.head.TableHead.{TableHead}
use Rattle.sources.specs.Heads.{head_verdict, head_table}

-- the heads in order, the first of them at the index `at`: the first refused one decides, and its index is the place
abbrev pub heads_verdict : ℕ → ℕ → List TableHead → Result (Unit {0}) Fault
heads_verdict len at [] = Ok tt
heads_verdict len at (h ∷ hs) = refused_at (head_verdict len h) at (heads_verdict len (at + 1) hs)

-- what a load of these heads over these cells answers
abbrev pub bench_verdict : List TableHead → List Cell → Result (Unit {0}) Fault
bench_verdict heads cells = heads_verdict (length cells) 0 heads

abbrev pub bench_takes : List TableHead → List Cell → Bool
bench_takes heads cells = is_ok (bench_verdict heads cells)

-- the head that counts for a number
abbrev pub head_for : List TableHead → ℕ → Option TableHead
head_for heads n = counting (λ h. h.number) heads n

abbrev pub bench_tables : List TableHead → List Cell → Tables
bench_tables heads cells n = option_map (head_table cells) (head_for heads n)
