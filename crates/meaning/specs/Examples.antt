-- Worked queries over five sites and five picks, from their entries to their rows.
use Rattle.std.specs.Prelude.{◌≡◌, ℕ, cond, List, [], ◌∷◌, map, pos, negsuc, Some, None, Ok, Err, Option, Result, ◌==◌}
use Rattle.std.specs.Option.{option_map}
use Rattle.terms.specs.declared.refusals.Refusal.TheVariants.{OverLimit, NothingSelected, OutOfTurn, OutOfRange, AllByEquality}
use Rattle.terms.specs.Cells.{Cell, Row}
use Rattle.terms.specs.Faults.{on_sheet}
use Rattle.terms.specs.Tables.{Tables}
use Rattle.queries.specs.declared.entries.Entry.{Entry}
use Rattle.queries.specs.declared.entries.Entry.TheVariants.{Open, Test, Link, Nest, Select, Finish}
use Rattle.meaning.specs.Aggregates.{Meaning, combining}
use Rattle.meaning.specs.Queries.{Query, nested, nested_reads}
use Rattle.meaning.specs.Spelling.{fresh, spelled, finished, sheet_answer}
use Rattle.meaning.specs.Plans.{plan}
use Rattle.meaning.specs.Reading.{Stop, contents, ran}

abbrev number : ℕ → Cell
number n = Some (pos n)

abbrev pair : Cell → Cell → Row
pair a b = a ∷ (b ∷ [])

-- site and quota
abbrev sites : List Row
sites = pair (number 4) (number 2) ∷ (pair (number 4) (number 2) ∷ (pair (number 7) (number 1) ∷ (pair (number 9) (number 0) ∷ (pair None (number 0) ∷ []))))

-- site and peak
abbrev picks : List Row
picks = pair (number 4) (number 15) ∷ (pair (number 4) (Some (negsuc 2)) ∷ (pair (number 7) None ∷ (pair (number 7) (number 8) ∷ (pair (number 5) (number 2) ∷ []))))

-- table 1 with these rows and table 2 with those
abbrev two_tables : List Row → List Row → Tables
two_tables one two n =
    cond (n == 1) (Some (record { columns = 2; rows = map Some one })) (cond (n == 2) (Some (record { columns = 2; rows = map Some two })) None)

-- the house aggregate of the examples: the last present cell
abbrev last : Meaning Cell
last = combining (λ a x. x)

pub record Example : Type 0 where
  pub one : List Row
  pub two : List Row
  pub entries : List Entry

-- the output is the site
abbrev asks : List Entry → Example
asks entries = record { one = sites; two = picks; entries = Open 1 ∷ (Select 1 ∷ entries) }

-- a nested test over the picks of the same site: form, operand, comparison, code, inner column
abbrev over_picks : ℕ → ℕ → ℕ → ℕ → ℕ → List Entry
over_picks form operand comparison code inner = Nest form 2 operand comparison code inner ∷ (Link 1 1 1 ∷ (Finish ∷ []))

abbrev by_count : List Entry
by_count = over_picks 1 2 1 1 2

pub record Outcome : Type 0 where
  pub by_iteration : List Row
  pub reads : ℕ
  pub by_plan : Result (List Row × ℕ) Stop

abbrev outcome_of : Tables → Query → Outcome
outcome_of tables q = record { by_iteration = nested (contents tables) last q; reads = nested_reads (contents tables) q; by_plan = ran (plan q) tables last }

abbrev pub outcome : Example → Option Outcome
outcome x = option_map (outcome_of (two_tables x.one x.two)) (finished (spelled x.entries))

abbrev pub examples : List Example
examples =
    -- quota = COUNT(peak)
    asks by_count
    -- quota = COUNT(*): the inner column is not looked at
    ∷ (asks (over_picks 1 2 1 0 99)
    -- EXISTS, NOT EXISTS: no part is looked at
    ∷ (asks (over_picks 3 99 99 99 99)
    ∷ (asks (over_picks 4 0 0 99 0)
    -- quota < MAX(peak)
    ∷ (asks (over_picks 1 2 3 4 2)
    -- quota IN peak, with no link
    ∷ (asks (Nest 2 2 2 0 0 2 ∷ (Finish ∷ []))
    -- quota < SUM(peak) of the sites below
    ∷ (asks (Nest 1 2 2 3 2 2 ∷ (Link 1 3 1 ∷ (Finish ∷ [])))
    -- the first without picks, and without sites
    ∷ (record { one = sites; two = []; entries = Open 1 ∷ (Select 1 ∷ by_count) }
    ∷ (record { one = []; two = picks; entries = Open 1 ∷ (Select 1 ∷ by_count) }
    -- quota <= ALL peak
    ∷ (asks (over_picks 6 2 4 0 2)
    -- quota = COUNT(*) of the picks whose peak = COUNT(*) of the sites with such a quota
    ∷ (asks (Nest 1 2 2 1 0 0 ∷ (Link 1 1 1 ∷ (Nest 1 1 2 1 0 0 ∷ (Link 2 1 2 ∷ (Finish ∷ [])))))
    -- a sheet that was not finished spells no query to run
    ∷ (asks [] ∷ [])))))))))))

abbrev gives : List Cell → ℕ → ℕ → Option Outcome
gives found flat direct =
    let rows : List Row = map (λ c. c ∷ []) found in
    Some (record { by_iteration = rows; reads = direct; by_plan = Ok (rows, flat) })

abbrev pub expected : List (Option Outcome)
expected =
    gives (number 4 ∷ (number 4 ∷ (number 7 ∷ (number 9 ∷ (None ∷ []))))) 10 30
    ∷ (gives (number 4 ∷ (number 4 ∷ (number 9 ∷ (None ∷ [])))) 10 30
    ∷ (gives (number 4 ∷ (number 4 ∷ (number 7 ∷ []))) 10 30
    ∷ (gives (number 9 ∷ (None ∷ [])) 10 30
    ∷ (gives (number 4 ∷ (number 4 ∷ (number 7 ∷ []))) 10 30
    ∷ (gives (number 4 ∷ (number 4 ∷ [])) 10 30
    ∷ (gives (number 7 ∷ (number 9 ∷ [])) 10 30
    ∷ (gives (number 9 ∷ (None ∷ [])) 5 5
    ∷ (gives [] 5 0
    ∷ (gives (number 7 ∷ []) 10 30
    ∷ (gives (number 9 ∷ (None ∷ [])) 15 60
    ∷ (None ∷ [])))))))))))

-- the rows by nested iteration and by the plan, and the reads of both ways
abbrev pub Worked : Type 0
Worked = map outcome examples ≡ expected

-- four blocks, the limit
abbrev four_blocks : List Entry
four_blocks = Open 1 ∷ (Nest 3 2 0 0 0 0 ∷ (Nest 3 2 0 0 0 0 ∷ (Nest 3 2 0 0 0 0 ∷ [])))

-- entries that are declined, and the block that is told
abbrev pub Declined : Type 0
Declined =
    (sheet_answer (spelled four_blocks) (Nest 3 2 0 0 0 0) ≡ Err (on_sheet OverLimit 3))
    × (sheet_answer (spelled (Open 1 ∷ (Nest 3 2 0 0 0 0 ∷ []))) Finish ≡ Err (on_sheet NothingSelected 1))
    × (sheet_answer fresh (Test 9 9 (pos 0)) ≡ Err (on_sheet OutOfTurn 0))
    × (sheet_answer (spelled (Open 1 ∷ [])) (Link 9 1 1) ≡ Err (on_sheet OutOfTurn 0))
    × (sheet_answer (spelled (Open 1 ∷ [])) (Test 1 1 (pos 2147483648)) ≡ Err (on_sheet OutOfRange 0))
    × (sheet_answer (spelled (Open 1 ∷ [])) (Nest 6 2 1 2 0 1) ≡ Err (on_sheet AllByEquality 0))
