-- What aggregates mean.
use Rattle.std.specs.Prelude.{◌≡◌, ℕ, ◌-◌, ◌^◌, min, List, map, length, ℤ, pos, ◌+ℤ◌, Some, None, fold, refl}
use Rattle.std.specs.Int.{int_min, int_max, saturate_to_bits}
use Rattle.terms.specs.Cells.{Cell, Row}
use Rattle.queries.specs.declared.aggregates.Function.{Function}
use Rattle.queries.specs.declared.aggregates.Function.TheVariants.{Count, Sum, Min, Max, House}
use Rattle.queries.specs.declared.aggregates.Aggregate.{Aggregate}
use Rattle.queries.specs.declared.aggregates.Aggregate.TheVariants.{CountRows, Of}
use Rattle.meaning.specs.Rows.{cell}

-- absent, or a number
abbrev pub Answer : Type 0
Answer = Cell

-- an aggregate with a running total of its own make: a start, a step that takes one cell, and an answer
pub record Meaning (Total : Type 0) : Type 0 where
  pub start : Total
  pub step : Total → Cell → Total
  pub answer : Total → Answer
  -- the law: an absent cell changes nothing
  pub absent : (total : Total) → step total None ≡ total

-- the answer after stepping through the cells in order
abbrev pub over : {Total : Type 0} → Meaning Total → List Cell → Answer
over m cells = m.answer (fold m.step m.start cells)

-- sums and counts stop at the ends of the 64-bit range
abbrev pub plus : ℤ → ℤ → ℤ
plus total x = saturate_to_bits 63 (total +ℤ x)

abbrev pub counted : ℤ → Cell → ℤ
counted n None = n
counted n (Some x) = plus n (pos 1)

-- COUNT: the present cells
abbrev pub count : Meaning ℤ
count = record { start = pos 0; step = counted; answer = λ n. Some n; absent = λ n. refl }

abbrev pub combined : (ℤ → ℤ → ℤ) → Cell → Cell → Cell
combined f total None = total
combined f None (Some x) = Some x
combined f (Some a) (Some x) = Some (f a x)

-- the present cells combined one after the other, absent where there is none
abbrev pub combining : (ℤ → ℤ → ℤ) → Meaning Cell
combining f = record { start = None; step = combined f; answer = λ total. total; absent = λ total. refl }

abbrev pub sum : Meaning Cell
sum = combining plus

abbrev pub least : Meaning Cell
least = combining int_min

abbrev pub greatest : Meaning Cell
greatest = combining int_max

-- LAST, a house aggregate: the last present cell
abbrev pub last : Meaning Cell
last = combining (λ total x. x)

-- what a function answers over cells; the house aggregate is any meaning
abbrev pub answered : {Total : Type 0} → Meaning Total → Function → List Cell → Answer
answered house Count cells = over count cells
answered house Sum cells = over sum cells
answered house Min cells = over least cells
answered house Max cells = over greatest cells
answered house House cells = over house cells

-- a number of rows, which stops at the end of the 64-bit range
abbrev pub capped : ℕ → ℕ
capped n = min n (2 ^ 63 - 1)

abbrev pub number_of_rows : ℕ → Answer
number_of_rows n = Some (pos (capped n))

-- an aggregate over rows: COUNT(*) is their number, any other goes by the cells of its column
abbrev pub aggregated : {Total : Type 0} → Meaning Total → Aggregate → List Row → Answer
aggregated house CountRows rows = number_of_rows (length rows)
aggregated house (Of function column) rows = answered house function (map (cell column) rows)
