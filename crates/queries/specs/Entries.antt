-- What an entry stands for, where every number that it uses is in range.
use Rattle.std.specs.Prelude.{ℕ, cond, ℤ, Some, None, Option, ◌==◌}
use Rattle.std.specs.Option.{option_map}
use Rattle.terms.specs.Cells.{in_range}
use Rattle.terms.specs.declared.comparisons.Comparison.{Comparison}
use Rattle.terms.specs.Comparisons.{comparison_numbered}
use Rattle.terms.specs.Tables.{is_table, is_column}
use Rattle.queries.specs.declared.aggregates.Aggregate.{Aggregate}
use Rattle.queries.specs.declared.aggregates.Aggregate.TheVariants.{CountRows, Of}
use Rattle.queries.specs.declared.entries.Entry.{Entry}
use Rattle.queries.specs.declared.entries.Entry.TheVariants as entry
use Rattle.queries.specs.declared.entries.Part.{Part}
use Rattle.queries.specs.declared.entries.Part.TheVariants.{Outermost, Tested, Linked, Nested, Selected, Finished}
use Rattle.queries.specs.declared.nests.Form.{Form}
use Rattle.queries.specs.declared.nests.Form.TheVariants as form
use Rattle.queries.specs.declared.nests.Nest.{Nest}
use Rattle.queries.specs.declared.nests.Nest.TheVariants as nest
use Rattle.queries.specs.declared.parts.Link.{Link}
use Rattle.queries.specs.declared.parts.Test.{Test}
use Rattle.queries.specs.Codes.{function_numbered, form_numbered}

-- a part in range, and then the next one
abbrev pub also : {A B : Type 0} → Option A → (A → Option B) → Option B
also None next = None
also (Some x) next = next x

abbrev pub table_in_range : ℕ → Option ℕ
table_in_range n = cond (is_table n) (Some n) None

abbrev pub column_in_range : ℕ → Option ℕ
column_in_range n = cond (is_column n) (Some n) None

abbrev pub constant_in_range : ℤ → Option ℤ
constant_in_range z = cond (in_range z) (Some z) None

abbrev pub read_test : ℕ → ℕ → ℤ → Option Test
read_test column comparison constant =
    also (column_in_range column) (λ k. also (comparison_numbered comparison) (λ c. also (constant_in_range constant) (λ z.
    Some (record { column = k; comparison = c; constant = z }))))

abbrev pub read_link : ℕ → ℕ → ℕ → Option Link
read_link column comparison parent =
    also (column_in_range column) (λ k. also (comparison_numbered comparison) (λ c. also (column_in_range parent) (λ p.
    Some (record { column = k; comparison = c; parent = p }))))

-- COUNT(*) has no inner column
abbrev pub read_aggregate : ℕ → ℕ → Option Aggregate
read_aggregate code inner =
    cond (code == 0) (Some CountRows) (also (function_numbered code) (λ f. also (column_in_range inner) (λ k. Some (Of f k))))

-- a column of the parent, and how it is compared
abbrev pub read_compared : ℕ → ℕ → Option (ℕ × Comparison)
read_compared operand comparison = also (column_in_range operand) (λ o. also (comparison_numbered comparison) (λ c. Some (o, c)))

-- the same, and a column of the inner block
abbrev pub read_quantified : ℕ → ℕ → ℕ → Option (ℕ × Comparison × ℕ)
read_quantified operand comparison inner =
    also (column_in_range operand) (λ o. also (comparison_numbered comparison) (λ c. also (column_in_range inner) (λ k. Some (o, c, k))))

abbrev pub read_aggregated : ℕ → ℕ → ℕ → ℕ → Option Nest
read_aggregated operand comparison code inner =
    also (read_compared operand comparison) (λ p. also (read_aggregate code inner) (λ a. Some (nest.Aggregated p.0 p.1 a)))

abbrev pub read_in : ℕ → ℕ → Option Nest
read_in operand inner = also (column_in_range operand) (λ o. also (column_in_range inner) (λ k. Some (nest.In o k)))

abbrev pub read_any : ℕ → ℕ → ℕ → Option Nest
read_any operand comparison inner = option_map (λ p. nest.Any p.0 p.1 p.2) (read_quantified operand comparison inner)

abbrev pub read_all : ℕ → ℕ → ℕ → Option Nest
read_all operand comparison inner = option_map (λ p. nest.All p.0 p.1 p.2) (read_quantified operand comparison inner)

-- each form looks at its own parts alone
abbrev pub read_form : Form → ℕ → ℕ → ℕ → ℕ → Option Nest
read_form form.Aggregated operand comparison code inner = read_aggregated operand comparison code inner
read_form form.In operand comparison code inner = read_in operand inner
read_form form.Exists operand comparison code inner = Some nest.Exists
read_form form.NotExists operand comparison code inner = Some nest.NotExists
read_form form.Any operand comparison code inner = read_any operand comparison inner
read_form form.All operand comparison code inner = read_all operand comparison inner

abbrev pub read_nest : ℕ → ℕ → ℕ → ℕ → ℕ → Option Nest
read_nest number operand comparison code inner = also (form_numbered number) (λ f. read_form f operand comparison code inner)

abbrev pub read : Entry → Option Part
read (entry.Open table) = also (table_in_range table) (λ t. Some (Outermost t))
read (entry.Test column comparison constant) = also (read_test column comparison constant) (λ t. Some (Tested t))
read (entry.Link column comparison parent) = also (read_link column comparison parent) (λ l. Some (Linked l))
read (entry.Nest form table operand comparison code inner) =
    also (read_nest form operand comparison code inner) (λ n. also (table_in_range table) (λ t. Some (Nested n t)))
read (entry.Select column) = also (column_in_range column) (λ k. Some (Selected k))
read entry.Finish = Some Finished
