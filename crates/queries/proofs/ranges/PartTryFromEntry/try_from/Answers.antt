use Rattle.std.proofs.Common.{rules, ◌≡◌, Some, Err, ap, sym, ◌∙◌}
use Rattle.terms.specs.Faults.{or_out_of_range}
use Rattle.queries.specs.declared.entries.Part.TheVariants.{Nested}
use Rattle.queries.specs.declared.nests.Nest.{Nest}
use Rattle.queries.specs.Entries.{also, read_nest, table_in_range}
use Rattle.queries.proofs.Read.{also_refused, also_read}
use Rattle.queries.proofs.ranges.PartTryFromEntry.try_from.Goals as goal

pub returns-in_err-nest-in-Nest : goal.returns-in_err-nest-in-Nest
returns-in_err-nest-in-Nest c =
    let e = c.in-Nest in
    let refused = c.in_err-nest-in-Nest in
    let same : c.from_residual-in_err-nest-in-Nest.result ≡ Err refused.field-0.0 = search rules in
    same
    ∙ rw e.is (also_refused (read_nest e.form e.operand e.comparison e.code e.inner) _ _ (sym c.read_nest.ensures ∙ refused.was))

pub returns-in_err-table-in-Nest : goal.returns-in_err-table-in-Nest
returns-in_err-table-in-Nest c =
    let e = c.in-Nest in
    let refused = c.in_err-table-in-Nest in
    let same : c.from_residual-in_err-table-in-Nest.result ≡ Err refused.field-0.0 = search rules in
    let later = λ (n : Nest). also (table_in_range e.table) (λ t. Some (Nested n t)) in
    let first = also_read (read_nest e.form e.operand e.comparison e.code e.inner) later _ (sym c.read_nest.ensures ∙ c.in_ok-nest-in-Nest.was) in
    let second = also_refused (table_in_range e.table) (λ t. Some (Nested c.in_ok-nest-in-Nest.nest t)) _ (sym c.table_in_range-in-Nest.ensures ∙ refused.was) in
    same ∙ rw e.is (second ∙ ap or_out_of_range first)

pub returns-in_ok-table-in-Nest : goal.returns-in_ok-table-in-Nest
returns-in_ok-table-in-Nest c =
    let e = c.in-Nest in
    let later = λ (n : Nest). also (table_in_range e.table) (λ t. Some (Nested n t)) in
    let first = also_read (read_nest e.form e.operand e.comparison e.code e.inner) later _ (sym c.read_nest.ensures ∙ c.in_ok-nest-in-Nest.was) in
    let second = also_read (table_in_range e.table) (λ t. Some (Nested c.in_ok-nest-in-Nest.nest t)) _ (sym c.table_in_range-in-Nest.ensures ∙ c.in_ok-table-in-Nest.was) in
    rw e.is (ap or_out_of_range (second ∙ first))
