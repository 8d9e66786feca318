use Rattle.std.proofs.Common.{ap, ◌∙◌, rules, tests}
use Rattle.std.proofs.lemmas.Iterator.Consumers.{YieldsList-from_filter, YieldsList-from_first, fold_from_yields_List}
use Rattle.meaning.specs.Running.{brought, joins_true}
use Rattle.engine.specs.Rows.{values}
use Rattle.engine.specs.Iterators.{table_row_of, table_rows_left}
use Rattle.engine.proofs.Grouping.{stepped}
use Rattle.engine.proofs.group.group_one.Goals as goal

pub returns : goal.returns
returns g c =
    let m = g.A.AggregateFunction.meaning in
    let joins = c.args.joins.now in
    let tuple = values c.args.tuple.now in
    let rows = table_rows_left c.args.rows in
    let total = fold_from_yields_List _ (λ t row. m.step t (brought c.args.aggregate row)) c.start.result c.fold-total.result c.fold-total.ensures.ran
    (YieldsList-from_filter _ (joins_true joins tuple) (YieldsList-from_first table_row_of table_rows_left rows (cc)) c.filter.ensures.closure (λ x b q k. search (rules, tests)))
    (λ a x b q k. search rules) in
    record { value = c.answer.ensures ∙ ap m.answer (total ∙ stepped m joins c.args.aggregate tuple rows c.start.ensures) }
