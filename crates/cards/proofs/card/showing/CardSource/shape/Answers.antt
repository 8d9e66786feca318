use Rattle.std.proofs.Common.{Some, sym, ap, ◌∙◌}
use Rattle.std.specs.Option.{option_map}
use Rattle.sources.specs.Answers.{shape_of}
use Rattle.cards.specs.CardTables.{shown}
use Rattle.cards.specs.CardFormed.{length_rows}
use Rattle.cards.specs.Views.{as_raw}
use Rattle.cards.proofs.card.showing.CardSource.shape.Goals as goal

pub returns-clause-value : goal.returns-clause-value
returns-clause-value c =
    let t = as_raw c.in_ok-found.found in
    ap (λ n. Some (record { columns = t.columns; rows = n })) (c.row_count.ensures ∙ sym (length_rows _ t.columns t.bytes)) ∙ ap (λ o. shape_of (option_map shown o)) c.in_ok-found.ensures.table
