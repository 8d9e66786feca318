use Rattle.std.proofs.Common.{◌≡◌, ap, ◌∙◌, rules, tests}
use Rattle.std.specs.Option.{option_map}
use Rattle.cards.specs.CardTables.{table_in, tables_in, table_for, raw_table}
use Rattle.cards.specs.Views.{as_record, as_raw, records_left}
use Rattle.cards.proofs.Search.{found_by, first_table}
use Rattle.cards.proofs.Found.{sound_found}
use Rattle.cards.proofs.card.Card.find_table.Goals as goal

pub returns : goal.returns
returns c =
    let n = c.args.number in
    let image = c.args.self.now.image.now in
    let table : option_map as_raw c.find_map.result ≡ raw_table image n =
    found_by as_record records_left _ _ as_raw (λ r. table_for (table_in r.bytes r.kind r.payload) n) (λ x r q k. search (rules, tests)) c.of.result c.find_map.new.self c.find_map.result c.find_map.ensures.ran c.find_map.ensures.runs
    ∙ first_table n (records_left c.of.result)
    ∙ ap (λ rs. table_for (tables_in rs) n) c.of.ensures in
    record { table = table; sound = sound_found image n c.find_map.result c.args.self.now.passed table }
