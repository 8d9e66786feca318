use Rattle.std.proofs.Common.{◌∙◌, ap, refl, rules, tests}
use Rattle.std.proofs.lemmas.Iterator.Consumers.{YieldsList-from_first}
use Rattle.std.proofs.lemmas.Iterator.Search.{find_from_yields_List}
use Rattle.meaning.specs.Rows.{alike}
use Rattle.meaning.specs.Running.{Group, tuple_of}
use Rattle.engine.specs.Rows.{values}
use Rattle.engine.specs.Iterators.{group_of, groups_left}
use Rattle.engine.proofs.Finding.{answer_in, found_answer}
use Rattle.engine.proofs.filter.find_answer.Goals as goal

pub returns : goal.returns
returns c =
    let p = tuple_of c.args.joins.now (values c.args.row.now) in
    let groups = groups_left c.args.groups in
    let found = find_from_yields_List (λ (g : Group). alike p g.tuple) c.find.new.self _ c.find.result c.find.ensures.ran (YieldsList-from_first group_of groups_left groups refl) (λ x b q k. search (rules, tests)) in
    record { value = search rules ∙ ap answer_in found ∙ found_answer p groups }
