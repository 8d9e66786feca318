use Rattle.std.proofs.Common.{◌∙◌, rules, tests}
use Rattle.std.proofs.lemmas.Iterator.{YieldsList-from_slice, YieldsList-from_zip}
use Rattle.std.proofs.lemmas.Iterator.Search.{all_from_yields_List}
use Rattle.terms.specs.declared.cells.WorkCell.{WorkCell}
use Rattle.queries.specs.declared.parts.Link.{Link}
use Rattle.meaning.specs.Running.{join_true}
use Rattle.engine.specs.Rows.{values}
use Rattle.engine.proofs.Chains.{joins_true_is}
use Rattle.engine.proofs.group.joins_true.Goals as goal

pub returns : goal.returns
returns c =
    let joins = c.args.joins.now in
    let tuple = c.args.tuple.now in
    let row = values c.args.row.now in
    record {
      value = all_from_yields_List (λ (p : Link × WorkCell). join_true row p.0 p.1.value) c.all.new.self _ _ c.all.ensures.ran (YieldsList-from_zip (YieldsList-from_slice joins cc) (YieldsList-from_slice tuple cc)) (λ x b q k. search (rules, tests)) ∙ joins_true_is joins tuple row c.requires.tuple;
    }
