use Rattle.std.proofs.Common.{◌∙◌, rules, tests}
use Rattle.std.proofs.lemmas.Iterator.{YieldsList-from_slice}
use Rattle.std.proofs.lemmas.Iterator.Search.{all_from_yields_List}
use Rattle.meaning.specs.Queries.{test_true}
use Rattle.engine.specs.Rows.{values}
use Rattle.engine.proofs.Chains.{every_is}
use Rattle.engine.proofs.restrict.tests_true.Goals as goal

pub returns : goal.returns
returns c = record {
  value = all_from_yields_List (λ t. test_true t (values c.args.row.now)) _ _ _ c.all.ensures.ran (YieldsList-from_slice c.args.tests.now cc) (λ x b q k. search (rules, tests)) ∙ every_is _ c.args.tests.now;
}
