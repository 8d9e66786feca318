use Rattle.std.proofs.Common.{◌≡◌, rules}
use Rattle.std.proofs.lemmas.Iterator.{YieldsList-from_slice, YieldsList-from_map}
use Rattle.std.proofs.lemmas.Iterator.Consumers.{YieldsList-at}
use Rattle.queries.specs.declared.parts.Link.{Link}
use Rattle.meaning.specs.Rows.{cell}
use Rattle.engine.specs.Rows.{value_of, values}
use Rattle.engine.proofs.Chains.{alike_from_yields, same_is}
use Rattle.engine.proofs.project.same_tuple.Goals as goal

pub returns : goal.returns
returns c =
    let row = values c.args.row.now in
    record {
      value = alike_from_yields (λ x y. y ≡ x) c.map-2.result c.eq.result c.eq.ensures.ran
          (YieldsList-from_map _ (λ (j : Link). cell j.parent row) (YieldsList-from_slice c.args.joins.now cc) c.map.ensures.closure (λ x r q k. search rules))
          (λ it is. YieldsList-at is (YieldsList-from_map _ value_of (YieldsList-from_slice c.args.tuple.now cc) c.map-2.ensures.closure (λ x r q k. search rules)))
          same_is;
    }
