use Rattle.std.proofs.Common.{◌≡◌, length, None, ◌∙◌, arith, rules}
use Rattle.std.proofs.lemmas.List.{ext_get_or}
use Rattle.engine.specs.Rows.{values}
use Rattle.engine.proofs.Values.{length-values, values_at, absent}
use Rattle.engine.proofs.restrict.widened.Goals as goal

pub returns : goal.returns
returns c =
    let wide = c.map.result in
    let all = c.map.ensures.items in
    let long : length (values wide) ≡ length c.args.row.now = rw length-values (omega (arith, all.long)) in
    record {
      value = ext_get_or None (values wide) c.args.row.now long (λ i h. let it = (all.at i None absent (omega (arith, long))).2 in values_at wide i (rw (← length-values wide) h) ∙ search rules);
    }
