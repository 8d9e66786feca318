use Rattle.std.proofs.Common.{◌≡◌, ◌+◌, ◌-◌, take, drop, ap, ◌∙◌, arith, length-drop, length-take}
use Rattle.engine.specs.Rows.{values}
use Rattle.engine.proofs.Values.{values_part}
use Rattle.engine.proofs.rows.part.Goals as goal

pub returns : goal.returns
returns c =
    let at = c.args.at in
    let len = c.args.len in
    let e : at + len - at ≡ len = omega arith in
    record {
      value = ap (λ n. values (take n (drop at c.args.cells.now))) e ∙ values_part at len c.args.cells.now;
      len = simp (length-take, length-drop) (omega arith);
    }
