use Rattle.std.proofs.Common.{None, sym, ◌∙◌, arith}
use Rattle.std.proofs.lemmas.List.{get_or-map, length-map}
use Rattle.queries.specs.declared.parts.Link.{Link}
use Rattle.meaning.specs.Rows.{cell}
use Rattle.meaning.specs.Running.{tuple_of}
use Rattle.engine.specs.Rows.{values}
use Rattle.engine.proofs.Values.{stored_more}
use Rattle.engine.proofs.project.store_tuple.Goals as goal

pub loop-i-preserved : goal.loop-i-preserved
loop-i-preserved c =
    let joins = c.args.joins.now in
    let row = values c.args.row.now in
    let cell = get_or-map (λ (l : Link). cell l.parent row) joins c.loop-i.i _ None c.loop-i-test.true in
    stored_more c.args.keys.now c.loop-i.keys c.args.at c.loop-i.i (tuple_of joins row) _ c.loop-i.invariant (omega arith) (rw length-map c.loop-i-test.true) (cell ∙ sym c.cell_at.ensures.value)
