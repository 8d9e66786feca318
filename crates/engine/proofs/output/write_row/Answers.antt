use Rattle.std.proofs.Common.{ℕ, ◌+◌, set, None, sym, ◌∙◌, ap₂, arith}
use Rattle.std.proofs.lemmas.List.{get_or-map, length-map}
use Rattle.std.proofs.lemmas.List.Edits.{paste_more}
use Rattle.meaning.specs.Rows.{cell, cells}
use Rattle.engine.specs.Iterators.{table_row_of}
use Rattle.engine.proofs.output.write_row.Goals as goal

pub loop-i-preserved : goal.loop-i-preserved
loop-i-preserved c =
    let outputs = c.args.outputs.now in
    let row = table_row_of c.args.row in
    let i = c.loop-i.i in
    let is = get_or-map (λ (k : ℕ). cell k row) outputs i 0 None c.loop-i-test.true in
    ap₂ (λ v x. set v (c.args.at + i) x) c.loop-i.invariant (c.cell.ensures ∙ sym is)
    ∙ paste_more c.args.res.now c.args.at (cells outputs row) i None (omega arith) (rw length-map c.loop-i-test.true)
