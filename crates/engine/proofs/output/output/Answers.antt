use Rattle.std.proofs.Common.{◌≡◌, ℕ, ◌+◌, ◌<◌, ◌^◌, length, inl, arith, rules}
use Rattle.std.specs.Iterator.Adapters.{enumerate_source, enumerate_count}
use Rattle.std.proofs.lemmas.List.{length-map}
use Rattle.meaning.specs.Rows.{cell, cells}
use Rattle.engine.specs.Rows.{values}
use Rattle.engine.specs.Iterators.{table_row_of, table_rows_left}
use Rattle.engine.proofs.RowsIn.{length_rows}
use Rattle.engine.proofs.Writing.{written_none, room_more, written_more}
use Rattle.engine.proofs.output.output.Goals as goal

pub loop-i-init-derived : goal.loop-i-init-derived
loop-i-init-derived c =
    let fits : c.args.rows.rows.count < 2 ^ 64 = search rules in
    let source : enumerate_source c.into_iter-i-iterator.result ≡ c.args.rows = cc in
    let first : enumerate_count c.into_iter-i-iterator.result ≡ 0 = cc in
    let few : enumerate_count c.into_iter-i-iterator.result + length (table_rows_left (enumerate_source c.into_iter-i-iterator.result)) < 2 ^ 64 = rw (source, first) (omega (arith, length_rows c.args.rows.rows.count c.args.rows.rows.width (values c.args.rows.rows.cells.now))) in
    ((tt, tt, inl few), tt)

pub loop-i-init : goal.loop-i-init
loop-i-init c =
    let source : enumerate_source c.into_iter-i-iterator.result ≡ c.args.rows = cc in
    let first : enumerate_count c.into_iter-i-iterator.result ≡ 0 = cc in
    rw (source, first) (written_none _ _ _ _ _ (length_rows _ _ _))

pub loop-i-preserved : goal.loop-i-preserved
loop-i-preserved c =
    let outs = c.args.outputs.now in
    let row = table_row_of c.in-Some.row in
    let s = c.in-Some.ensures.steps in
    let so = c.loop-i.invariant in
    let room = room_more (cells outs) (length outs) (table_rows_left c.args.rows) c.args.rows.rows.count c.args.res.now so row (table_rows_left (enumerate_source c.next.new.self)) s.0 _ c.requires.room in
    rw s.2 (written_more (cells outs) (length outs) (table_rows_left c.args.rows) c.args.rows.rows.count c.args.res.now so row (table_rows_left (enumerate_source c.next.new.self)) s.0
    (rw s.1 at c.write_row.ensures.cells) (length-map outs (λ (k : ℕ). cell k row)) (omega arith))
