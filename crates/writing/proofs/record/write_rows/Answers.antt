use Rattle.std.proofs.Common.{◌≡◌, ◌+◌, ◌*◌, ◌/◌, ◌<◌, ◌≤◌, [], length, get_or, take, sym, ap, ◌∙◌, suc-mul, arith, rules}
use Rattle.std.proofs.lemmas.Iterator.Consumers.{YieldsList-at, YieldsList-turn, YieldsList-end}
use Rattle.std.proofs.lemmas.List.{length_push, take_all}
use Rattle.std.proofs.lemmas.List.FromFn.{length-enumerate_from}
use Rattle.std.proofs.lemmas.Nat.{mul-le}
use Rattle.std.specs.List.{flat_map}
use Rattle.sources.specs.Heads.{rows_in}
use Rattle.sources.specs.BenchFormed.{length_rows}
use Rattle.writing.specs.Records.{row_bytes}
use Rattle.writing.proofs.Puts.{rows_road, row_at_hand, rows_put}
use Rattle.writing.proofs.record.write_rows.Goals as goal
use Rattle.writing.proofs.record.write_rows.Goals.{In-Some}

-- the row at hand
row_here : (c : In-Some) → (length c.loop-i.yielded < length (rows_in (length c.args.cells.now / c.args.columns) c.args.columns c.args.cells.now)) × (c.in-Some.i ≡ length c.loop-i.yielded) × (c.in-Some.row.now ≡ get_or (rows_in (length c.args.cells.now / c.args.columns) c.args.columns c.args.cells.now) (length c.loop-i.yielded) [])
row_here c =
    let chunks = c.chunks_exact.ensures in
    let numbered = c.enumerate-i-items.ensures in
    let road = YieldsList-at c.into_iter-i-iterator.ensures.into_iter_gives (rows_road c.args.columns c.args.cells.now _ c.enumerate-i-items.result c.requires.low chunks.size chunks.rest numbered.source numbered.count) in
    let turn = YieldsList-turn road c.loop-i.yielded _ c.loop-i.yielded_by _ _ (c.in-Some.i, c.in-Some.row) c.in-Some.is c.next.ensures.steps in
    row_at_hand _ (length c.loop-i.yielded) c.in-Some.i c.in-Some.row.now turn.0 turn.1

-- the end of the row at hand
row_end : (c : In-Some) → (c.in-Some.i + 1) * c.row_width-width.result ≤ length c.args.out.now
row_end c =
    let n = length c.args.cells.now / c.args.columns in
    let h = row_here c in
    let below : c.in-Some.i + 1 ≤ n = omega (arith, rw length_rows at h.0, h.1) in
    omega (arith, c.requires.room, ap (λ w. n * w) c.row_width-width.ensures, mul-le (c.in-Some.i + 1) c.row_width-width.result n c.row_width-width.result below (omega arith))

pub overflow_mul-i-in-loop-i : goal.overflow_mul-i-in-loop-i
overflow_mul-i-in-loop-i c = let e = row_end (goal.at.overflow_mul-i-in-loop-i c).In-Some in search rules

pub slice_bounds-write_row-end : goal.slice_bounds-write_row-end
slice_bounds-write_row-end c = let e = row_end (goal.at.slice_bounds-write_row-end c).In-Some in search rules

pub loop-i-preserved : goal.loop-i-preserved
loop-i-preserved c =
    let i = c.in-Some.i in
    let w = c.row_width-width.result in
    let h = row_here (goal.at.loop-i-preserved c).In-Some in
    let before : i * w ≤ length c.loop-i.out = omega (arith, row_end (goal.at.loop-i-preserved c).In-Some, suc-mul i w) in
    let long : length c.write_row.new.out ≡ w = omega (arith, suc-mul i w) in
    rw (sym c.row_width-width.ensures)
    (rows_put _ c.loop-i.out c.write_row.new.out (length c.loop-i.yielded) i w _ h.0 h.1 before long (c.write_row.ensures ∙ ap row_bytes h.2) (length_push c.loop-i.yielded _) (rw (sym c.row_width-width.ensures) at c.loop-i.invariant))

pub returns : goal.returns
returns c =
    let chunks = c.chunks_exact.ensures in
    let numbered = c.enumerate-i-items.ensures in
    let n = length c.args.cells.now / c.args.columns in
    let rows = rows_in n c.args.columns c.args.cells.now in
    let road = YieldsList-at c.into_iter-i-iterator.ensures.into_iter_gives (rows_road c.args.columns c.args.cells.now _ c.enumerate-i-items.result c.requires.low chunks.size chunks.rest numbered.source numbered.count) in
    let end = YieldsList-end road c.loop-i.yielded _ c.loop-i.yielded_by _ _ c.in-None.is c.next.ensures.steps in
    let all : length c.loop-i.yielded ≡ n = end.1 ∙ length-enumerate_from 0 rows ∙ length_rows n c.args.columns c.args.cells.now in
    let whole : take (length c.loop-i.yielded * (1 + 4 * c.args.columns)) c.loop-i.out ≡ c.loop-i.out = take_all _ _ (rw all (omega (arith, c.requires.room))) in
    sym whole ∙ c.loop-i.invariant ∙ ap (flat_map row_bytes) (take_all (length c.loop-i.yielded) rows (rw (all, length_rows) (omega arith)))
