use Rattle.std.proofs.Common.{◌≡◌, ◌+◌, ◌*◌, ◌%◌, ◌^◌, ◌<◌, ◌≤◌, length, Ok, Err, filter, sym, refl, ap, ◌∙◌, add-one, arith}
use lib.Seq.{paste}
use Rattle.std.proofs.lemmas.Nat.{mul-le}
use Rattle.std.proofs.lemmas.Result.{err_from_is_err_and}
use Rattle.terms.specs.Tables.{rows_of, columns_of}
use Rattle.meaning.specs.Queries.{tests_true}
use Rattle.meaning.specs.Reading.{readable}
use Rattle.engine.specs.Restricting.{restrict_answer, fetched_until}
use Rattle.engine.specs.Rows.{values}
use Rattle.engine.proofs.Values.{length-values}
use Rattle.engine.proofs.Restricting.{Restricted, shaped, restricted_none, restricted_no, restricted_yes, restricted_count, restricted_stops, restricted_ends, turn_ok, turn_err, row_wide}
use Rattle.engine.proofs.restrict.restrict.Goals as goal
use Rattle.engine.proofs.restrict.restrict.Goals.{then-tests_true, else-tests_true}

pub loop-i-init : goal.loop-i-init
loop-i-init g c = record { tables = refl; meter = omega arith; so = restricted_none _ _ _ _ }

pub returns-in_err-in_block : goal.returns-in_err-in_block
returns-in_err-in_block g c =
    let s = g.S.Source in
    let table = c.args.table in
    let i = c.loop-i.i in
    let s0 = c.args.source.now in
    let rows = rows_of (s.tables s0 table) in
    let inv = c.loop-i.invariant in
    let h : i < length rows = omega (arith, c.requires.count, c.loop-i-test.true) in
    let turn = turn_err (s.tables c.loop-i.source) (s.tables s0) c.args.block table i (s.reads c.loop-i.source) (s.reads s0) inv.tables h inv.meter c.fetch.ensures.answer c.in_block.ensures c.in_err-in_block.was c.fetch.ensures.meter in
    let stop = restricted_stops c.args.extent.width c.args.tests.now rows (values c.loop-i.cells) c.loop-i.kept i inv.so h turn.0 in
    let p = err_from_is_err_and c.from_residual.result c.from_residual.ensures.1 in
    record {
      tables = c.fetch.ensures.tables ∙ inv.tables;
      meter = turn.2 ∙ ap (λ k. (s.reads s0 + k) % 2 ^ 64) (add-one i) ∙ ap (λ o. (s.reads s0 + fetched_until o c.args.extent.rows) % 2 ^ 64) (sym stop);
      answer = rw (p.1, p.2) (ap Err turn.1 ∙ ap (restrict_answer c.args.block table (filter (tests_true c.args.tests.now) (readable rows))) (sym stop));
      few = rw p.1 tt;
      rows = rw p.1 tt;
    }

pub store-requires : goal.store-requires
store-requires g c =
    let s0 = c.args.source.now in
    let is = shaped _ ((g.met.S.Source.formed s0).each_table c.args.table) in
    let w = c.args.extent.width in
    record {
      width = omega (arith, is.six, c.requires.width);
      within = omega (arith, mul-le (c.loop-i.kept + 1) w c.args.extent.rows w (omega (arith, c.loop-i.invariant.so.behind)) (omega arith));
    }

pub loop-i-preserved : goal.loop-i-preserved
loop-i-preserved g c =
    let s = g.S.Source in
    let table = c.args.table in
    let i = c.loop-i.i in
    let s0 = c.args.source.now in
    let tests = c.args.tests.now in
    let width = c.args.extent.width in
    let rows = rows_of (s.tables s0 table) in
    let is = shaped _ ((g.met.S.Source.formed s0).each_table table) in
    let inv = c.loop-i.invariant in
    let h : i < length rows = omega (arith, c.requires.count, c.loop-i-test.true) in
    let turn = turn_ok (s.tables c.loop-i.source) (s.tables s0) c.args.block table i (s.reads c.loop-i.source) (s.reads s0) inv.tables h inv.meter c.fetch.ensures.answer c.in_block.ensures c.in_ok-in_block.was c.fetch.ensures.cells c.fetch.ensures.meter in
    let cs = turn.0 in
    let wide = row_wide rows (columns_of (s.tables s0 table)) i cs is.fit h turn.1.0 ∙ sym c.requires.width in
    let new = c.loop-i.cells in
    let room : length rows * width ≤ length (values new) = rw (length-values, ← c.requires.count) (omega arith) in
    let so : Restricted width tests rows (values c.if-tests_true.cells) c.if-tests_true.kept (i + 1) = elim c.if-tests_true.branch [
      | then-tests_true w ↦ rw w.kept-is (restricted_yes width tests rows (values new) c.loop-i.kept i inv.so cs h turn.1.0 c.fetch.new.place turn.1.1 (w.if-tests_true.ensures.value ∙ ap (tests_true tests) c.widened-row.ensures.value) wide room (ap values w.cells-is ∙ w.store.ensures.cells ∙ ap (λ row. paste (values new) (c.loop-i.kept * width) row width) c.widened-row.ensures.value))
      | else-tests_true w ↦ rw (w.cells-is, w.kept-is) (restricted_no width tests rows (values new) c.loop-i.kept i inv.so cs h turn.1.0 c.fetch.new.place turn.1.1 (w.if-tests_true.ensures.value ∙ ap (tests_true tests) c.widened-row.ensures.value))
    ] in
    record { tables = c.fetch.ensures.tables ∙ inv.tables; meter = turn.1.2; so = so }

pub returns : goal.returns
returns g c =
    let s = g.S.Source in
    let table = c.args.table in
    let i = c.loop-i.i in
    let s0 = c.args.source.now in
    let rows = rows_of (s.tables s0 table) in
    let inv = c.loop-i.invariant in
    let all : i ≡ length rows = omega (arith, c.requires.count) in
    let kept = filter (tests_true c.args.tests.now) (readable rows) in
    let end = restricted_ends c.args.extent.width c.args.tests.now rows (values c.loop-i.cells) c.loop-i.kept i inv.so all in
    let count : c.loop-i.kept ≡ length kept = restricted_count c.args.extent.width c.args.tests.now rows (values c.loop-i.cells) c.loop-i.kept i inv.so ∙ ap length end.1 in
    let same : i ≡ c.args.extent.rows = omega (arith, c.requires.count) in
    record {
      tables = inv.tables;
      meter = inv.meter ∙ ap (λ k. (s.reads s0 + k) % 2 ^ 64) same ∙ ap (λ o. (s.reads s0 + fetched_until o c.args.extent.rows) % 2 ^ 64) (sym end.0);
      answer = ap Ok count ∙ ap (restrict_answer c.args.block table kept) (sym end.0);
      few = omega (arith, inv.so.behind);
      rows = end.1;
    }
