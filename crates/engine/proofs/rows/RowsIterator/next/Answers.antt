use Rattle.std.proofs.Common.{arith}
use Rattle.engine.specs.Iterators.{rows_left}
use Rattle.engine.proofs.Iterating.{one_fewer, rows_next}
use Rattle.engine.proofs.rows.RowsIterator.next.Goals as goal

pub returns-clause-steps : goal.returns-clause-steps
returns-clause-steps c = let s = c.args.self.now in rows_next s.count c.in_ok-count.count s.width s.cells.now c.split_at.result.0.now c.split_at.result.1.now (omega arith) c.split_at.ensures.front c.split_at.ensures.back

pub returns-clause-goes : goal.returns-clause-goes
returns-clause-goes c =
    let s = c.args.self.now in
    one_fewer rows_left s _ _ _ (rows_next s.count c.in_ok-count.count s.width s.cells.now c.split_at.result.0.now c.split_at.result.1.now (omega arith) c.split_at.ensures.front c.split_at.ensures.back)
