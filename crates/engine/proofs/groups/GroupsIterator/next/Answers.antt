use Rattle.std.proofs.Common.{arith}
use Rattle.engine.specs.Iterators.{groups_left}
use Rattle.engine.proofs.Iterating.{one_fewer, groups_next}
use Rattle.engine.proofs.groups.GroupsIterator.next.Goals as goal

pub returns-clause-steps : goal.returns-clause-steps
returns-clause-steps c =
    let s = c.args.self.now in
    groups_next s.count c.in_ok-count.count s.tuple_len s.keys.now c.split_at.result.0.now c.split_at.result.1.now (omega arith) c.split_at.ensures.front c.split_at.ensures.back (omega arith)

pub returns-clause-goes : goal.returns-clause-goes
returns-clause-goes c =
    let s = c.args.self.now in
    one_fewer groups_left s _ _ _
    (groups_next s.count c.in_ok-count.count s.tuple_len s.keys.now c.split_at.result.0.now c.split_at.result.1.now (omega arith) c.split_at.ensures.front c.split_at.ensures.back (omega arith))
