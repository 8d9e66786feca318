use Rattle.std.proofs.Common.{◌<◌, is_ok, length, sym}
use Rattle.bounded.specs.Listed.{listed}
use Rattle.meaning.specs.Spelling.{with_test}
use Rattle.sheets.specs.Held.{query_of}
use Rattle.sheets.proofs.Newest.{newest_changed, pushed, test_newest, test_outermost}
use Rattle.sheets.proofs.blocks.SheetQuery.add_test.Goals as goal

pub returns-in-Some : goal.returns-in-Some
returns-in-Some c =
    let q = query_of c.args.self.now in
    let changed = newest_changed (with_test c.args.test) (listed c.args.self.now.inner) (listed c.set_last.new.self) c.in-Some.block _ c.in-Some.ensures c.add_test.ensures c.set_last.ensures in
    rw changed (sym (test_newest c.args.test q q.inner _ c.in-Some.ensures))

pub returns-in-None : goal.returns-in-None
returns-in-None c =
    let q = query_of c.args.self.now in
    let room : length q.tests < 6 = rw (sym c.in-None.ensures) at c.requires in
    let tests = pushed q.tests (listed c.push.new.self) c.args.test (is_ok c.push.result) 6 c.push.ensures.room c.push.ensures.items room in
    rw tests (sym (test_outermost c.args.test q q.inner c.in-None.ensures))
