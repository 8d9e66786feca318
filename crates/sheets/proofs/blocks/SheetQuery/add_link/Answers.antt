use Rattle.bounded.specs.Listed.{listed}
use Rattle.meaning.specs.Spelling.{with_link}
use Rattle.sheets.specs.Held.{query_of}
use Rattle.sheets.proofs.Newest.{newest_changed, revised_none}
use Rattle.sheets.proofs.blocks.SheetQuery.add_link.Goals as goal

pub returns-in-Some : goal.returns-in-Some
returns-in-Some c =
    cc (newest_changed (with_link c.args.link) (listed c.args.self.now.inner) (listed c.set_last.new.self) c.in-Some.block _ c.in-Some.ensures c.add_link.ensures c.set_last.ensures)

pub returns-in_default : goal.returns-in_default
returns-in_default c = cc (revised_none (with_link c.args.link) (query_of c.args.self.now).inner c.in_default.ensures)
