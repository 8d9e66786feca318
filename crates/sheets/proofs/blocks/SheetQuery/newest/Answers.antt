use Rattle.bounded.specs.Listed.{listed}
use Rattle.sheets.specs.Held.{inner_of}
use Rattle.sheets.proofs.Newest.{latest-map}
use Rattle.sheets.proofs.blocks.SheetQuery.newest.Goals as goal

pub returns : goal.returns
returns c = cc (latest-map inner_of (listed c.args.self.now.inner))
