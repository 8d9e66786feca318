use Rattle.sources.proofs.HeadRows.{row_found, row_not_found}
use Rattle.sources.proofs.bench.Bench.find_row.Goals as goal

pub returns-then-row-head-clause-row : goal.returns-then-row-head-clause-row
returns-then-row-head-clause-row c =
    row_not_found c.args.self.now.heads.now c.args.self.now.cells.now c.args.table _ c.args.row c.in_ok-head.ensures.head c.if-row-head.true

pub returns-clause-row : goal.returns-clause-row
returns-clause-row c = row_found c.args.self.now.heads.now c.args.self.now.cells.now c.args.table _ c.args.row c.in_ok-head.ensures.head c.if-row-head.false
