use Rattle.std.proofs.Common.{◌<◌}
use Rattle.cards.specs.Verdicts.{row_count}
use Rattle.cards.specs.Views.{as_raw}
use Rattle.cards.proofs.Found.{row_here, row_past}
use Rattle.cards.proofs.card.Card.find_row.Goals as goal

pub returns-then-row-row_count : goal.returns-then-row-row_count
returns-then-row-row_count c =
    row_past c.args.self.now.image.now c.args.number (as_raw c.in_ok-table.table) c.args.row c.in_ok-table.ensures.table (rw c.row_count.ensures at c.if-row-row_count.true)

pub returns : goal.returns
returns c =
    let t = as_raw c.in_ok-table.table in
    let below : c.args.row < row_count t.columns t.bytes = rw c.row_count.ensures at c.if-row-row_count.false in
    row_here c.args.self.now.image.now c.args.number t c.args.row c.row_width-width.result c.in_ok-table.ensures.table c.row_width-width.ensures below
