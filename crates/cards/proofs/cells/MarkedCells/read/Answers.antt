use Rattle.std.proofs.Common.{◌≡◌, ◌%◌, ◌/◌, ◌^◌, ◌<◌, ◌≤◌, cond, eqb, length, get_or, set, Some, None, sym, ap, ◌∙◌, arith, w32, to_z}
use Rattle.std.proofs.lemmas.List.{take_all}
use Rattle.sources.specs.Answers.{six_cells}
use Rattle.cards.specs.Format.{cells_of}
use Rattle.cards.specs.CardFormed.{length_cells}
use Rattle.cards.proofs.CellSteps.{by_bit, nth_cell, six_more, word_at}
use Rattle.cards.proofs.cells.MarkedCells.read.Goals as goal

pub loop-i-preserved : goal.loop-i-preserved
loop-i-preserved c =
    let i = c.loop-i.i in
    let bs = c.args.self.bytes.now in
    let row = cells_of c.args.self.columns c.args.self.mark bs in
    let below : i < c.args.self.columns = omega (arith, c.as_chunks.ensures.front_len) in
    let word = word_at (length bs / 4) c.as_chunks.result.0.now bs i c.as_chunks.ensures.front (omega (arith, c.as_chunks.ensures.front_len)) in
    let cell : c.read_cell.result ≡ get_or row i None =
    c.read_cell.ensures ∙ by_bit (eqb (c.args.self.mark / 2 ^ i % 2) 0) c.is_absent.result _ c.is_absent.ensures ∙ ap (λ w. cond (eqb (c.args.self.mark / 2 ^ i % 2) 0) (Some (to_z w32 w)) None) word ∙ sym (nth_cell c.args.self.columns c.args.self.mark bs i below) in
    ap (λ x. set c.loop-i.cells i x) cell ∙ ap (λ l. set l i (get_or row i None)) c.loop-i.invariant ∙ six_more row i (rw length_cells below) (rw length_cells c.args.self.few)

pub returns : goal.returns
returns c =
    let all : c.args.self.columns ≤ c.loop-i.i = omega (arith, c.as_chunks.ensures.front_len) in
    c.loop-i.invariant ∙ ap six_cells (take_all c.loop-i.i (cells_of c.args.self.columns c.args.self.mark c.args.self.bytes.now) (rw length_cells all))
