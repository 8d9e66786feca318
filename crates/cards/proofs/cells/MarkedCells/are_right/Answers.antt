use Rattle.std.proofs.Common.{◌≡◌, ◌/◌, ◌^◌, ◌&&◌, eqb, length, sym, ap, ◌∙◌, arith, rules, tests}
use Rattle.std.proofs.lemmas.Iterator.{YieldsList-from_slice}
use Rattle.std.proofs.lemmas.Iterator.Consumers.{YieldsList-at, YieldsList-from_enumerate}
use Rattle.std.proofs.lemmas.Iterator.Search.{all_from_yields_List}
use Rattle.std.specs.List.{list_all, enumerate_from}
use Rattle.std.specs.Simd.{first_chunks}
use Rattle.cards.specs.Format.{cells_right}
use Rattle.cards.proofs.CellSteps.{cell_passes, all_pass}
use Rattle.cards.proofs.cells.MarkedCells.are_right.Goals as goal
use Rattle.cards.proofs.cells.MarkedCells.are_right.Goals.{After-all-all}

all_right : (c : After-all-all) → (c.all-all.result && eqb (c.args.self.mark / 2 ^ c.args.self.columns) 0) ≡ cells_right c.args.self.columns c.args.self.mark c.args.self.bytes.now
all_right c =
    let words = c.as_chunks.result.0.now in
    let road = YieldsList-from_enumerate (YieldsList-at c.enumerate.ensures.source (YieldsList-from_slice words c.iter.ensures.rest)) c.enumerate.ensures.count in
    let all : c.all-all.result ≡ list_all (cell_passes c.args.self.mark) (enumerate_from 0 words) = all_from_yields_List (cell_passes c.args.self.mark) _ _ _ c.all-all.ensures.ran road (λ x b q k. search (rules, tests)) in
    let front = c.as_chunks.ensures.front in
    let count : length c.args.self.bytes.now / 4 ≡ c.args.self.columns = omega (arith, c.args.self.long) in
    ap (λ b. b && eqb (c.args.self.mark / 2 ^ c.args.self.columns) 0) (all ∙ ap (λ ws. list_all (cell_passes c.args.self.mark) (enumerate_from 0 ws)) (front ∙ ap (λ n. first_chunks 4 n c.args.self.bytes.now) count))
    ∙ all_pass c.args.self.columns c.args.self.mark c.args.self.bytes.now

pub returns-then-all : goal.returns-then-all
returns-then-all c = ap (λ b. b && eqb (c.args.self.mark / 2 ^ c.args.self.columns) 0) (sym c.if-all.true) ∙ all_right (goal.at.returns-then-all c).After-all-all

pub returns-else-all : goal.returns-else-all
returns-else-all c = c.if-all.false ∙ ap (λ b. b && eqb (c.args.self.mark / 2 ^ c.args.self.columns) 0) (sym c.if-all.false) ∙ all_right (goal.at.returns-else-all c).After-all-all
