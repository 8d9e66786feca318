use Rattle.std.proofs.Common.{◌≡◌, cond, Ok, Err, ap, ◌∙◌, sym, rules, tests, arith}
use Rattle.std.proofs.lemmas.Iterator.Search.{all_from_yields_List}
use Rattle.std.specs.List.{list_all}
use Rattle.terms.specs.declared.refusals.Refusal.TheVariants.{BadRow}
use Rattle.cards.specs.Format.{row_right}
use Rattle.cards.specs.Verdicts.{rows_verdict}
use Rattle.cards.proofs.Chunks.{chunks_left, yields_chunks, rows_verdict_is}
use Rattle.cards.proofs.card.loading.check_rows.Goals as goal
use Rattle.cards.proofs.card.loading.check_rows.Goals.{After-all}

verdict : (c : After-all) → cond c.all.result (Ok tt) (Err BadRow) ≡ rows_verdict c.args.columns c.args.rows.now
verdict c =
    let s = c.chunks_exact.result in
    let rest = c.chunks_exact.ensures.rest in
    let size = c.chunks_exact.ensures.size in
    let w = c.row_width-width.result in
    let all : c.all.result ≡ list_all (row_right c.args.columns) (chunks_left s) =
    all_from_yields_List (row_right c.args.columns) _ _ _ c.all.ensures.ran (yields_chunks s (rw size (omega (arith, c.row_width-width.ensures)))) (λ x b q k. search (rules, tests)) in
    rows_verdict_is c.args.columns w c.args.rows.now c.all.result c.row_width-width.ensures c.if-rows-width-ne0.false c.if-rows-width-gt-MAX_ROWS.false (rw (size, rest) at all)

pub returns-then-all : goal.returns-then-all
returns-then-all c = ap (λ r. cond r (Ok tt) (Err BadRow)) (sym c.if-all.true) ∙ verdict (goal.at.returns-then-all c).After-all

pub returns-else-all : goal.returns-else-all
returns-else-all c = ap (λ r. cond r (Ok tt) (Err BadRow)) (sym c.if-all.false) ∙ verdict (goal.at.returns-else-all c).After-all
