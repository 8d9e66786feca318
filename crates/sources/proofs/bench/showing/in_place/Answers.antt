use Rattle.std.proofs.Common.{◌++◌, length, drop, replicate, None, ap, ◌∙◌}
use Rattle.std.proofs.lemmas.List.{drop-replicate}
use Rattle.sources.proofs.bench.showing.in_place.Goals as goal

pub returns : goal.returns
returns c =
    let row = c.args.row.now in
    ap (λ cells. cells ++ drop (length row) (replicate 6 None)) c.copy_from_slice.ensures.after
    ∙ ap (λ rest. row ++ rest) (drop-replicate (length row) 6 None)
