use Rattle.std.proofs.Common.{◌≡◌, ◌∙◌, eqb, rules, tests}
use Rattle.std.proofs.lemmas.Iterator.{YieldsList-from_slice}
use Rattle.std.proofs.lemmas.Iterator.Search.{find_from_yields_List}
use Rattle.sources.specs.Benches.{head_for}
use Rattle.sources.proofs.Finds.{find_head_for, sound_found}
use Rattle.sources.proofs.bench.Bench.find_head.Goals as goal

pub returns : goal.returns
returns c =
    let n = c.args.number in
    let bench = c.args.self.now in
    let found : c.copied.result ≡ head_for bench.heads.now n =
    c.copied.ensures
    ∙ find_from_yields_List (λ h. eqb h.number n) _ _ c.find.result c.find.ensures.ran (YieldsList-from_slice bench.heads.now cc) (λ x b q k. search (rules, tests))
    ∙ find_head_for bench.heads.now n in
    record { head = found; sound = sound_found bench n c.copied.result found }
