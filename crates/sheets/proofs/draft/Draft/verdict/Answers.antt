use Rattle.std.proofs.Common.{rules, ◌≡◌, true, Err, sym, ap, ◌∙◌}
use Rattle.terms.proofs.Ranges.{found_in_range, found_out_of_range}
use Rattle.queries.specs.Entries.{read}
use Rattle.meaning.specs.Spelling.{in_turn, verdict_on}
use Rattle.sheets.specs.Drafts.{draft_of}
use Rattle.sheets.proofs.Verdicts.{verdict_in_turn}
use Rattle.sheets.proofs.draft.Draft.verdict.Goals as goal

pub returns-in_err-try_from : goal.returns-in_err-try_from
returns-in_err-try_from c =
    let s = draft_of c.args.self.now in
    let turn : in_turn s c.args.entry ≡ true = search rules in
    let same : c.from_residual.result ≡ Err c.in_err-try_from.field-0.0 = search rules in
    let out = found_out_of_range (read c.args.entry) _ (sym c.try_from.ensures ∙ c.in_err-try_from.was) in
    same ∙ ap Err out.1 ∙ ap (verdict_on s.query) (sym out.0) ∙ verdict_in_turn s c.args.entry turn

pub returns : goal.returns
returns c =
    let s = draft_of c.args.self.now in
    let turn : in_turn s c.args.entry ≡ true = search rules in
    let is = found_in_range (read c.args.entry) _ (sym c.try_from.ensures ∙ c.in_ok-try_from.was) in
    c.judged.ensures ∙ ap (verdict_on s.query) (sym is) ∙ verdict_in_turn s c.args.entry turn
