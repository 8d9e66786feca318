use Rattle.std.proofs.Common.{rules, ◌≡◌, Ok}
use Rattle.meaning.proofs.Limits.{taken_not_over}
use Rattle.meaning.specs.Spelling.{verdict}
use Rattle.sheets.specs.Drafts.{draft_of}
use Rattle.sheets.proofs.Verdicts.{taken_opening}
use Rattle.sheets.proofs.draft.Draft.enter.Goals as goal

pub add-requires : goal.add-requires
add-requires c =
    let s = draft_of c.args.self.now in
    let taken : verdict s c.args.entry ≡ Ok c.in_ok-part.part = search rules in
    record {
      room = taken_not_over s c.args.entry c.in_ok-part.part taken;
      opening = taken_opening s c.args.entry c.in_ok-part.part taken;
    }
