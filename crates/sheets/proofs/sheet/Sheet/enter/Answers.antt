use mathlib.Core.Logic.{∥∥₁_map}
use Rattle.sheets.specs.Drafts.{draft_of}
use Rattle.sheets.proofs.Spelt.{spelled_more}
use Rattle.sheets.proofs.sheet.Sheet.enter.Goals as goal

pub invariant_of-self : goal.invariant_of-self
invariant_of-self c =
    record { spelled = ∥∥₁_map c.args.self.now.spelled (spelled_more (draft_of c.args.self.now.draft) (draft_of c.enter.new.self) c.args.entry c.enter.ensures.draft) }
