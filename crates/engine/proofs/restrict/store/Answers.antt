use Rattle.std.proofs.Common.{◌≡◌, ◌+◌, ◌-◌, ◌++◌, take, drop, sym, ap, ◌∙◌, arith, length-take}
use Rattle.std.proofs.lemmas.List.{take-map, take-take}
use Rattle.std.proofs.lemmas.Slice.{put_mid-paste}
use Rattle.engine.specs.Rows.{value_of, values}
use Rattle.engine.proofs.Values.{values_paste}
use Rattle.engine.proofs.restrict.store.Goals as goal

pub returns : goal.returns
returns c =
    let row = c.args.row.now in
    let cells = c.args.cells.now in
    let at = c.args.at in
    let w = c.args.width in
    let front : take w (values (take w row)) ≡ take w (values row) = ap (take w) (sym (take-map value_of w row)) ∙ take-take w w (values row) (omega arith) in
    record {
      cells = ap values (put_mid-paste at (at + w - at) cells c.copy_from_slice.new.self (take w row) w c.copy_from_slice.ensures.after (omega arith) (simp length-take (omega arith)))
          ∙ values_paste cells (take w row) at w
          ∙ ap (λ s. take at (values cells) ++ s ++ drop (at + w) (values cells)) front;
    }
