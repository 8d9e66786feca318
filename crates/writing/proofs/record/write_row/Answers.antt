use Rattle.std.proofs.Common.{◌≡◌, ℕ, ◌+◌, ◌*◌, ◌∷◌, ◌++◌, [], length, get_or, take, None, sym, ap, ◌∙◌, arith, length-set}
use Rattle.std.specs.List.{flat_map}
use Rattle.std.proofs.lemmas.List.{take_more, take_more_set, flat_map_more}
use Rattle.std.proofs.lemmas.Slice.{take-put_mid}
use Rattle.writing.specs.Records.{mark_of, cell_bytes}
use Rattle.writing.proofs.Puts.{length-cell}
use Rattle.writing.proofs.record.write_row.Goals as goal

pub loop-i-init : goal.loop-i-init
loop-i-init c = take_more_set c.args.out.now 0 c.mark_of.result (omega arith) ∙ ap (λ m. m ∷ []) c.mark_of.ensures

pub loop-i-preserved : goal.loop-i-preserved
loop-i-preserved c =
    let i = c.loop-i.i in
    let cells = c.args.cells.now in
    let here : c.copy_from_slice.new.self ≡ cell_bytes (get_or cells i None) = c.copy_from_slice.ensures.after ∙ c.cell_bytes.ensures in
    let end : 1 + 4 * (i + 1) ≡ (1 + 4 * i) + length c.copy_from_slice.new.self = omega (arith, ap length here, length-cell (get_or cells i None)) in
    take-put_mid (1 + 4 * i) _ c.loop-i.out c.copy_from_slice.new.self (1 + 4 * (i + 1)) end (omega (arith, length-set {A = ℕ}))
    ∙ ap (λ l. l ++ c.copy_from_slice.new.self) c.loop-i.invariant
    ∙ ap (λ l. (mark_of cells ∷ flat_map cell_bytes (take i cells)) ++ l) here
    ∙ flat_map_more cell_bytes (mark_of cells ∷ []) (take i cells) (get_or cells i None)
    ∙ ap (λ l. mark_of cells ∷ flat_map cell_bytes l) (sym (take_more cells i None c.loop-i-test.true))
