use Rattle.std.proofs.Common.{◌≡◌, ◌+◌, ◌*◌, ◌∷◌, take}
use Rattle.std.specs.List.{flat_map}
use Rattle.writing.specs.Records.{mark_of, cell_bytes}
use Rattle.writing.proofs.record.write_row.Given as goal

abbrev pub invariant-loop-i : goal.invariant-loop-i
invariant-loop-i l = take (1 + 4 * l.i) l.out ≡ mark_of l.cells ∷ flat_map cell_bytes (take l.i l.cells)
