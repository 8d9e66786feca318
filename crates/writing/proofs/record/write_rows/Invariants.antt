use Rattle.std.proofs.Common.{◌≡◌, ◌*◌, ◌/◌, length, take}
use Rattle.std.specs.List.{flat_map}
use Rattle.sources.specs.Heads.{rows_in}
use Rattle.cards.specs.Format.{row_width}
use Rattle.writing.specs.Records.{row_bytes}
use Rattle.writing.proofs.record.write_rows.Given as goal

abbrev pub invariant-loop-i : goal.invariant-loop-i
invariant-loop-i l = take (length l.yielded * row_width l.columns) l.out ≡ flat_map row_bytes (take (length l.yielded) (rows_in (length l.cells / l.columns) l.columns l.cells))
