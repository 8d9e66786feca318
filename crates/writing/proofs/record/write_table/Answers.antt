use Rattle.std.proofs.Common.{◌≡◌, length, Ok, refl, ap, sym, ◌∙◌, arith}
use Rattle.std.specs.List.{flat_map}
use Rattle.writing.specs.Records.{row_bytes, head_bytes, head_record, written}
use Rattle.writing.proofs.Writes.{taken, handed_whole, handed_rows, handed_is, rows_room, record_size, record_written, written_shows}
use Rattle.writing.proofs.record.write_table.Goals as goal

pub write_rows-requires-clause-whole : goal.write_rows-requires-clause-whole
write_rows-requires-clause-whole c = handed_whole c.args.head c.args.cells.now _ (taken c.args.head (length c.args.cells.now) _ _ c.in_ok-check_write.ensures)

pub write_rows-requires-clause-room : goal.write_rows-requires-clause-room
write_rows-requires-clause-room c =
    let h = c.args.head in
    let cs = c.args.cells.now in
    let out = c.args.out.now in
    let t = taken h (length cs) (length out) _ c.in_ok-check_write.ensures in
    let six = ap length (c.copy_from_slice.ensures.after ∙ c.head_bytes.ensures) in
    rw (handed_rows h cs _ t) (rows_room h cs _ t out c.copy_from_slice.new.self _ six refl c.record_length-length.ensures)

pub returns : goal.returns
returns c =
    let h = c.args.head in
    let cs = c.args.cells.now in
    let t = taken h (length cs) (length c.args.out.now) _ c.in_ok-check_write.ensures in
    let long = c.record_length-length.ensures in
    let head = c.copy_from_slice.ensures.after ∙ c.head_bytes.ensures ∙ ap (λ n. head_bytes n h.number h.columns) (omega (arith, long)) in
    let rows = c.write_rows.ensures ∙ ap (flat_map row_bytes) (handed_is h cs _ t) in
    let bytes = record_written h cs _ t c.args.out.now c.copy_from_slice.new.self c.write_rows.new.out _ head rows (omega (arith, long)) in
    let size : c.record_length-length.result ≡ length (head_record cs h) = long ∙ sym (record_size h cs _ t) in
    record {
      answer = ap Ok size ∙ ap (λ v. written v (length (head_record cs h))) c.in_ok-check_write.ensures;
      bytes = bytes;
      loads = written_shows h cs _ t c.check_range.ensures c.args.out.now _ _ size bytes;
    }
