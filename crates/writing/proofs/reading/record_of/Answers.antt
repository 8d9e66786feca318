use Rattle.writing.proofs.Once.{found_once}
use Rattle.writing.proofs.reading.record_of.Goals as goal

pub returns : goal.returns
returns c =
    let card = c.args.card.now in
    record {
      found = c.in_ok-bytes.ensures;
      once = found_once card.image.now c.args.table c.in_ok-bytes.bytes.now card.passed c.in_ok-bytes.ensures c.check_bytes.ensures;
    }
