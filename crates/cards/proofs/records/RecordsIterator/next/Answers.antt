use Rattle.std.proofs.Common.{◌≡◌, ◌+◌, ◌-◌, length, take, drop, sym, ap, ◌∙◌, arith}
use Rattle.std.proofs.lemmas.List.{take_min, take_rest}
use Rattle.cards.specs.Format.{left}
use Rattle.cards.proofs.RecordSteps.{left_is}
use Rattle.cards.proofs.records.RecordsIterator.next.Goals as goal

pub returns : goal.returns
returns c =
    let h = c.in_ok-head.head in
    let before = c.args.self.now in
    let place = before.place + before.over in
    let rest = take (length before.bytes.now - before.over) (drop before.over before.bytes.now) in
    let payload : take c.min.result h.tail.now ≡ take h.size h.tail.now = ap (λ n. take n h.tail.now) c.min.ensures ∙ take_min h.size h.tail.now in
    let steps = ap (left place) (sym (take_rest before.bytes.now before.over)) ∙ left_is place h.size h.kind rest h.tail.now (take c.min.result h.tail.now) c.in_ok-head.ensures payload in
    let shorter = ap length steps in
    record { steps = steps; goes = record { on = λ _. (tt, tt, omega (arith, shorter)); keeps = tt; rests = λ _. tt } }
