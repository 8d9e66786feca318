use Rattle.std.proofs.Common.{Some, sym, ap, ◌∙◌}
use Rattle.std.specs.Option.{option_map}
use Rattle.sources.specs.Answers.{shape_of}
use Rattle.sources.specs.Heads.{head_table}
use Rattle.sources.proofs.HeadRows.{length_table}
use Rattle.sources.proofs.bench.showing.BenchSource.shape.Goals as goal

pub returns-clause-value : goal.returns-clause-value
returns-clause-value c =
    let cells = c.args.self.now.cells.now in
    let head = c.in_ok-head.head in
    rw c.from.ensures (ap (λ n. Some (record { columns = head.columns; rows = n })) (sym (length_table cells head)) ∙ ap (λ o. shape_of (option_map (head_table cells) o)) c.in_ok-head.ensures.head)
