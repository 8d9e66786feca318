use Rattle.std.proofs.Common.{◌≡◌, drop}
use Rattle.sources.specs.Benches.{heads_verdict}
use Rattle.sources.proofs.bench.loading.check_heads.Given as goal

abbrev pub invariant-loop-at : goal.invariant-loop-at
invariant-loop-at l = heads_verdict l.len l.at (drop l.at l.heads) ≡ heads_verdict l.len 0 l.heads
