use Rattle.std.proofs.Common.{length}
use Rattle.plans.proofs.joining.+inner_blocks.Given as goal

abbrev pub decreases-inner_blocks : goal.decreases-inner_blocks
decreases-inner_blocks l = length l.inner.now
