use Rattle.std.proofs.Common.{length}
use Rattle.plans.proofs.steps.+unnest_steps.Given as goal

abbrev pub decreases-unnest_steps : goal.decreases-unnest_steps
decreases-unnest_steps l = length l.inner.now
