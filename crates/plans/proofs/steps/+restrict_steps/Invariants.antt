use Rattle.std.proofs.Common.{length}
use Rattle.plans.proofs.steps.+restrict_steps.Given as goal

abbrev pub decreases-restrict_steps : goal.decreases-restrict_steps
decreases-restrict_steps l = length l.inner.now
