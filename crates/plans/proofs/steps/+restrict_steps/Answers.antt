use Rattle.std.proofs.Common.{arith}
use Rattle.std.proofs.lemmas.Grind.{common_steps}
use Rattle.std.proofs.lemmas.List.{length-map}
use Rattle.meaning.proofs.Limits.{length-restricts}
use Rattle.plans.proofs.steps.+restrict_steps.Goals as goal

pub unwrap-requires : goal.unwrap-requires
unwrap-requires t c = grind (arith, common_steps, length-map, length-restricts)
