use Rattle.std.proofs.Common.{arith}
use Rattle.std.proofs.lemmas.Grind.{common_steps}
use Rattle.std.proofs.lemmas.List.{length-map}
use Rattle.meaning.proofs.Limits.{length-restricts, length-unnests}
use Rattle.plans.proofs.translation.steps_of.Goals as goal

pub unwrap-requires : goal.unwrap-requires
unwrap-requires c = grind (arith, common_steps, length-map, length-restricts)

pub unnest_steps-requires-clause-room : goal.unnest_steps-requires-clause-room
unnest_steps-requires-clause-room c = grind (arith, common_steps, length-map, length-restricts)

pub unwrap-requires-2 : goal.unwrap-requires-2
unwrap-requires-2 c = grind (arith, common_steps, length-map, length-restricts, length-unnests)
