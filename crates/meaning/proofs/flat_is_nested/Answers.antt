use Rattle.meaning.proofs.Stopping.{flat_is_nested}
use Rattle.meaning.proofs.flat_is_nested.Goals as goal

pub returns : goal.returns
returns g c tables house entries q _ = flat_is_nested tables house q
