use Rattle.std.proofs.Common.{None, refl, rules}
use Rattle.std.proofs.lemmas.List.Recursion.{and_from_places}
use Rattle.terms.specs.Cells.{cell_in_range, every}
use Rattle.sources.proofs.ranges.check_range.Goals as goal

pub returns : goal.returns
returns c = and_from_places (every cell_in_range) cell_in_range refl (λ _ _. refl) c.args.cells.now None (λ i h. search rules)
