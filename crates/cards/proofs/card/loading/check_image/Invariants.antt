use Rattle.std.proofs.Common.{◌≡◌}
use Rattle.cards.specs.Format.{records}
use Rattle.cards.specs.Verdicts.{records_verdict}
use Rattle.cards.specs.Views.{records_left}
use Rattle.cards.proofs.card.loading.check_image.Given as goal

abbrev pub invariant-loop-record : goal.invariant-loop-record
invariant-loop-record l = records_verdict (records_left l.record-iterator) ≡ records_verdict (records l.image)
