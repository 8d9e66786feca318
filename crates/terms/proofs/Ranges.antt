-- What it says of a number's meaning that it was in range, or out of it.
use Rattle.std.proofs.Common.{◌≡◌, Some, None, Ok, Err, Option, refl}
use Rattle.terms.specs.declared.refusals.Refusal.{Refusal}
use Rattle.terms.specs.declared.refusals.Refusal.TheVariants.{OutOfRange}
use Rattle.terms.specs.Faults.{or_out_of_range}

pub found_in_range : {X : Type 0} (o : Option X) (x : X) → or_out_of_range o ≡ Ok x → o ≡ Some x
found_in_range None x e = cc
found_in_range (Some y) x e = cc

pub found_out_of_range : {X : Type 0} (o : Option X) (refusal : Refusal) → or_out_of_range o ≡ Err refusal → (o ≡ None) × (refusal ≡ OutOfRange)
found_out_of_range None refusal e = (refl, cc)
found_out_of_range (Some y) refusal e = cc
