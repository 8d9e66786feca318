-- Parts read one after the other: the first that is out of range decides.
use Rattle.std.proofs.Common.{◌≡◌, Ok, Err, Option}
use Rattle.terms.specs.declared.refusals.Refusal.{Refusal}
use Rattle.terms.specs.Faults.{or_out_of_range}
use Rattle.terms.proofs.Ranges.{found_in_range, found_out_of_range}
use Rattle.queries.specs.Entries.{also}

-- a part that is refused
pub also_refused : {A B : Type 0} (part : Option A) (next : A → Option B) (e : Refusal) → or_out_of_range part ≡ Err e → Err e ≡ or_out_of_range (also part next)
also_refused part next e r = let out = found_out_of_range part e r in rw (out.0, out.1)

-- a part that is read leaves it to the next one
pub also_read : {A B : Type 0} (part : Option A) (next : A → Option B) (x : A) → or_out_of_range part ≡ Ok x → next x ≡ also part next
also_read part next x r = rw (found_in_range part x r)
