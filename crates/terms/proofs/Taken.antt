-- What a verdict that is taken says of its parts.
use Rattle.std.proofs.Common.{◌≡◌, ℕ, ◌≤◌, Bool, true, false, cond, leb, is_ok, Ok, Err, Result, refl}
use Rattle.std.proofs.lemmas.Bool.{and_parts, leb-true}
use Rattle.terms.specs.declared.faults.Fault.{Fault}
use Rattle.terms.specs.declared.refusals.Refusal.{Refusal}
use Rattle.terms.specs.Faults.{refused_at}
use Rattle.terms.specs.Numbered.{within}

-- a part and what comes later
pub taken_at : (v : Result (Unit {0}) Refusal) (place : ℕ) (later : Result (Unit {0}) Fault) → is_ok (refused_at v place later) ≡ true → (is_ok v ≡ true) × (is_ok later ≡ true)
taken_at (Ok _) place later e = (refl, e)
taken_at (Err w) place later e = cc

-- a test that has to hold, and one that has to fail
pub taken_then : {X E : Type 0} (b : Bool) (v : Result X E) (w : E) → is_ok (cond b v (Err w)) ≡ true → (b ≡ true) × (is_ok v ≡ true)
taken_then true v w e = (refl, e)
taken_then false v w e = cc

pub taken_else : {X E : Type 0} (b : Bool) (v : Result X E) (w : E) → is_ok (cond b (Err w) v) ≡ true → (b ≡ false) × (is_ok v ≡ true)
taken_else true v w e = cc
taken_else false v w e = (refl, e)

pub between : (low n high : ℕ) → within low n high ≡ true → (low ≤ n) × (n ≤ high)
between low n high e = let both = and_parts (leb low n) (leb n high) e in (leb-true _ _ both.0, leb-true _ _ both.1)
