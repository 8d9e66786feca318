-- What a verdict says of its entry.
use Rattle.std.proofs.Common.{◌≡◌, ℕ, Bool, true, false, cond, not, ◌&&◌, Some, None, Ok, Err, Option, ap, sym}
use Rattle.terms.specs.declared.refusals.Refusal.TheVariants.{OutOfTurn}
use Rattle.queries.specs.declared.entries.Entry.{Entry}
use Rattle.queries.specs.declared.entries.Entry.TheVariants as entry
use Rattle.queries.specs.declared.entries.Part.{Part}
use Rattle.queries.specs.declared.entries.Part.TheVariants.{Outermost}
use Rattle.queries.specs.Entries.{also, table_in_range, read}
use Rattle.meaning.specs.Queries.{Query}
use Rattle.meaning.specs.Spelling.{Spelled, in_place, in_turn, verdict_on, verdict, ends}

-- in turn, an entry is judged by what it brings
pub verdict_in_turn : (s : Spelled) (e : Entry) → in_turn s e ≡ true → verdict_on s.query (read e) ≡ verdict s e
verdict_in_turn s e t = sym (ap (λ b. cond b (verdict_on s.query (read e)) (Err OutOfTurn)) t)

opens : (table : Option ℕ) (part : Part) → verdict_on None (also table (λ t. Some (Outermost t))) ≡ Ok part → ends part ≡ false
opens None part v = cc
opens (Some t) part v = let q : part ≡ Outermost t = cc in ap ends q

opening : (q : Option Query) (ended : Bool) (e : Entry) (part : Part) → q ≡ None → cond (not ended && in_place q e) (verdict_on q (read e)) (Err OutOfTurn) ≡ Ok part → ends part ≡ false
opening (Some q) ended e part h v = cc
opening None true e part h v = cc
opening None false (entry.Open table) part h v = opens (table_in_range table) part v
opening None false other part h v = cc

-- what is taken on a fresh sheet ends nothing
pub taken_opening : (s : Spelled) (e : Entry) (part : Part) → verdict s e ≡ Ok part → s.query ≡ None → ends part ≡ false
taken_opening s e part v h = opening s.query s.ended e part h v
