-- How many steps a plan has: a spelled query has at most three inner blocks.
use Rattle.std.proofs.Common.{◌≡◌, ℕ, suc, ◌+◌, ◌*◌, ◌≤◌, true, false, cond, List, [], ◌∷◌, length, Some, None, Ok, Err, fold, Option, Result, refl, ap, subst, arith, length-append}
use Rattle.std.proofs.lemmas.List.{length-map, length_push}
use Rattle.std.proofs.lemmas.Bool.{leb-false}
use Rattle.bounded.specs.Listed.{revised}
use Rattle.terms.specs.declared.refusals.Refusal.{Refusal}
use Rattle.terms.specs.declared.refusals.Refusal.TheVariants.{OutOfTurn}
use Rattle.queries.specs.declared.entries.Entry.{Entry}
use Rattle.queries.specs.declared.entries.Part.{Part}
use Rattle.queries.specs.declared.entries.Part.TheVariants.{Outermost, Tested, Linked, Nested}
use Rattle.queries.specs.declared.parts.Test.{Test}
use Rattle.queries.specs.Entries.{read}
use Rattle.meaning.specs.Queries.{Inner, Query}
use Rattle.meaning.specs.Spelling.{Spelled, fresh, in_turn, over_limit, verdict_on, verdict, add_test, with_part, opened, query_with, entered_by, entered, spelled, finished}
use Rattle.meaning.specs.Plans.{Flat, restricts, unnests, plan}

length-revised : {X : Type 0} (f : X → X) (xs : List X) → length (revised f xs) ≡ length xs
length-revised f [] = refl
length-revised f (x ∷ []) = refl
length-revised f (x ∷ (y ∷ ys)) = ap suc (length-revised f (y ∷ ys))

-- a part that is taken is not over a limit
not_over : (q : Option Query) (o : Option Part) (part : Part) → verdict_on q o ≡ Ok part → over_limit q part ≡ false
not_over q None part e = cc
not_over q (Some p) part e = grind arith

pub taken_not_over : (s : Spelled) (e : Entry) (part : Part) → verdict s e ≡ Ok part → over_limit s.query part ≡ false
taken_not_over s e part h =
    (elim (in_turn s e) as (λ t. cond t (verdict_on s.query (read e)) (Err OutOfTurn) ≡ Ok part → over_limit s.query part ≡ false)
    [ true ↦ not_over s.query (read e) part | false ↦ λ out. cc ]) h

-- at most four blocks
abbrev Few : Option Query → Type 0
Few None = Unit {0}
Few (Some q) = length q.inner ≤ 3

few_opened : (part : Part) → Few (opened part)
few_opened (Outermost table) = omega arith
few_opened other = tt

few_test : (t : Test) (q : Query) (inner : List Inner) → length inner ≤ 3 → length (add_test t q inner).inner ≤ 3
few_test t q [] h = omega arith
few_test t q (b ∷ bs) h = rw length-revised h

few_part : (q : Query) (part : Part) → length q.inner ≤ 3 → over_limit (Some q) part ≡ false → length (with_part q part).inner ≤ 3
few_part q (Tested test) h e = few_test test q q.inner h
few_part q (Linked link) h e = rw length-revised h
few_part q (Nested nest table) h e = rw length_push (omega (arith, leb-false 4 (1 + length q.inner) e))
few_part q other h e = h

few_with : (q : Option Query) (part : Part) → Few q → over_limit q part ≡ false → Few (query_with q part)
few_with None part h e = few_opened part
few_with (Some q) part h e = few_part q part h e

few_entered : (s : Spelled) (e : Entry) → Few s.query → Few (entered s e).query
few_entered s e h = go (verdict s e) refl
  where
    go : (r : Result Part Refusal) → verdict s e ≡ r → Few (entered_by s r).query
    go (Ok part) q = few_with s.query part h (taken_not_over s e part q)
    go (Err refusal) q = h

few_spelled : (es : List Entry) (s : Spelled) → Few s.query → Few (fold entered s es).query
few_spelled [] s h = h
few_spelled (e ∷ es) s h = few_spelled es (entered s e) (few_entered s e h)

finished_is : (s : Spelled) (q : Query) → finished s ≡ Some q → s.query ≡ Some q
finished_is s q e = grind arith

pub length-restricts : (fs : List Flat) (b : ℕ) → length (restricts b fs) ≡ length fs
length-restricts [] b = refl
length-restricts (f ∷ fs) b =
    simp (length-append, length-restricts fs (suc b)) (omega arith)

pub length-unnests : (fs : List Flat) (c : ℕ) → length (unnests c fs) ≡ 3 * length fs
length-unnests [] c = refl
length-unnests (f ∷ fs) c =
    simp (length-append, length-unnests fs (suc c)) (omega arith)

-- one RESTRICT for each block, three steps more for each inner block, and OUTPUT
steps_of_plan : (q : Query) → length (plan q).steps ≡ 4 * length q.inner + 2
steps_of_plan q = simp (length-append, length-restricts, length-unnests, length-map) (omega arith)

pub few_steps : (entries : List Entry) (q : Query) → finished (spelled entries) ≡ Some q → length (plan q).steps ≤ 14
few_steps entries q e =
    let few : length q.inner ≤ 3 = subst Few (finished_is (spelled entries) q e) (few_spelled entries fresh tt) in
    omega (arith, steps_of_plan q)
