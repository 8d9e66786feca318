-- What is said of a query's newest inner block, as the code holds it and as it means.
use Rattle.std.proofs.Common.{◌≡◌, ℕ, ◌<◌, Bool, true, cond, ltb, List, [], ◌∷◌, ◌++◌, map, length, Some, None, refl, ap, ◌∙◌, arith}
use Rattle.std.proofs.lemmas.Bool.Decides.{nat_tests}
use Rattle.std.specs.Option.{option_map}
use Rattle.bounded.specs.Listed.{latest, revised}
use Rattle.queries.specs.declared.parts.Test.{Test}
use Rattle.meaning.specs.Queries.{Inner, Query}
use Rattle.meaning.specs.Spelling.{with_test, with_inner, add_test}
use Rattle.sheets.specs.declared.blocks.InnerBlock.{InnerBlock}
use Rattle.sheets.specs.Held.{inner_of}

pub latest-map : {A B : Type 0} (f : A → B) (xs : List A) → option_map f (latest xs) ≡ latest (map f xs)
latest-map f [] = refl
latest-map f (x ∷ []) = refl
latest-map f (x ∷ (y ∷ ys)) = latest-map f (y ∷ ys)

pub map-revised : {A B : Type 0} (f : A → B) (xs : List A) (y : A) → map f (revised (λ _. y) xs) ≡ revised (λ _. f y) (map f xs)
map-revised f [] y = refl
map-revised f (z ∷ []) y = refl
map-revised f (z ∷ (w ∷ ws)) y = ap (λ v. f z ∷ v) (map-revised f (w ∷ ws) y)

-- the last becomes y, which is what g makes of it
pub revised_by : {B : Type 0} (g : B → B) (xs : List B) (x y : B) → Some x ≡ latest xs → y ≡ g x → revised (λ _. y) xs ≡ revised g xs
revised_by g [] x y e h = refl
revised_by g (z ∷ []) x y e h = cc
revised_by g (z ∷ (w ∷ ws)) x y e h = ap (λ v. z ∷ v) (revised_by g (w ∷ ws) x y e h)

pub revised_none : {B : Type 0} (g : B → B) (xs : List B) → None ≡ latest xs → xs ≡ revised g xs
revised_none g [] e = refl
revised_none g (z ∷ []) e = cc
revised_none g (z ∷ (w ∷ ws)) e = ap (λ v. z ∷ v) (revised_none g (w ∷ ws) e)

-- the newest inner block changed by f, as the code holds the list
pub newest_changed : (f : Inner → Inner) (xs ys : List InnerBlock) (b changed : InnerBlock) → Some (inner_of b) ≡ latest (map inner_of xs) → inner_of changed ≡ f (inner_of b) → ys ≡ revised (λ _. changed) xs → map inner_of ys ≡ revised f (map inner_of xs)
newest_changed f xs ys b changed newest by set =
    ap (map inner_of) set ∙ map-revised inner_of xs changed ∙ revised_by f (map inner_of xs) (inner_of b) (inner_of changed) newest by

-- a test goes to the newest inner block, or to block 0 where there is none
pub test_newest : (t : Test) (q : Query) (inner : List Inner) (b : Inner) → Some b ≡ latest inner → add_test t q inner ≡ with_inner q (revised (with_test t) inner)
test_newest t q [] b e = cc
test_newest t q (x ∷ xs) b e = refl

pub test_outermost : (t : Test) (q : Query) (inner : List Inner) → None ≡ latest inner → add_test t q inner ≡ record { table = q.table; tests = q.tests ++ (t ∷ []); inner = inner; outputs = q.outputs }
test_outermost t q [] e = refl
test_outermost t q (x ∷ xs) e = absurd (never x xs e)
  where
    never : (x : Inner) (xs : List Inner) → None ≡ latest (x ∷ xs) → ⊥
    never x [] e = cc
    never x (y ∷ ys) e = never y ys e

-- one more item, where there is room
pub pushed : {A : Type 0} (xs ys : List A) (x : A) (r : Bool) (n : ℕ) → r ≡ ltb (length xs) n → ys ≡ cond r (xs ++ (x ∷ [])) xs → length xs < n → ys ≡ xs ++ (x ∷ [])
pushed xs ys x r n room items fits = let t : r ≡ true = grind (arith, nat_tests) in rw t at items
