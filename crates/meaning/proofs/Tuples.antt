-- Tuples: what PROJECT keeps, and what FILTER finds.
use Rattle.std.proofs.Common.{◌≡◌, true, ◌&&◌, List, [], ◌∷◌, map, ℤ, pos, negsuc, Some, None, fold, All, arith, refl, ap, ap₂}
use Rattle.std.proofs.lemmas.List.Folds.{list_any-append}
use Rattle.std.proofs.lemmas.List.Elements.{All-cons}
use Rattle.std.proofs.lemmas.Bool.{eqb-true, eq-eqb, and_parts}
use Rattle.terms.specs.Cells.{Cell, same, same_number}
use Rattle.meaning.specs.Rows.{alike, some}
use Rattle.meaning.specs.Aggregates.{Answer}
use Rattle.meaning.specs.Running.{noted, answer_for, unanswered, with_answer}

same_number_is : (x y : ℤ) → same_number x y ≡ true → x ≡ y
same_number_is (pos a) (pos b) h = ap pos (eqb-true a b h)
same_number_is (negsuc a) (negsuc b) h = ap negsuc (eqb-true a b h)
same_number_is x y h = cc

same_number_refl : (x : ℤ) → same_number x x ≡ true
same_number_refl (pos a) = eq-eqb a a refl
same_number_refl (negsuc a) = eq-eqb a a refl

same_is : (x y : Cell) → same x y ≡ true → x ≡ y
same_is None None h = refl
same_is (Some x) (Some y) h = ap (λ z. Some z) (same_number_is x y h)
same_is x y h = cc

same_refl : (x : Cell) → same x x ≡ true
same_refl None = refl
same_refl (Some x) = same_number_refl x

alike_is : (xs ys : List Cell) → alike xs ys ≡ true → xs ≡ ys
alike_is [] [] h = refl
alike_is (x ∷ xs) (y ∷ ys) h =
    let both = and_parts (same x y) (alike xs ys) h in
    ap₂ (λ z zs. z ∷ zs) (same_is x y both.0) (alike_is xs ys both.1)
alike_is xs ys h = cc

alike_refl : (xs : List Cell) → alike xs xs ≡ true
alike_refl [] = refl
alike_refl (x ∷ xs) = ap₂ ◌&&◌ (same_refl x) (alike_refl xs)

-- a tuple that was noted stays
noted_own : (seen : List (List Cell)) (t : List Cell) → some (alike t) (noted seen t) ≡ true
noted_own seen t = grind (arith, list_any-append (alike t) seen (t ∷ []), alike_refl t)

noted_keeps : (seen : List (List Cell)) (t u : List Cell) → some (alike t) seen ≡ true → some (alike t) (noted seen u) ≡ true
noted_keeps seen t u h = grind (arith, list_any-append (alike t) seen (u ∷ []))

folded_keeps : (us seen : List (List Cell)) (t : List Cell) → some (alike t) seen ≡ true → some (alike t) (fold noted seen us) ≡ true
folded_keeps [] seen t h = h
folded_keeps (u ∷ us) seen t h = folded_keeps us (noted seen u) t (noted_keeps seen t u h)

-- each row's own tuple stands among the distinct ones
pub own_tuple : {X : Type 0} (f : X → List Cell) (xs : List X) (seen : List (List Cell)) → All (λ x. some (alike (f x)) (fold noted seen (map f xs)) ≡ true) xs
own_tuple f [] seen = λ k d lt. absurd (omega arith)
own_tuple f (x ∷ xs) seen =
    let noted_all : List (List Cell) = fold noted (noted seen (f x)) (map f xs) in
    All-cons (λ y. some (alike (f y)) noted_all ≡ true) x xs (folded_keeps (map f xs) (noted seen (f x)) (f x) (noted_own seen (f x))) (own_tuple f xs (noted seen (f x)))

-- beside a tuple that stands there FILTER finds the answer worked out for it
pub answer_found : (answer : List Cell → Answer) (ts : List (List Cell)) (t : List Cell) → some (alike t) ts ≡ true → answer_for (map (with_answer answer) (map unanswered ts)) t ≡ answer t
answer_found answer [] t h = cc
answer_found answer (u ∷ us) t h = grind (arith, alike_is t u, answer_found answer us t)
