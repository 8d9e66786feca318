-- Laws of filters.
use Rattle.std.proofs.Common.{◌≡◌, Bool, true, ◌&&◌, List, [], ◌∷◌, filter, All, refl, ap, arith}
use Rattle.std.proofs.lemmas.List.Elements.{All-head, All-tail}
use Rattle.meaning.specs.Rows.{some}

pub kept_all : {X : Type 0} (xs : List X) → filter (λ x. true) xs ≡ xs
kept_all [] = refl
kept_all (x ∷ xs) = ap (λ ys. x ∷ ys) (kept_all xs)

-- a filter after a filter
pub kept_both : {X : Type 0} (p q : X → Bool) (xs : List X) → filter p (filter q xs) ≡ filter (λ x. q x && p x) xs
kept_both p q [] = refl
kept_both p q (x ∷ xs) = grind (arith, kept_both p q xs)

-- two tests that agree on the list keep the same
pub kept_same : {X : Type 0} (p q : X → Bool) (xs : List X) → All (λ x. p x ≡ q x) xs → filter p xs ≡ filter q xs
kept_same p q [] h = refl
kept_same p q (x ∷ xs) h = grind (arith, All-head (λ y. p y ≡ q y) x xs h, kept_same p q xs (All-tail (λ y. p y ≡ q y) x xs h))

pub some_kept : {X : Type 0} (p : X → Bool) (xs : List X) → some (λ x. true) (filter p xs) ≡ some p xs
some_kept p [] = refl
some_kept p (x ∷ xs) = grind (arith, some_kept p xs)
