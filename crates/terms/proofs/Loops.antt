-- What two lists joined have of a number.
use Rattle.std.proofs.Common.{◌≡◌, ℕ, List, [], ◌∷◌, ◌++◌, Some, None, refl, arith}
use Rattle.terms.specs.Numbered.{numbered}

pub numbered_in_front : {X : Type 0} (number : X → ℕ) (n : ℕ) (xs ys : List X) (x : X) → numbered number xs n ≡ Some x → numbered number (xs ++ ys) n ≡ Some x
numbered_in_front number n [] ys x e = cc
numbered_in_front number n (a ∷ xs) ys x e = grind (arith, numbered_in_front number n xs ys x)

pub numbered_behind : {X : Type 0} (number : X → ℕ) (n : ℕ) (xs ys : List X) → numbered number xs n ≡ None → numbered number (xs ++ ys) n ≡ numbered number ys n
numbered_behind number n [] ys e = refl
numbered_behind number n (a ∷ xs) ys e = grind (arith, numbered_behind number n xs ys)
