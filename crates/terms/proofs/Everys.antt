-- What holds of every item of a list holds of its parts.
use Rattle.std.proofs.Common.{◌≡◌, ℕ, Bool, true, List, take, drop, sym, ap, ◌∙◌}
use Rattle.std.proofs.lemmas.Bool.{and_parts}
use Rattle.std.proofs.lemmas.List.{take-append-drop}
use Rattle.std.proofs.lemmas.List.Folds.{list_all-append}
use Rattle.terms.specs.Cells.{every}

every_parts : {X : Type 0} (p : X → Bool) (n : ℕ) (xs : List X) → every p xs ≡ true → (every p (take n xs) ≡ true) × (every p (drop n xs) ≡ true)
every_parts p n xs e = and_parts _ _ (sym (list_all-append p (take n xs) (drop n xs)) ∙ ap (every p) (take-append-drop n xs) ∙ e)

pub every_take : {X : Type 0} (p : X → Bool) (n : ℕ) (xs : List X) → every p xs ≡ true → every p (take n xs) ≡ true
every_take p n xs e = (every_parts p n xs e).0

pub every_drop : {X : Type 0} (p : X → Bool) (n : ℕ) (xs : List X) → every p xs ≡ true → every p (drop n xs) ≡ true
every_drop p n xs e = (every_parts p n xs e).1
