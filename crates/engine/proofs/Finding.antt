-- The answer that is looked up among groups.
use Rattle.std.proofs.Common.{◌≡◌, Bool, true, false, cond, List, [], ◌∷◌, Some, None, Option, refl}
use Rattle.std.specs.List.{find}
use Rattle.terms.specs.Cells.{Cell}
use Rattle.meaning.specs.Rows.{alike}
use Rattle.meaning.specs.Running.{Group, answer_for}

abbrev pub answer_in : Option Group → Cell
answer_in None = None
answer_in (Some g) = g.answer

pub found_answer : (p : List Cell) (gs : List Group) → answer_in (find (λ (g : Group). alike p g.tuple) gs) ≡ answer_for gs p
found_answer p [] = refl
found_answer p (g ∷ gs) = here (alike p g.tuple) (found_answer p gs)
  where
    here : (b : Bool) → answer_in (find (λ (g : Group). alike p g.tuple) gs) ≡ answer_for gs p → answer_in (cond b (Some g) (find (λ (g : Group). alike p g.tuple) gs)) ≡ cond b g.answer (answer_for gs p)
    here true later = refl
    here false later = later
