-- What a bounded list holds.
use Rattle.std.specs.Prelude.{ℕ, List, [], ◌∷◌, take, Some, None, Option}
use Rattle.bounded.specs.declared.list.Bounded.{Bounded}

-- the items in use, in order
abbrev pub listed : {T : Type 0} {n : ℕ} → Bounded T n → List T
listed b = take b.len b.items

-- the last item of a list
abbrev pub latest : {T : Type 0} → List T → Option T
latest [] = None
latest (x ∷ []) = Some x
latest (x ∷ (y ∷ ys)) = latest (y ∷ ys)

-- the list with its last item changed by f
abbrev pub revised : {T : Type 0} → (T → T) → List T → List T
revised f [] = []
revised f (x ∷ []) = f x ∷ []
revised f (x ∷ (y ∷ ys)) = x ∷ revised f (y ∷ ys)
