-- Numbers within bounds, and things that go by a number.
use Rattle.std.specs.Prelude.{ℕ, Bool, cond, ◌&&◌, List, [], ◌∷◌, Some, None, Option, ◌==◌, nat_le}

abbrev pub within : ℕ → ℕ → ℕ → Bool
within low n high = nat_le low n && nat_le n high

-- the first of a list that has the number n, if one has it
abbrev pub numbered : {X : Type 0} → (X → ℕ) → List X → ℕ → Option X
numbered number [] n = None
numbered number (x ∷ xs) n = cond (number x == n) (Some x) (numbered number xs n)
