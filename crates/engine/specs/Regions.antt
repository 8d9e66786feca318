-- Regions of work memory: each holds rows, or tuples with their answers, one behind the other.
use Rattle.std.specs.Prelude.{◌≡◌, ℕ, ◌+◌, ◌*◌, ◌≤◌, ◌⊎◌, List, [], ◌∷◌, slice_index_or}
use Rattle.std.specs.List.{between}
use Rattle.engine.specs.declared.layout.Region.{Region}

abbrev pub end_of : Region → ℕ
end_of g = g.start + g.room * g.width

-- what lies in a region: n items, read off its cells by F
abbrev pub inside : {A X : Type 0} → (ℕ → ℕ → List A → List X) → Region → ℕ → List A → List X
inside F g n cells = F n g.width (between g.start (end_of g) cells)

-- the same for all regions
abbrev pub seen : {A X : Type 0} → (ℕ → ℕ → List A → List X) → List Region → List ℕ → List A → List (List X)
seen F [] ns cells = []
seen F (g ∷ gs) [] cells = []
seen F (g ∷ gs) (n ∷ ns) cells = inside F g n cells ∷ seen F gs ns cells

-- every part apart from a to e is as it was
abbrev pub SameApart : {A : Type 0} → ℕ → ℕ → List A → List A → Type 0
SameApart a e old new = (c d : ℕ) → (d ≤ a) ⊎ (e ≤ c) → between c d new ≡ between c d old

pub record Room (from len : ℕ) (g : Region) : Type 0 where
  pub after : from ≤ g.start
  pub fits : end_of g ≤ len
  pub few : g.room ≤ 1024
  pub narrow : g.width ≤ 6

-- regions one behind the other within len cells
abbrev pub Laid : ℕ → ℕ → List Region → Type 0
Laid from len [] = Unit {0}
Laid from len (g ∷ gs) = Room from len g × Laid (end_of g) len gs

-- no region holds more than it has room for
abbrev pub Within : List Region → List ℕ → Type 0
Within [] [] = Unit {0}
Within [] (n ∷ ns) = ⊥
Within (g ∷ gs) [] = ⊥
Within (g ∷ gs) (n ∷ ns) = (n ≤ g.room) × Within gs ns

abbrev pub no_region : Region
no_region = record { start = 0; room = 0; width = 0 }

abbrev pub region : List Region → ℕ → Region
region gs b = slice_index_or gs b no_region
