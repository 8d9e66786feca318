-- Where the temporaries of a plan lie, by the shapes of its tables.
use Rattle.std.specs.Prelude.{◌≡◌, ℕ, ◌+◌, ◌*◌, ◌≤◌, cond, List, [], ◌∷◌, length, nat_lt}
use Rattle.terms.specs.Tables.{Tables, rows_of, columns_of}
use Rattle.meaning.specs.Plans.{Plan, table_of, joins_of}
use Rattle.meaning.specs.Checks.{parent_of}
use Rattle.engine.specs.declared.layout.Extent.{Extent}
use Rattle.engine.specs.declared.layout.Region.{Region}
use Rattle.engine.specs.declared.layout.Layout.{Layout}

abbrev pub no_extent : Extent
no_extent = record { rows = 0; width = 0 }

-- room for every row of a block's table
abbrev pub rows_extent : Tables → Plan → ℕ → Extent
rows_extent tables p b =
    cond (nat_lt b (length p.blocks)) (record { rows = length (rows_of (tables (table_of p b))); width = columns_of (tables (table_of p b)) }) no_extent

-- room for a tuple for each row of the parent: a cell for each join condition, and one for the answer
abbrev pub tuples_extent : Tables → Plan → ℕ → Extent
tuples_extent tables p b =
    cond (nat_lt b (length p.blocks)) (record { rows = (rows_extent tables p (parent_of p b)).rows; width = length (joins_of p b) + 1 }) no_extent

abbrev pub rows_extents : Tables → Plan → List Extent
rows_extents tables p = rows_extent tables p 0 ∷ (rows_extent tables p 1 ∷ (rows_extent tables p 2 ∷ (rows_extent tables p 3 ∷ [])))

-- block 0 has no tuples
abbrev pub tuples_extents : Tables → Plan → List Extent
tuples_extents tables p = no_extent ∷ (tuples_extent tables p 1 ∷ (tuples_extent tables p 2 ∷ (tuples_extent tables p 3 ∷ [])))

abbrev pub cells_in : Extent → ℕ
cells_in x = x.rows * x.width

abbrev pub all_cells : List Extent → ℕ
all_cells [] = 0
all_cells (x ∷ xs) = cells_in x + all_cells xs

-- regions of these extents, one behind the other
abbrev pub chain : ℕ → List Extent → List Region
chain at [] = []
chain at (x ∷ xs) = record { start = at; room = x.rows; width = x.width } ∷ chain (at + cells_in x) xs

pub record Small (x : Extent) : Type 0 where
  pub few : x.rows ≤ 1024
  pub narrow : x.width ≤ 6

-- the layout of a plan
pub record LaidOut (tables : Tables) (p : Plan) (layout : Layout) : Type 0 where
  pub kept : layout.kept ≡ chain 0 (rows_extents tables p)
  pub tuples : layout.tuples ≡ chain 0 (tuples_extents tables p)
