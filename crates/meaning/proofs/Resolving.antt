-- The steps of a query's plan, with what they find of their blocks put in.
use Rattle.std.proofs.Common.{◌≡◌, ℕ, suc, ◌-◌, List, [], ◌∷◌, ◌++◌, map, length, get_or, sym, refl, ap, ◌∙◌, append_assoc, arith}
use Rattle.std.proofs.lemmas.List.{get_or_at, map-append, length-map, length_push}
use Rattle.std.proofs.lemmas.List.Sums.{fold-append}
use Rattle.queries.specs.declared.steps.Step.TheVariants.{Restrict}
use Rattle.meaning.specs.Rows.{Contents}
use Rattle.meaning.specs.Aggregates.{Meaning}
use Rattle.meaning.specs.Queries.{Query}
use Rattle.meaning.specs.Plans.{Flat, PlanBlock, Plan, translated, inner_blocks, unnests, plan, table_of, tests_of, joins_of}
use Rattle.meaning.specs.Running.{State, restrict, take_step, take_steps}
use Rattle.meaning.specs.Checks.{parent_of}
use Rattle.meaning.proofs.Unnesting.{unnested}

-- these translated blocks stand in the plan, numbered from b, each inside the block before it
abbrev pub Placed : Plan → ℕ → List Flat → Type 0
Placed p b [] = Unit {0}
Placed p b (f ∷ fs) = (table_of p b ≡ f.table) × (tests_of p b ≡ f.tests) × (joins_of p b ≡ f.joins) × (parent_of p b ≡ b - 1) × Placed p (suc b) fs

-- what stands at a place of a list
pub at : {X Y : Type 0} (g : X → Y) (front : List X) (x : X) (back : List X) (d : Y) (n : ℕ) → length front ≡ n → get_or (map g (front ++ (x ∷ back))) n d ≡ g x
at g front x back d n e = ap (λ l. get_or l n d) (map-append g front (x ∷ back)) ∙ get_or_at (map g front) (g x) (map g back) d n (length-map front g ∙ e)

placed : (p : Plan) (fs : List Flat) (c : ℕ) (front : List PlanBlock) → length front ≡ suc c → p.blocks ≡ front ++ inner_blocks c fs → Placed p (suc c) fs
placed p [] c front e h = tt
placed p (f ∷ fs) c front e h =
    let b : ℕ = suc c in
    let x : PlanBlock = record { table = f.table; tests = f.tests; joins = f.joins; parent = c } in
    let back : List PlanBlock = inner_blocks b fs in (
      rw h (at (λ y. y.table) front x back 0 b e),
      rw h (at (λ y. y.tests) front x back [] b e),
      rw h (at (λ y. y.joins) front x back [] b e),
      rw h (at (λ y. y.parent) front x back 0 b e ∙ omega arith),
      placed p fs b (front ++ (x ∷ [])) (length_push front x ∙ omega arith) (h ∙ sym (append_assoc front (x ∷ []) back)),
    )

pub plan_placed : (q : Query) → Placed (plan q) 1 (map translated q.inner)
plan_placed q = placed (plan q) (map translated q.inner) 0 (record { table = q.table; tests = q.tests; joins = []; parent = 0 } ∷ []) refl refl

module _ {Total : Type 0} (p : Plan) (db : Contents) (house : Meaning Total) where
  -- RESTRICT for block b, with its tests and its table
  pub restrict_is : (b : ℕ) (f : Flat) (s : State) → table_of p b ≡ f.table → tests_of p b ≡ f.tests → take_step p db house s (Restrict b b) ≡ restrict s b f.tests (db f.table)
  restrict_is b f s t e = rw (t, e)

  pub unnests_are : (fs : List Flat) (c : ℕ) (s : State) → Placed p (suc c) fs → take_steps p db house s (unnests c fs) ≡ unnested db house c fs s
  unnests_are [] c s places = refl
  unnests_are (f ∷ fs) c s places =
      simp (fold-append, unnests_are fs (suc c) s places.4, places.2)
