-- A plan's checks are the checks of its query.
use Rattle.std.proofs.Common.{◌≡◌, ℕ, suc, ◌+◌, ◌<◌, ◌≤◌, Bool, false, ◌&&◌, ◌||◌, eqb, List, [], ◌∷◌, ◌++◌, map, length, Some, None, Option, refl, ap, ◌∙◌, ap₂, arith}
use Rattle.std.proofs.lemmas.List.{length-map}
use Rattle.std.proofs.lemmas.Bool.{eq-eqb, ne_eqb}
use Rattle.std.proofs.lemmas.List.Folds.{list_any-append}
use Rattle.std.proofs.Math.Bool.{or-false}
use Rattle.std.specs.List.{range_with_len}
use Rattle.terms.specs.Tables.{Table, Tables, columns_of}
use Rattle.queries.specs.declared.aggregates.Aggregate.TheVariants.{CountRows}
use Rattle.queries.specs.declared.nests.Nest.{Nest}
use Rattle.queries.specs.declared.nests.Nest.TheVariants.{Aggregated, Exists}
use Rattle.queries.specs.declared.steps.Step.{Step}
use Rattle.queries.specs.declared.steps.Step.TheVariants.{Restrict, Output}
use Rattle.meaning.specs.Rows.{some}
use Rattle.meaning.specs.Queries.{Inner, Query}
use Rattle.meaning.specs.Plans.{Flat, Plan, translated_as, translated, inner_blocks, restricts, unnest, unnests, plan, table_of, tests_of, joins_of}
use Rattle.meaning.specs.Checks.{first_of, nest_columns, nest_operands, own_columns, parent_columns, outer_columns, lacks, some_lacking, block_fault, inner_faults, query_fault, parent_of, aggregate_lacking, operand_lacking, group_lacking, filter_lacking, plan_block_fault, plan_fault}
use Rattle.meaning.proofs.Resolving.{Placed, plan_placed}
use Rattle.meaning.proofs.Stopping.{same_table}

some-map : {X Y : Type 0} (p : Y → Bool) (f : X → Y) (xs : List X) → some p (map f xs) ≡ some (λ x. p (f x)) xs
some-map p f [] = refl
some-map p f (x ∷ xs) = ap (λ b. p (f x) || b) (some-map p f xs)

-- RESTRICT has none of what is looked for
restricts_none : (p : Step → Bool) → ((b r : ℕ) → p (Restrict b r) ≡ false) → (b : ℕ) (fs : List Flat) → some p (restricts b fs) ≡ false
restricts_none p none b [] = refl
restricts_none p none b (f ∷ fs) =
    simp (list_any-append, restricts_none p none (suc b) fs, none b b)

-- what is looked for is found among the steps of block b, and there it is v of the block
module _ (p : ℕ → Step → Bool) (v : Flat → Bool) (one : (b c : ℕ) (f : Flat) → some (p b) (unnest (suc c) c f) ≡ (eqb (suc c) b && v f)) where
  others : (b c : ℕ) (f : Flat) → (suc c ≡ b → ⊥) → some (p b) (unnest (suc c) c f) ≡ false
  others b c f ne = one b c f ∙ ap (λ t. t && v f) (ne_eqb (suc c) b ne)

  below : (b c : ℕ) (fs : List Flat) → b ≤ c → some (p b) (unnests c fs) ≡ false
  below b c [] h = refl
  below b c (f ∷ fs) h =
      simp (list_any-append, below b (suc c) fs (omega arith), others b c f (λ e. omega arith))

  here : (c : ℕ) (f : Flat) (fs : List Flat) → some (p (suc c)) (unnests c (f ∷ fs)) ≡ v f
  here c f fs =
      simp (list_any-append, below (suc c) (suc c) fs (omega arith), one (suc c) c f, eq-eqb (suc c) (suc c) refl)

  later : (b c : ℕ) (f : Flat) (fs : List Flat) → suc c < b → some (p b) (unnests c (f ∷ fs)) ≡ some (p b) (unnests (suc c) fs)
  later b c f fs h =
      simp (list_any-append, others b c f (λ e. omega arith)) (or-false (some (p b) (unnests (suc c) fs)))

  -- block by block, inside block c
  abbrev Found : List Step → ℕ → List Flat → Type 0
  Found steps c [] = Unit {0}
  Found steps c (f ∷ fs) = (some (p (suc c)) steps ≡ v f) × Found steps (suc c) fs

  found : (steps : List Step) (c : ℕ) (fs : List Flat) → ((b : ℕ) → c < b → some (p b) steps ≡ some (p b) (unnests c fs)) → Found steps c fs
  found steps c [] h = tt
  found steps c (f ∷ fs) h = (
    h (suc c) (omega arith) ∙ here c f fs,
    found steps (suc c) fs (λ b k. h b (omega arith) ∙ later b c f fs k),
  )

-- all steps of a plan: only the inner blocks' hold what is looked for
module _ (p : ℕ → Step → Bool) (v : Flat → Bool) (one : (b c : ℕ) (f : Flat) → some (p b) (unnest (suc c) c f) ≡ (eqb (suc c) b && v f))
    (restrict : (n b r : ℕ) → p n (Restrict b r) ≡ false) (output : (n r : ℕ) → p n (Output r) ≡ false) (fs : List Flat) where
  abbrev steps : List Step
  steps = restricts 1 fs ++ (Restrict 0 0 ∷ (unnests 0 fs ++ (Output 0 ∷ [])))

  in_unnests : (b : ℕ) → some (p b) steps ≡ some (p b) (unnests 0 fs)
  in_unnests b =
      simp (list_any-append, restricts_none (p b) (restrict b) 1 fs, restrict b 0 0, output b 0, or-false)

  in_plan : Found p v one steps 0 fs
  in_plan = found p v one steps 0 fs (λ b h. in_unnests b)

  in_none : some (p 0) steps ≡ false
  in_none = in_unnests 0 ∙ below p v one 0 0 fs (omega arith)

group_one : (n b c : ℕ) (f : Flat) → some (group_lacking b n) (unnest (suc c) c f) ≡ (eqb (suc c) b && aggregate_lacking n f.aggregate)
group_one n b c f = or-false (eqb (suc c) b && aggregate_lacking n f.aggregate)

filter_one : (n b c : ℕ) (f : Flat) → some (filter_lacking b n) (unnest (suc c) c f) ≡ (eqb (suc c) b && operand_lacking n f.operand)
filter_one n b c f = or-false (eqb (suc c) b && operand_lacking n f.operand)

-- One inner block: its columns in its own table, and those in its parent's.

module _ (n : ℕ) (i : Inner) where
  nest_own : (nest : Nest)
      → (some (λ x. lacks n x.column) (translated_as i nest).joins || (aggregate_lacking n (translated_as i nest).aggregate || false)) ≡ (some (λ l. lacks n l.column) i.links || some (lacks n) (nest_columns nest))
  nest_own (Aggregated operand comparison CountRows) = simp (list_any-append, or-false)
  nest_own other = simp (list_any-append, or-false)

  nest_parent : (nest : Nest)
      → (some (λ x. lacks n x.parent) (translated_as i nest).joins || operand_lacking n (translated_as i nest).operand) ≡ (some (λ l. lacks n l.parent) i.links || some (lacks n) (nest_operands nest))
  nest_parent Exists = simp (list_any-append, or-false)
  nest_parent other = simp (list_any-append, or-false)

  own_is : (some (λ t. lacks n t.column) i.tests || (some (λ x. lacks n x.column) (translated i).joins || (aggregate_lacking n (translated i).aggregate || false))) ≡ some (lacks n) (own_columns i)
  own_is = simp (nest_own i.nest, list_any-append, some-map)

  parent_is : (some (λ x. lacks n x.parent) (translated i).joins || operand_lacking n (translated i).operand) ≡ some (lacks n) (parent_columns i)
  parent_is = simp (nest_parent i.nest, list_any-append, some-map)

translated_tests : (i : Inner) (nest : Nest) → (translated_as i nest).tests ≡ i.tests
translated_tests i Exists = refl
translated_tests i other = refl

module _ (tables : Tables) (p : Plan) where
  abbrev Groups : ℕ → ℕ → List Flat → Type 0
  Groups n c fs = Found (λ b. group_lacking b n) (λ f. aggregate_lacking n f.aggregate) (group_one n) p.steps c fs

  abbrev Filters : ℕ → ℕ → List Flat → Type 0
  Filters n c fs = Found (λ b. filter_lacking b n) (λ f. operand_lacking n f.operand) (filter_one n) p.steps c fs

  -- one block inside block c
  block_is : (c above : ℕ) (i : Inner) → table_of p c ≡ above → table_of p (suc c) ≡ i.table → tests_of p (suc c) ≡ i.tests → joins_of p (suc c) ≡ (translated i).joins → parent_of p (suc c) ≡ c
      → ((n : ℕ) → some (group_lacking (suc c) n) p.steps ≡ aggregate_lacking n (translated i).aggregate)
      → ((n : ℕ) → some (filter_lacking (suc c) n) p.steps ≡ operand_lacking n (translated i).operand)
      → plan_block_fault tables p (suc c) ≡ block_fault tables (suc c) i.table (some_lacking (tables i.table) (own_columns i)) above (some_lacking (tables above) (parent_columns i)) (tables i.table)
  block_is c above i over table tests joins parent groups filters =
      simp (parent, over, table, tests, joins, groups, filters, ne_eqb (suc c) 0 (λ e. omega arith), own_is (columns_of (tables i.table)) i, parent_is (columns_of (tables above)) i)

  inner_are : (is : List Inner) (c above : ℕ) → table_of p c ≡ above → Placed p (suc c) (map translated is)
      → ((n : ℕ) → Groups n c (map translated is)) → ((n : ℕ) → Filters n c (map translated is))
      → map (plan_block_fault tables p) (range_with_len (suc c) (length is)) ≡ inner_faults tables (suc c) above is
  inner_are [] c above over placed groups filters = refl
  inner_are (i ∷ is) c above over placed groups filters =
      let table = placed.0 ∙ same_table i i.nest in
      let first = block_is c above i over table (placed.1 ∙ translated_tests i i.nest) placed.2 (placed.3 ∙ omega arith) (λ n. (groups n).0) (λ n. (filters n).0) in
      let next : suc c + 1 ≡ suc (suc c) = omega arith in
      let rest = inner_are is (suc c) i.table table placed.4 (λ n. (groups n).1) (λ n. (filters n).1) in
      simp (first, next, rest)

length-inner_blocks : (c : ℕ) (fs : List Flat) → length (inner_blocks c fs) ≡ length fs
length-inner_blocks c [] = refl
length-inner_blocks c (f ∷ fs) = ap suc (length-inner_blocks (suc c) fs)

pub length_blocks : (q : Query) → length (plan q).blocks ≡ suc (length q.inner)
length_blocks q = ap suc (length-inner_blocks 0 (map translated q.inner) ∙ length-map q.inner translated)

module _ (tables : Tables) (q : Query) where
  abbrev flats : List Flat
  flats = map translated q.inner

  -- block 0
  outer_is : plan_block_fault tables (plan q) 0 ≡ block_fault tables 0 q.table (some_lacking (tables q.table) (outer_columns q)) 0 false (tables q.table)
  outer_is =
      let n : ℕ = columns_of (tables q.table) in
      simp (
        in_none (λ b. group_lacking b n) (λ f. aggregate_lacking n f.aggregate) (group_one n) (λ k b r. refl) (λ k r. refl) flats,
        in_none (λ b. filter_lacking b n) (λ f. operand_lacking n f.operand) (filter_one n) (λ k b r. refl) (λ k r. refl) flats,
        list_any-append,
        some-map,
      )
      (no_parent _ (tables q.table))
    where
      no_parent : (lacking : Bool) (o : Option Table) → block_fault tables 0 q.table lacking q.table false o ≡ block_fault tables 0 q.table lacking 0 false o
      no_parent lacking None = refl
      no_parent lacking (Some t) = refl

  pub plan_fault_is : plan_fault tables (plan q) ≡ query_fault tables q
  plan_fault_is =
      let groups = λ (n : ℕ). in_plan (λ b. group_lacking b n) (λ f. aggregate_lacking n f.aggregate) (group_one n) (λ k b r. refl) (λ k r. refl) flats in
      let filters = λ (n : ℕ). in_plan (λ b. filter_lacking b n) (λ f. operand_lacking n f.operand) (filter_one n) (λ k b r. refl) (λ k r. refl) flats in
      let inner = inner_are tables (plan q) q.inner 0 q.table refl (plan_placed q) groups filters in
      ap (λ k. first_of (map (plan_block_fault tables (plan q)) (range_with_len 0 k))) (length_blocks q)
      ∙ ap₂ (λ f fs. first_of (f ∷ fs)) outer_is inner
