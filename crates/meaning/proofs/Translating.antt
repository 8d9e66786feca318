-- The nested tests after translation judge each row as the query's do.
use Rattle.std.proofs.Common.{◌≡◌, ℕ, Bool, true, ◌&&◌, List, [], ◌∷◌, ◌++◌, map, filter, refl, ap, ◌∙◌}
use mathlib.Core.Path.{fun_ext}
use Rattle.std.proofs.Math.Bool.{and_assoc, and_comm, and-true}
use Rattle.std.proofs.lemmas.List.Folds.{list_all-append}
use Rattle.terms.specs.declared.comparisons.Comparison.{Comparison}
use Rattle.terms.specs.declared.comparisons.Comparison.TheVariants.{Equal, Less}
use Rattle.terms.specs.Cells.{Row, every}
use Rattle.terms.specs.Comparisons.{holds}
use Rattle.queries.specs.declared.aggregates.Aggregate.{Aggregate}
use Rattle.queries.specs.declared.aggregates.Aggregate.TheVariants.{CountRows, Of}
use Rattle.queries.specs.declared.nests.Nest.{Nest}
use Rattle.queries.specs.declared.nests.Nest.TheVariants.{Aggregated, In, Exists, NotExists, Any, All}
use Rattle.queries.specs.declared.parts.Link.{Link}
use Rattle.queries.specs.declared.parts.Test.{Test}
use Rattle.queries.specs.declared.steps.Operand.{Operand}
use Rattle.queries.specs.declared.steps.Operand.TheVariants.{Column, Zero}
use Rattle.queries.specs.Codes.{extreme}
use Rattle.meaning.specs.Rows.{Contents, cell, some}
use Rattle.meaning.specs.Aggregates.{Meaning, aggregated}
use Rattle.meaning.specs.Queries.{Inner, tests_true, links_true, nest_true, judged}
use Rattle.meaning.specs.Plans.{Flat, flat, flat_any, translated, translated_as}
use Rattle.meaning.specs.Running.{tuple_of, join_true, joins_true, operand_of}
use Rattle.meaning.proofs.Lists.{kept_all, kept_both, some_kept}
use Rattle.meaning.proofs.Laws.{holds-mirrored, zero_less, zero_equal}

-- the join conditions of a row, for one row of its parent
abbrev pub joined : List Link → Row → Row → Bool
joined joins parent row = every (λ j. join_true row j (cell j.parent parent)) joins

-- they depend on the parent's tuple alone
pub joins_of_tuple : (joins : List Link) (parent row : Row) → joins_true joins (tuple_of joins parent) row ≡ joined joins parent row
joins_of_tuple [] parent row = refl
joins_of_tuple (j ∷ js) parent row = ap (λ b. join_true row j (cell j.parent parent) && b) (joins_of_tuple js parent row)

-- the rows of a block that pass for one row of its parent, where `inside` is their nested test
abbrev pub passing : List Row → List Test → List Link → (Row → Bool) → Row → List Row
passing rows tests links inside parent = filter (λ r. tests_true tests r && links_true links parent r && inside r) rows

-- the same by join conditions
abbrev pub joining : List Row → List Test → List Link → (Row → Bool) → Row → List Row
joining rows tests joins inside parent = filter (λ r. tests_true tests r && joined joins parent r && inside r) rows

-- with more conditions the rows are those that meet these too
with_more : (rows : List Row) (tests : List Test) (links : List Link) (more : List Link) (inside : Row → Bool) (parent : Row) → joining rows tests (links ++ more) inside parent ≡ filter (joined more parent) (passing rows tests links inside parent)
with_more rows tests links more inside parent =
    simp (kept_both, list_all-append, and_assoc, λ (r : Row). and_comm (inside r) (joined more parent r))

-- with no further condition they are the same
with_none : (rows : List Row) (tests : List Test) (links : List Link) (inside : Row → Bool) (parent : Row) → joining rows tests (links ++ []) inside parent ≡ passing rows tests links inside parent
with_none rows tests links inside parent = with_more rows tests links [] inside parent ∙ kept_all (passing rows tests links inside parent)

module _ {Total : Type 0} (db : Contents) (house : Meaning Total) where
  -- the test of a parent's row that a translated block serves
  abbrev pub flat_true : Flat → (Row → Bool) → Row → Bool
  flat_true f inside row =
      holds f.comparison (operand_of f.operand row) (aggregated house f.aggregate (joining (db f.table) f.tests f.joins inside row))

  abbrev pub flat_judged : List Flat → Row → Bool
  flat_judged [] row = true
  flat_judged (f ∷ fs) row = flat_true f (flat_judged fs) row

  by_any : (b : Inner) (operand : ℕ) (comparison : Comparison) (inner : ℕ) (inside : Row → Bool) (row : Row) → flat_true (flat_any b operand comparison inner) inside row ≡ some (λ r. holds comparison (cell operand row) (cell inner r)) (passing (db b.table) b.tests b.links inside row)
  by_any b operand comparison inner inside row =
      simp (zero_less, with_more, some_kept)
      (ap (λ p. some p (passing (db b.table) b.tests b.links inside row)) (fun_ext λ r. and-true _ ∙ holds-mirrored comparison (cell operand row) (cell inner r)))

  -- a block whose nested test compares an operand with an aggregate, and adds no condition
  by_aggregate : (b : Inner) (operand : Operand) (comparison : Comparison) (a : Aggregate) (inside : Row → Bool) (row : Row) → flat_true (flat b [] operand comparison a) inside row ≡ holds comparison (operand_of operand row) (aggregated house a (passing (db b.table) b.tests b.links inside row))
  by_aggregate b operand comparison a inside row = simp with_none

  one_test : (b : Inner) (n : Nest) (inside : Row → Bool) (row : Row) → flat_true (translated_as b n) inside row ≡ nest_true house n row (passing (db b.table) b.tests b.links inside row)
  one_test b (Aggregated operand comparison a) inside row = by_aggregate b (Column operand) comparison a inside row
  one_test b (In operand inner) inside row = by_any b operand Equal inner inside row
  one_test b Exists inside row = by_aggregate b Zero Less CountRows inside row ∙ zero_less (passing (db b.table) b.tests b.links inside row)
  one_test b NotExists inside row = by_aggregate b Zero Equal CountRows inside row ∙ zero_equal (passing (db b.table) b.tests b.links inside row)
  one_test b (Any operand comparison inner) inside row = by_any b operand comparison inner inside row
  one_test b (All operand comparison inner) inside row = by_aggregate b (Column operand) comparison (Of (extreme comparison) inner) inside row

  -- all the nested tests of a row, from the translated blocks and from the query's
  pub same_judgement : (bs : List Inner) (row : Row) → flat_judged (map translated bs) row ≡ judged db house bs row
  same_judgement [] row = refl
  same_judgement (b ∷ bs) row =
      simp (one_test b b.nest, same_judgement bs)
