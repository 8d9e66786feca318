-- Laws of comparisons and of aggregates.
use Rattle.std.proofs.Common.{◌≡◌, ℕ, suc, ◌+◌, ◌-◌, ◌^◌, ◌≤◌, true, not, List, [], ◌∷◌, map, length, ℤ, pos, negsuc, Some, None, fold, refl, ap, ◌∙◌, arith}
use Rattle.std.proofs.lemmas.Bool.{le-leb, ne_eqb}
use Rattle.std.proofs.lemmas.Bool.Decides.{nat_tests}
use Rattle.terms.specs.declared.comparisons.Comparison.{Comparison}
use Rattle.terms.specs.declared.comparisons.Comparison.TheVariants.{Equal, NotEqual, Less}
use Rattle.terms.specs.Cells.{Cell, Row, same_number}
use Rattle.terms.specs.Comparisons.{holds, ordered, mirrored}
use Rattle.queries.specs.declared.aggregates.Function.{Function}
use Rattle.queries.specs.declared.aggregates.Function.TheVariants.{House}
use Rattle.queries.specs.declared.aggregates.Aggregate.{Aggregate}
use Rattle.queries.specs.declared.aggregates.Aggregate.TheVariants.{CountRows, Of}
use Rattle.meaning.specs.Rows.{some}
use Rattle.meaning.specs.Aggregates.{Meaning, answered, capped, counted, number_of_rows, aggregated}
use Rattle.meaning.specs.Running.{brought, joined_cells, answer_over}

same_number_sym : (x y : ℤ) → same_number x y ≡ same_number y x
same_number_sym (pos a) (pos b) = grind (arith, nat_tests)
same_number_sym (negsuc a) (negsuc b) = grind (arith, nat_tests)
same_number_sym x y = refl

ordered-mirrored : (c : Comparison) (x y : ℤ) → ordered (mirrored c) y x ≡ ordered c x y
ordered-mirrored Equal x y = same_number_sym y x
ordered-mirrored NotEqual x y = ap not (same_number_sym y x)
ordered-mirrored other x y = refl

-- a comparison with its sides exchanged
pub holds-mirrored : (c : Comparison) (x y : Cell) → holds (mirrored c) y x ≡ holds c x y
holds-mirrored c None None = refl
holds-mirrored c None (Some y) = refl
holds-mirrored c (Some x) None = refl
holds-mirrored c (Some x) (Some y) = ordered-mirrored c x y

-- 0 < COUNT(*) where there is a row, 0 = COUNT(*) where there is none
pub zero_less : (rows : List Row) → holds Less (Some (pos 0)) (number_of_rows (length rows)) ≡ some (λ r. true) rows
zero_less [] = refl
zero_less (r ∷ rs) = le-leb 1 (capped (suc (length rs))) (omega arith)

pub zero_equal : (rows : List Row) → holds Equal (Some (pos 0)) (number_of_rows (length rows)) ≡ not (some (λ r. true) rows)
zero_equal [] = refl
zero_equal (r ∷ rs) = ne_eqb 0 (capped (suc (length rs))) (omega arith)

-- the markers counted from n on
marked : (n : ℕ) (rows : List Row) → n ≤ 2 ^ 63 - 1 → fold counted (pos n) (map (brought CountRows) rows) ≡ pos (capped (n + length rows))
marked n [] h = ap pos (omega arith)
marked n (r ∷ rs) h = marked (capped (n + 1)) rs (omega arith) ∙ ap pos (omega arith)

-- the one absent row brings what no row brings
absent_row : {Total : Type 0} (house : Meaning Total) (f : Function) → answered house f (None ∷ []) ≡ answered house f []
absent_row house House = ap house.answer (house.absent house.start)
absent_row house other = refl

-- what GROUP works out over the joined rows is the aggregate over them
pub group_is_aggregate : {Total : Type 0} (house : Meaning Total) (a : Aggregate) (rows : List Row) → answer_over house a (joined_cells a rows) ≡ aggregated house a rows
group_is_aggregate house CountRows [] = refl
group_is_aggregate house CountRows (r ∷ rs) = ap (λ n. Some n) (marked 0 (r ∷ rs) (omega arith) ∙ ap pos (omega arith))
group_is_aggregate house (Of f column) [] = absent_row house f
group_is_aggregate house (Of f column) (r ∷ rs) = refl
