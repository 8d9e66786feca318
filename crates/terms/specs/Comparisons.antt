-- The comparisons: their numbers, and when each is true.
use Rattle.std.specs.Prelude.{ℕ, Bool, false, not, List, [], ◌∷◌, ℤ, Some, None, Option, int_le, int_lt}
use Rattle.terms.specs.declared.comparisons.Comparison.{Comparison}
use Rattle.terms.specs.declared.comparisons.Comparison.TheVariants.{Equal, NotEqual, Less, LessOrEqual, Greater, GreaterOrEqual}
use Rattle.terms.specs.Cells.{Cell, same_number}
use Rattle.terms.specs.Numbered.{numbered}

abbrev pub comparison_number : Comparison → ℕ
comparison_number Equal = 1
comparison_number NotEqual = 2
comparison_number Less = 3
comparison_number LessOrEqual = 4
comparison_number Greater = 5
comparison_number GreaterOrEqual = 6

abbrev pub comparisons : List Comparison
comparisons = Equal ∷ (NotEqual ∷ (Less ∷ (LessOrEqual ∷ (Greater ∷ (GreaterOrEqual ∷ [])))))

-- the comparison with a number, if there is one
abbrev pub comparison_numbered : ℕ → Option Comparison
comparison_numbered n = numbered comparison_number comparisons n

-- the comparison with its sides exchanged
abbrev pub mirrored : Comparison → Comparison
mirrored Equal = Equal
mirrored NotEqual = NotEqual
mirrored Less = Greater
mirrored LessOrEqual = GreaterOrEqual
mirrored Greater = Less
mirrored GreaterOrEqual = LessOrEqual

-- whether two numbers compare so
abbrev pub ordered : Comparison → ℤ → ℤ → Bool
ordered Equal x y = same_number x y
ordered NotEqual x y = not (same_number x y)
ordered Less x y = int_lt x y
ordered LessOrEqual x y = int_le x y
ordered Greater x y = int_lt y x
ordered GreaterOrEqual x y = int_le y x

-- whether a comparison is true: with an absent side it is unknown, which is not true
abbrev pub holds : Comparison → Cell → Cell → Bool
holds c None y = false
holds c (Some x) None = false
holds c (Some x) (Some y) = ordered c x y
