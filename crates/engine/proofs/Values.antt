-- Work cells by their values.
use Rattle.std.proofs.Common.{◌≡◌, ℕ, ◌+◌, ◌-◌, ◌<◌, List, ◌++◌, length, get_or, take, drop, set, None, sym, ap, ◌∙◌, ap₂, arith}
use lib.Seq.{paste}
use Rattle.std.proofs.lemmas.List.{take-map, drop-map, map-append, map-set, get_or-map, length-map}
use Rattle.std.proofs.lemmas.List.Edits.{paste_more}
use Rattle.terms.specs.declared.cells.WorkCell.{WorkCell}
use Rattle.terms.specs.Cells.{Cell}
use Rattle.engine.specs.Rows.{value_of, values}

abbrev pub absent : WorkCell
absent = record { value = None }

pub length-values : (xs : List WorkCell) → length (values xs) ≡ length xs
length-values xs = length-map xs value_of

pub values_part : (at n : ℕ) (xs : List WorkCell) → values (take n (drop at xs)) ≡ take n (drop at (values xs))
values_part at n xs = sym (ap (take n) (drop-map value_of at xs) ∙ take-map value_of n (drop at xs))

pub values_at : (xs : List WorkCell) (i : ℕ) → i < length xs → get_or (values xs) i None ≡ (get_or xs i absent).value
values_at xs i h = get_or-map value_of xs i absent None h

pub values_paste : (d s : List WorkCell) (at n : ℕ) → values (paste d at s n) ≡ paste (values d) at (values s) n
values_paste d s at n =
    map-append value_of (take at d ++ take n s) (drop (at + n) d)
    ∙ ap₂ (λ a b. a ++ b) (map-append value_of (take at d) (take n s) ∙ ap₂ (λ a b. a ++ b) (sym (take-map value_of at d)) (sym (take-map value_of n s))) (sym (drop-map value_of (at + n) d))

-- w cells copied from one place to another
pub values_copied : (xs after : List WorkCell) (from to w : ℕ) → after ≡ paste xs to (drop from xs) (from + w - from) → values after ≡ paste (values xs) to (drop from (values xs)) w
values_copied xs after from to w e =
    let same : from + w - from ≡ w = omega arith in
    ap values e ∙ values_paste xs (drop from xs) to (from + w - from) ∙ ap₂ (λ s n. paste (values xs) to s n) (sym (drop-map value_of from xs)) same

-- one more cell of s, written behind those before it
pub stored_more : (d xs : List WorkCell) (at i : ℕ) (s : List Cell) (c : Cell) → values xs ≡ paste (values d) at s i → at + i < length d → i < length s → get_or s i None ≡ c
    → values (set xs (at + i) (record { value = c })) ≡ paste (values d) at s (i + 1)
stored_more d xs at i s c inv h k e =
    let room : at + i < length (values d) = rw (length-values d) h in
    map-set value_of xs (at + i) (record { value = c })
    ∙ ap₂ (λ v x. set v (at + i) x) inv (sym e)
    ∙ paste_more (values d) at s i None room k
