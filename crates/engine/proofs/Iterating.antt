-- One call of an iterator over rows, or over groups.
use Rattle.std.proofs.Common.{◌≡◌, ℕ, suc, ◌+◌, ◌-◌, ◌<◌, List, ◌∷◌, map, length, get_or, take, drop, Some, sym, ap, ◌∙◌, ap₂, arith}
use Rattle.std.specs.Iterator.{MakesProgress, item_count}
use Rattle.std.proofs.lemmas.List.{take-map, drop-map}
use Rattle.terms.specs.declared.cells.WorkCell.{WorkCell}
use Rattle.sources.specs.Heads.{rows_in}
use Rattle.meaning.specs.Running.{Group}
use Rattle.engine.specs.Rows.{value_of, values, group_in, groups_in}
use Rattle.engine.proofs.Values.{values_at, absent}

-- an iterator that gave the first of what it had left has fewer left
pub one_fewer : {S A B : Type 0} (rest : S → List B) (s t : S) (x : A) (y : B) → rest s ≡ y ∷ rest t → MakesProgress (λ s. Unit {0}) (item_count rest) s (Some x) t
one_fewer rest s t x y e = record { on = λ f. (tt, tt, omega (arith, ap length e)); keeps = tt; rests = λ f. tt }

-- the first row, and the others
pub rows_next : (n count w : ℕ) (cells row rest : List WorkCell) → n ≡ count + 1 → row ≡ take w cells → rest ≡ drop w cells → rows_in n w (values cells) ≡ values row ∷ rows_in count w (values rest)
rows_next n count w cells row rest all front back =
    let next : n ≡ suc count = omega arith in
    ap (λ m. rows_in m w (values cells)) next
    ∙ ap₂ (λ r rs. r ∷ rs) (take-map value_of w cells ∙ ap values (sym front)) (ap (rows_in count w) (drop-map value_of w cells ∙ ap values (sym back)))

-- the first group, and the others
pub groups_next : (n count len : ℕ) (keys key rest : List WorkCell) → n ≡ count + 1 → key ≡ take (len + 1) keys → rest ≡ drop (len + 1) keys → len < length key
    → groups_in n (len + 1) (values keys) ≡ record { tuple = values (take len key); answer = (get_or key len absent).value } ∷ groups_in count (len + 1) (values rest)
groups_next n count len keys key rest all front back inside =
    let one : len + 1 - 1 ≡ len = omega arith in
    let first : group_in (len + 1 - 1) (values key) ≡ record { tuple = values (take len key); answer = (get_or key len absent).value } =
    ap (λ m. group_in m (values key)) one ∙ ap₂ (λ t a. record { tuple = t; answer = a }) (take-map value_of len key) (values_at key len inside) in
    ap (map (group_in (len + 1 - 1))) (rows_next n count (len + 1) keys key rest all front back)
    ∙ ap (λ (g : Group). g ∷ groups_in count (len + 1) (values rest)) first
