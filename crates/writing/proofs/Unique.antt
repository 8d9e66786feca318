-- Bytes that passed the load are the writing of what they show.
use Rattle.std.proofs.Common.{◌≡◌, ℕ, zero, suc, ◌+◌, ◌*◌, ◌/◌, ◌%◌, ◌<◌, Bool, true, false, cond, not, ◌||◌, eqb, ltb, List, [], ◌∷◌, ◌++◌, map, length, take, drop, Some, None, sym, refl, ap, ◌∙◌, mod-eq_of_lt, suc-mul, zero-mul, arith, length-drop, take-append-drop, length-take, w32, to_z}
use native.Mathlib.Nat.{div-div-eq-div-mul}
use Rattle.std.proofs.lemmas.Nat.{div-mul-add, mod-mul-add}
use Rattle.std.proofs.ByRecursion.{All-take, All-drop}
use Rattle.std.proofs.lemmas.List.{nil_from_length}
use Rattle.std.proofs.lemmas.Int.{of_z-to_z}
use Rattle.std.proofs.lemmas.Bool.{and_parts, eqb-true, eqb-false}
use Rattle.std.specs.List.{flat_map}
use Rattle.terms.specs.Cells.{Row}
use Rattle.cards.specs.Format.{row_width, word, first_cell, cells_of, cells_right, row_of, row_right, rows_from, rows_right}
use Rattle.writing.specs.Laws.{Bytes}
use Rattle.writing.specs.Records.{four_bytes, cell_bytes, mark_bit, mark_of, row_bytes}

four : (a b c d : ℕ) → a < 256 → b < 256 → c < 256 → d < 256 → four_bytes (a + b * 256 + c * 65536 + d * 16777216) ≡ a ∷ (b ∷ (c ∷ (d ∷ [])))
four a b c d p q r s =
    let n : ℕ = a + b * 256 + c * 65536 + d * 16777216 in
    let n1 : n ≡ (b + c * 256 + d * 65536) * 256 + a = omega arith in
    let n2 : b + c * 256 + d * 65536 ≡ (c + d * 256) * 256 + b = omega arith in
    let q1 : n / 256 ≡ b + c * 256 + d * 65536 = ap (λ x. x / 256) n1 ∙ div-mul-add _ 256 a p in
    let q2 : n / 65536 ≡ c + d * 256 = sym (div-div-eq-div-mul n 256 256) ∙ ap (λ x. x / 256) (q1 ∙ n2) ∙ div-mul-add _ 256 b q in
    let m2 : c + d * 256 ≡ d * 256 + c = omega arith in
    let q3 : n / 16777216 ≡ d = sym (div-div-eq-div-mul n 65536 256) ∙ ap (λ x. x / 256) (q2 ∙ m2) ∙ div-mul-add d 256 c r in
    let e0 : n % 256 ≡ a = ap (λ x. x % 256) n1 ∙ mod-mul-add _ 256 a p in
    let e1 : n / 256 % 256 ≡ b = ap (λ x. x % 256) (q1 ∙ n2) ∙ mod-mul-add _ 256 b q in
    let e2 : n / 65536 % 256 ≡ c = ap (λ x. x % 256) (q2 ∙ m2) ∙ mod-mul-add d 256 c r in
    let e3 : n / 16777216 % 256 ≡ d = ap (λ x. x % 256) q3 ∙ mod-eq_of_lt s in
    rw (e0, e1, e2, e3)

-- four bytes as a cell, by the mark's lowest bit
cell_unique : (a b c d mark : ℕ) (tail : List ℕ) → a < 256 → b < 256 → c < 256 → d < 256 → (eqb (mark % 2) 0 || eqb (word (a ∷ (b ∷ (c ∷ (d ∷ tail))))) 0) ≡ true → (cell_bytes (first_cell mark (a ∷ (b ∷ (c ∷ (d ∷ tail))))) ≡ a ∷ (b ∷ (c ∷ (d ∷ [])))) × (mark ≡ mark_bit (first_cell mark (a ∷ (b ∷ (c ∷ (d ∷ tail))))) + 2 * (mark / 2))
cell_unique a b c d mark tail p q r s h = go (eqb (mark % 2) 0) refl h
  where
    n : ℕ
    n = a + b * 256 + c * 65536 + d * 16777216

    go : (t : Bool) → eqb (mark % 2) 0 ≡ t → (t || eqb (a + b * 256 + c * 65536 + d * 16777216) 0) ≡ true → (cell_bytes (cond t (Some (to_z w32 (a + b * 256 + c * 65536 + d * 16777216))) None) ≡ a ∷ (b ∷ (c ∷ (d ∷ [])))) × (mark ≡ mark_bit (cond t (Some (to_z w32 (a + b * 256 + c * 65536 + d * 16777216))) None) + 2 * (mark / 2))
    go true e h = (ap four_bytes (of_z-to_z w32 (a + b * 256 + c * 65536 + d * 16777216) (omega arith)) ∙ four a b c d p q r s, omega (arith, eqb-true _ _ e))
    go false e h =
        let z : a + b * 256 + c * 65536 + d * 16777216 ≡ 0 = eqb-true _ _ h in
        let za : a ≡ 0 = omega arith in
        let zb : b ≡ 0 = omega arith in
        let zc : c ≡ 0 = omega arith in
        let zd : d ≡ 0 = omega arith in
        (rw (za, zb, zc, zd), omega (arith, eqb-false _ _ e))

pub cells_unique : (n mark : ℕ) (bs : List ℕ) → length bs ≡ 4 * n → Bytes bs → cells_right n mark bs ≡ true → (mark ≡ mark_of (cells_of n mark bs)) × (bs ≡ flat_map cell_bytes (cells_of n mark bs))
cells_unique zero mark bs l h r = (eqb-true _ _ r, nil_from_length bs l)
cells_unique (suc n) mark [] l h r = absurd (omega arith)
cells_unique (suc n) mark (a ∷ []) l h r = absurd (omega arith)
cells_unique (suc n) mark (a ∷ (b ∷ [])) l h r = absurd (omega arith)
cells_unique (suc n) mark (a ∷ (b ∷ (c ∷ []))) l h r = absurd (omega arith)
cells_unique (suc n) mark (a ∷ (b ∷ (c ∷ (d ∷ tail)))) l h r =
    let parts = and_parts (eqb (mark % 2) 0 || eqb (word (a ∷ (b ∷ (c ∷ (d ∷ tail))))) 0) (cells_right n (mark / 2) tail) r in
    let here = cell_unique a b c d mark tail h.0 h.1.0 h.1.1.0 h.1.1.1.0 parts.0 in
    let later = cells_unique n (mark / 2) tail (omega arith) h.1.1.1.1 parts.1 in
    (omega (arith, here.1, later.0), ap (λ l. a ∷ (b ∷ (c ∷ (d ∷ l)))) later.1 ∙ sym (ap (λ e. e ++ flat_map cell_bytes (cells_of n (mark / 2) tail)) here.0))

pub row_unique : (columns : ℕ) (row : List ℕ) (r : Row) → length row ≡ row_width columns → Bytes row → row_right columns row ≡ true → row_of columns row ≡ Some r → row ≡ row_bytes r
row_unique columns [] r l h w e = absurd (omega arith)
row_unique columns (m ∷ bs) r l h w e = go (ltb m 128) w e
  where
    go : (t : Bool) → (not t || cells_right columns m bs) ≡ true → cond t (Some (cells_of columns m bs)) None ≡ Some r → m ∷ bs ≡ row_bytes r
    go true w e =
        let is : cells_of columns m bs ≡ r = cc in
        let u = cells_unique columns m bs (omega arith) h.1 w in
        let a : m ≡ mark_of r = u.0 ∙ ap mark_of is in
        let b : bs ≡ flat_map cell_bytes r = u.1 ∙ ap (flat_map cell_bytes) is in
        cc
    go false w e = let z : ◌≡◌ {A = ℕ} 0 1 = cc in absurd (omega arith)

pub rows_unique : (k columns : ℕ) (bs : List ℕ) (rows : List Row) → length bs ≡ k * row_width columns → Bytes bs → rows_right k columns bs ≡ true → rows_from k columns bs ≡ map Some rows → bs ≡ flat_map row_bytes rows
rows_unique zero columns bs [] l h w e = nil_from_length bs (l ∙ zero-mul (row_width columns))
rows_unique zero columns bs (r ∷ rows) l h w e = let z : ◌≡◌ {A = ℕ} 0 1 = cc in absurd (omega arith)
rows_unique (suc k) columns bs [] l h w e = let z : ◌≡◌ {A = ℕ} 0 1 = cc in absurd (omega arith)
rows_unique (suc k) columns bs (r ∷ rows) l h w e =
    let parts = and_parts (row_right columns (take (row_width columns) bs)) (rows_right k columns (drop (row_width columns) bs)) w in
    let e0 : row_of columns (take (row_width columns) bs) ≡ Some r = cc in
    let e1 : rows_from k columns (drop (row_width columns) bs) ≡ map Some rows = cc in
    let a = row_unique columns (take (row_width columns) bs) r (rw length-take (omega (arith, l, suc-mul k (row_width columns)))) (All-take (λ b. b < 256) (row_width columns) bs h) parts.0 e0 in
    let b = rows_unique k columns (drop (row_width columns) bs) rows (rw length-drop (omega (arith, l, suc-mul k (row_width columns)))) (All-drop (λ b. b < 256) (row_width columns) bs h) parts.1 e1 in
    sym (take-append-drop (row_width columns) bs) ∙ ap (λ x. x ++ drop (row_width columns) bs) a ∙ ap (λ x. row_bytes r ++ x) b
