-- The records of an image, one after another.
use Rattle.std.proofs.Common.{◌≡◌, ℕ, zero, suc, ◌+◌, ◌*◌, ◌≤◌, false, ltb, List, [], ◌∷◌, ◌++◌, length, take, drop, refl, ap, ◌∙◌, arith, length-drop, length-take, take-add}
use Rattle.std.proofs.lemmas.Bool.{le-ltb}
use Rattle.std.proofs.lemmas.List.{take_min}
use Rattle.cards.specs.Format.{CardRecord, cut, records, left}
use Rattle.cards.specs.Heads.{size_at, kind_at, Headed}
use Rattle.cards.specs.Verdicts.{records_verdict, card_verdict}

-- more fuel than bytes changes nothing
cut_fuel : (f g place : ℕ) (bs : List ℕ) → length bs ≤ f → length bs ≤ g → cut f place bs ≡ cut g place bs
cut_fuel zero zero place bs p q = refl
cut_fuel zero (suc g) place [] p q = refl
cut_fuel zero (suc g) place (a ∷ bs) p q = absurd (omega arith)
cut_fuel (suc f) zero place [] p q = refl
cut_fuel (suc f) zero place (a ∷ bs) p q = absurd (omega arith)
cut_fuel (suc f) (suc g) place [] p q = refl
cut_fuel (suc f) (suc g) place (a ∷ []) p q = refl
cut_fuel (suc f) (suc g) place (a ∷ (b ∷ [])) p q = refl
cut_fuel (suc f) (suc g) place (a ∷ (b ∷ (c ∷ []))) p q = refl
cut_fuel (suc f) (suc g) place (l0 ∷ (l1 ∷ (k0 ∷ (k1 ∷ rest)))) p q =
    let size : ℕ = l0 + l1 * 256 in
    ap (λ rs. record { place = place; bytes = l0 ∷ (l1 ∷ (k0 ∷ (k1 ∷ take size rest))); size = size; kind = k0 + k1 * 256; payload = take size rest } ∷ rs)
    (cut_fuel f g (place + (4 + size)) (drop size rest) (simp length-drop (omega arith)) (simp length-drop (omega arith)))

-- the record that `bs` begins with
abbrev pub record_at : ℕ → List ℕ → CardRecord
record_at place bs = record { place = place; bytes = take 4 bs ++ take (size_at bs) (drop 4 bs); size = size_at bs; kind = kind_at bs; payload = take (size_at bs) (drop 4 bs) }

pub left_next : (place : ℕ) (bs : List ℕ) → 4 ≤ length bs → left place bs ≡ record_at place bs ∷ left (place + (4 + size_at bs)) (drop (size_at bs) (drop 4 bs))
left_next place [] h = absurd (omega arith)
left_next place (a ∷ []) h = absurd (omega arith)
left_next place (a ∷ (b ∷ [])) h = absurd (omega arith)
left_next place (a ∷ (b ∷ (c ∷ []))) h = absurd (omega arith)
left_next place (l0 ∷ (l1 ∷ (k0 ∷ (k1 ∷ rest)))) h =
    let bs : List ℕ = l0 ∷ (l1 ∷ (k0 ∷ (k1 ∷ rest))) in
    ap (λ rs. record_at place bs ∷ rs)
    (cut_fuel (suc (suc (suc (length rest)))) (length (drop (size_at bs) rest)) (place + (4 + size_at bs)) (drop (size_at bs) rest) (simp length-drop (omega arith)) (omega arith))

-- the record at the front, its bytes in one piece
left_here : (place : ℕ) (bs : List ℕ) → 4 ≤ length bs → left place bs ≡ record { place = place; bytes = take (4 + length (take (size_at bs) (drop 4 bs))) bs; size = size_at bs; kind = kind_at bs; payload = take (size_at bs) (drop 4 bs) } ∷ left (place + 4 + size_at bs) (drop (size_at bs) (drop 4 bs))
left_here place bs h =
    let size = size_at bs in
    let tail = drop 4 bs in
    let n = length (take size tail) in
    let whole : take n tail ≡ take size tail = ap (λ m. take m tail) (length-take size tail) ∙ take_min size tail in
    let bytes : take (4 + n) bs ≡ take 4 bs ++ take size tail = take-add 4 n bs ∙ ap (λ l. take 4 bs ++ l) whole in
    let behind : place + 4 + size ≡ place + (4 + size) = omega arith in
    rw bytes (rw behind (left_next place bs h))

-- the same, as the code takes it off
pub left_is : (place size kind : ℕ) (bs tail payload : List ℕ) → Headed bs size kind tail → payload ≡ take size tail → left place bs ≡ record { place = place; bytes = take (4 + length payload) bs; size = size; kind = kind; payload = payload } ∷ left (place + 4 + size) (drop size tail)
left_is place size kind bs tail payload k p = rw (p, k.rest, k.sized, k.kinded) (left_here place bs k.long)

pub verdict_is : (image : List ℕ) → length image ≤ 65536 → records_verdict (records image) ≡ card_verdict image
verdict_is image h = let e : ltb 65536 (length image) ≡ false = le-ltb _ _ h in rw e
