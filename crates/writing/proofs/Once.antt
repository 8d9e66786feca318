-- The record that counts for a number, where the table has no unreadable row, is the table's writing.
use Rattle.std.proofs.Common.{◌≡◌, ℕ, zero, suc, ◌+◌, ◌*◌, ◌/◌, ◌%◌, ◌<◌, Bool, true, false, cond, eqb, ltb, List, [], ◌∷◌, map, length, take, drop, is_ok, Some, None, Option, sym, refl, ap, ◌∙◌, subst, mod-eq_of_lt, div-add-mod', arith, length-take}
use Rattle.std.proofs.lemmas.Nat.{div-mul-add, mod-mul-add}
use Rattle.std.proofs.lemmas.Bool.{eqb-true, ltb-false}
use Rattle.std.specs.List.{flat_map}
use Rattle.std.specs.Option.{option_map}
use Rattle.terms.specs.Cells.{Row}
use Rattle.terms.specs.Tables.{Table}
use Rattle.terms.proofs.Loops.{numbered_in_front, numbered_behind}
use Rattle.terms.proofs.Taken.{taken_at, taken_else}
use Rattle.cards.specs.Format.{CardRecord, cut, row_width}
use Rattle.cards.specs.Verdicts.{row_count, payload_verdict, record_verdict, records_verdict, card_takes}
use Rattle.cards.specs.CardTables.{RawTable, table_in_payload, table_in, tables_in, table_for, raw_table, shown}
use Rattle.cards.specs.CardFormed.{Sound, sound_table, records_taken}
use Rattle.writing.specs.Laws.{Bytes, WrittenOnce}
use Rattle.writing.specs.Records.{row_bytes, table_record}
use Rattle.writing.proofs.Unique.{rows_unique}

-- a table's record as it stands: four bytes of head that give the payload's length and kind 1, then the payload
record Standing (t : RawTable) : Type 0 where
  pub l0 : ℕ
  pub l1 : ℕ
  pub k0 : ℕ
  pub k1 : ℕ
  pub whole : t.whole ≡ l0 ∷ (l1 ∷ (k0 ∷ (k1 ∷ (t.number ∷ (t.columns ∷ t.bytes)))))
  pub sized : l0 + l1 * 256 ≡ 2 + length t.bytes
  pub kinded : k0 + k1 * 256 ≡ 1

-- a payload's table, found under its number
payload_is : (n : ℕ) (whole p : List ℕ) (t : RawTable) → table_for (table_in_payload whole p) n ≡ Some t → (t.whole ≡ whole) × (p ≡ t.number ∷ (t.columns ∷ t.bytes)) × (t.number ≡ n)
payload_is n whole [] t e = (cc, cc, cc)
payload_is n whole (a ∷ []) t e = (cc, cc, cc)
payload_is n whole (a ∷ (b ∷ bs)) t e = go (eqb a n) refl e
  where
    go : (q : Bool) → eqb a n ≡ q → cond q (Some (record { whole = whole; number = a; columns = b; bytes = bs })) None ≡ Some t → (t.whole ≡ whole) × (a ∷ (b ∷ bs) ≡ t.number ∷ (t.columns ∷ t.bytes)) × (t.number ≡ n)
    go true q e =
        let found : RawTable = record { whole = whole; number = a; columns = b; bytes = bs } in
        let is : found ≡ t = cc in
        (sym (ap (λ x. x.whole) is), ap (λ x. x.number ∷ (x.columns ∷ x.bytes)) is, sym (ap (λ x. x.number) is) ∙ eqb-true a n q)
    go false q e = (cc, cc, cc)

kind_is : (n kind : ℕ) (whole p : List ℕ) (t : RawTable) → table_for (table_in whole kind p) n ≡ Some t → (kind ≡ 1) × (table_for (table_in_payload whole p) n ≡ Some t)
kind_is n kind whole p t e = go (eqb kind 1) refl e
  where
    go : (q : Bool) → eqb kind 1 ≡ q → table_for (cond q (table_in_payload whole p) []) n ≡ Some t → (kind ≡ 1) × (table_for (table_in_payload whole p) n ≡ Some t)
    go true q e = (eqb-true kind 1 q, e)
    go false q e = (cc, cc)

-- each table that counts stands so
standing : (f place : ℕ) (bs : List ℕ) (n : ℕ) (t : RawTable) → is_ok (records_verdict (cut f place bs)) ≡ true → table_for (tables_in (cut f place bs)) n ≡ Some t → Standing t × (t.number ≡ n)
standing zero place bs n t w e = let z : ◌≡◌ {A = ℕ} 0 1 = cc in absurd (omega arith)
standing (suc f) place [] n t w e = let z : ◌≡◌ {A = ℕ} 0 1 = cc in absurd (omega arith)
standing (suc f) place (a ∷ []) n t w e = let z : ◌≡◌ {A = ℕ} 0 1 = cc in absurd (omega arith)
standing (suc f) place (a ∷ (b ∷ [])) n t w e = let z : ◌≡◌ {A = ℕ} 0 1 = cc in absurd (omega arith)
standing (suc f) place (a ∷ (b ∷ (c ∷ []))) n t w e = let z : ◌≡◌ {A = ℕ} 0 1 = cc in absurd (omega arith)
standing (suc f) place (l0 ∷ (l1 ∷ (k0 ∷ (k1 ∷ rest)))) n t w e =
    let size : ℕ = l0 + l1 * 256 in
    let payload : List ℕ = take size rest in
    let r : CardRecord = record { place = place; bytes = l0 ∷ (l1 ∷ (k0 ∷ (k1 ∷ payload))); size = size; kind = k0 + k1 * 256; payload = payload } in
    let taken = taken_at (record_verdict r) place (records_verdict (cut f (place + (4 + size)) (drop size rest))) w in
    let whole = taken_else (ltb (length payload) size) (payload_verdict (k0 + k1 * 256) payload) _ taken.0 in
    let long : size ≡ length payload = omega (arith, ltb-false _ _ whole.0, length-take size rest) in
    go (table_for (table_in r.bytes r.kind payload) n) refl long (standing f (place + (4 + size)) (drop size rest) n t taken.1)
  where
    go : (o : Option RawTable) → table_for (table_in (l0 ∷ (l1 ∷ (k0 ∷ (k1 ∷ take (l0 + l1 * 256) rest)))) (k0 + k1 * 256) (take (l0 + l1 * 256) rest)) n ≡ o → l0 + l1 * 256 ≡ length (take (l0 + l1 * 256) rest) → (table_for (tables_in (cut f (place + (4 + (l0 + l1 * 256))) (drop (l0 + l1 * 256) rest))) n ≡ Some t → Standing t × (t.number ≡ n)) → Standing t × (t.number ≡ n)
    go None q long later = later (sym (numbered_behind (λ x. x.number) n (table_in (l0 ∷ (l1 ∷ (k0 ∷ (k1 ∷ take (l0 + l1 * 256) rest)))) (k0 + k1 * 256) (take (l0 + l1 * 256) rest)) (tables_in (cut f (place + (4 + (l0 + l1 * 256))) (drop (l0 + l1 * 256) rest))) q) ∙ e)
    go (Some g) q long later =
        let whole : List ℕ = l0 ∷ (l1 ∷ (k0 ∷ (k1 ∷ take (l0 + l1 * 256) rest))) in
        let payload : List ℕ = take (l0 + l1 * 256) rest in
        let same : Some g ≡ Some t = sym (numbered_in_front (λ x. x.number) n (table_in whole (k0 + k1 * 256) payload) (tables_in (cut f (place + (4 + (l0 + l1 * 256))) (drop (l0 + l1 * 256) rest))) g q) ∙ e in
        let k = kind_is n (k0 + k1 * 256) whole payload t (q ∙ same) in
        let p = payload_is n whole payload t k.1 in (
          record {
            l0 = l0;
            l1 = l1;
            k0 = k0;
            k1 = k1;
            whole = p.0 ∙ ap (λ x. l0 ∷ (l1 ∷ (k0 ∷ (k1 ∷ x)))) p.1;
            sized = omega (arith, long, ap length p.1);
            kinded = k.0;
          },
          p.2,
        )

-- bytes of which the head is four
head_unique : (n l0 l1 k0 k1 columns : ℕ) (bytes : List ℕ) (rows : List Row) → l0 < 256 → l1 < 256 → k0 < 256 → k0 + k1 * 256 ≡ 1 → l0 + l1 * 256 ≡ 2 + length bytes → bytes ≡ flat_map row_bytes rows → l0 ∷ (l1 ∷ (k0 ∷ (k1 ∷ (n ∷ (columns ∷ bytes))))) ≡ table_record n columns rows
head_unique n l0 l1 k0 k1 columns bytes rows a b c kind size e =
    let z1 : k1 ≡ 0 = omega arith in
    let z0 : k0 ≡ 1 = omega arith in
    let long : 2 + length (flat_map row_bytes rows) ≡ l1 * 256 + l0 = omega (arith, ap length e, size) in
    let e0 : (2 + length (flat_map row_bytes rows)) % 256 ≡ l0 = ap (λ x. x % 256) long ∙ mod-mul-add l1 256 l0 a in
    let e1 : (2 + length (flat_map row_bytes rows)) / 256 % 256 ≡ l1 = ap (λ x. x / 256 % 256) long ∙ ap (λ x. x % 256) (div-mul-add l1 256 l0 a) ∙ mod-eq_of_lt b in
    rw (e, z0, z1, e0, e1)

table_unique : (n : ℕ) (t : RawTable) (rows : List Row) → Standing t → t.number ≡ n → Sound n t → Bytes t.whole → (shown t).rows ≡ map Some rows → t.whole ≡ table_record n t.columns rows
table_unique n t rows s m sound bytes e =
    let h : Bytes (s.l0 ∷ (s.l1 ∷ (s.k0 ∷ (s.k1 ∷ (t.number ∷ (t.columns ∷ t.bytes)))))) = subst Bytes s.whole bytes in
    let long : length t.bytes ≡ row_count t.columns t.bytes * row_width t.columns = omega (arith, div-add-mod' (length t.bytes) (row_width t.columns), sound.whole) in
    let body : t.bytes ≡ flat_map row_bytes rows = rows_unique (row_count t.columns t.bytes) t.columns t.bytes rows long h.1.1.1.1.1.1 sound.right e in
    s.whole ∙ ap (λ x. s.l0 ∷ (s.l1 ∷ (s.k0 ∷ (s.k1 ∷ (x ∷ (t.columns ∷ t.bytes)))))) m
    ∙ head_unique n s.l0 s.l1 s.k0 s.k1 t.columns t.bytes rows h.0 h.1.0 h.1.1.0 s.kinded s.sized body

-- the record found for a number is the one writing of the table shown
written_once : (image : List ℕ) (n : ℕ) (t : RawTable) → card_takes image ≡ true → raw_table image n ≡ Some t → Bytes t.whole → WrittenOnce image n (Some t.whole)
written_once image n t taken found bytes columns rows e =
    let stands = standing (length image) 0 image n t (records_taken image taken) found in
    let same : Some (shown t) ≡ Some (record { columns = columns; rows = map Some rows }) = sym (ap (option_map shown) found) ∙ e in
    let is : shown t ≡ record { columns = columns; rows = map Some rows } = cc in
    ap Some (table_unique n t rows stands.0 stands.1 (sound_table image n t taken found) bytes (ap (λ x. x.rows) is) ∙ ap (λ k. table_record n k rows) (ap (λ x. x.columns) is))

none_written : (image : List ℕ) (n : ℕ) → raw_table image n ≡ None → WrittenOnce image n None
none_written image n none columns rows e = let z : ◌≡◌ {A = Option Table} None (Some (record { columns = columns; rows = map Some rows })) = sym (ap (option_map shown) none) ∙ e in cc

-- the same of what the code finds
pub found_once : (image : List ℕ) (n : ℕ) (bytes : List ℕ) → card_takes image ≡ true → Some bytes ≡ option_map (λ t. t.whole) (raw_table image n) → Bytes bytes → WrittenOnce image n (Some bytes)
found_once image n bytes taken e h = go (raw_table image n) refl e
  where
    go : (o : Option RawTable) → raw_table image n ≡ o → Some bytes ≡ option_map (λ t. t.whole) o → WrittenOnce image n (Some bytes)
    go None q e = let z : ◌≡◌ {A = ℕ} 0 1 = cc in absurd (omega arith)
    go (Some t) q e =
        let same : bytes ≡ t.whole = cc in
        subst (λ b. WrittenOnce image n (Some b)) (sym same) (written_once image n t taken q (subst Bytes same h))

pub none_once : (image : List ℕ) (n : ℕ) → None ≡ option_map (λ t. t.whole) (raw_table image n) → WrittenOnce image n None
none_once image n e = go (raw_table image n) refl e
  where
    go : (o : Option RawTable) → raw_table image n ≡ o → None ≡ option_map (λ t. t.whole) o → WrittenOnce image n None
    go None q e = none_written image n q
    go (Some t) q e = let z : ◌≡◌ {A = ℕ} 0 1 = cc in absurd (omega arith)
