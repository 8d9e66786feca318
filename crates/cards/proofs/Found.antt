-- What is found in an image: a table, and a row of it.
use Rattle.std.proofs.Common.{◌≡◌, ℕ, ◌+◌, ◌-◌, ◌*◌, ◌<◌, ◌≤◌, true, List, take, drop, Some, None, Option, IfSome, sym, refl, ap, ◌∙◌, arith}
use Rattle.std.proofs.lemmas.Option.{slice_get_past}
use Rattle.std.specs.Option.{option_map}
use Rattle.terms.specs.Tables.{row_at}
use Rattle.sources.proofs.HeadRows.{nth_part}
use Rattle.cards.specs.Format.{row_width, row_of, rows_from}
use Rattle.cards.specs.Verdicts.{row_count, card_takes}
use Rattle.cards.specs.CardTables.{RawTable, raw_table, shown, card_tables}
use Rattle.cards.specs.CardFormed.{Sound, sound_table, length_rows}
use Rattle.cards.specs.declared.format.TableBytes.{TableBytes}
use Rattle.cards.specs.Views.{as_raw}

-- a table that was found is sound
pub sound_found : (image : List ℕ) (n : ℕ) (o : Option TableBytes) → card_takes image ≡ true → option_map as_raw o ≡ raw_table image n → IfSome o (λ t. Sound n (as_raw t))
sound_found image n None taken e = tt
sound_found image n (Some t) taken e = sound_table image n (as_raw t) taken (sym e)

-- Rows.

-- the row as the code cuts it out
pub row_here : (image : List ℕ) (n : ℕ) (t : RawTable) (k w : ℕ) → Some t ≡ raw_table image n → w ≡ row_width t.columns → k < row_count t.columns t.bytes → Some (row_of t.columns (take ((k * w + w) - k * w) (drop (k * w) t.bytes))) ≡ row_at (card_tables image n) k
row_here image n t k w found e h =
    let size : (k * w + w) - k * w ≡ w = omega arith in
    rw size (rw e (sym (nth_part (λ m bs. rows_from m t.columns bs) (row_of t.columns) (row_width t.columns) (λ _ _. refl) (row_count t.columns t.bytes) t.bytes k h)) ∙ ap (λ o. row_at (option_map shown o) k) found)

pub row_past : (image : List ℕ) (n : ℕ) (t : RawTable) (k : ℕ) → Some t ≡ raw_table image n → row_count t.columns t.bytes ≤ k → None ≡ row_at (card_tables image n) k
row_past image n t k found h = sym (slice_get_past _ k (rw length_rows h)) ∙ ap (λ o. row_at (option_map shown o) k) found
