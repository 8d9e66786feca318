-- One entry more spells the query after it.
use Rattle.std.proofs.Common.{◌≡◌, [], ◌∷◌, ◌++◌, sym, ap, ◌∙◌}
use Rattle.queries.specs.declared.entries.Entry.{Entry}
use Rattle.meaning.specs.Spelling.{Spelled, fresh, entered}
use Rattle.std.proofs.lemmas.List.Sums.{fold-append}
use Rattle.sheets.specs.Drafts.{SpelledBy}

pub spelled_more : (s t : Spelled) (e : Entry) → t ≡ entered s e → SpelledBy s → SpelledBy t
spelled_more s t e h by = (by.0 ++ (e ∷ []), h ∙ ap (λ x. entered x e) by.1 ∙ sym (fold-append entered fresh by.0 (e ∷ [])))
